-- `norms::norm_by` meets its contract.
use native.Mathlib.Omega.{arith}
use mathlib.Core.Path.{◌≡◌}
use Rattle.norms.proofs.norm_by.Goals as goal

pub returns : goal.returns
returns c = let e : c.args.edition ≡ 2 = omega arith in rw e c.norm_by_halves.ensures
