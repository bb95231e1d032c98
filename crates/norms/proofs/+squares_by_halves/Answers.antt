-- `norms::squares_by_halves` meets its contract.
use native.Mathlib.Omega.{arith}
use mathlib.Core.Path.{refl}
use Rattle.halves.proofs.Ranges.{two_halves}
use Rattle.norms.specs.Squares.{square_of}
use Rattle.norms.proofs.+squares_by_halves.Goals as goal

pub returns : goal.returns
returns t c = two_halves (λ v. square_of c.args.smaller v) c.args.x.now refl (omega arith) c.split_at.ensures.front c.split_at.ensures.back c.squares_by_halves.ensures c.squares_by_halves-2.ensures
