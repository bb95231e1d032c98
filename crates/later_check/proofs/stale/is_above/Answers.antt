-- `later_check::stale::is_above` meets its contract.
use native.Mathlib.Omega.{arith}
use Rattle.later_check.proofs.Counts.{above_divided}
use Rattle.later_check.proofs.stale.is_above.Goals as goal

pub returns-else-sweeps-eq0 : goal.returns-else-sweeps-eq0
returns-else-sweeps-eq0 c = above_divided c.args.q c.args.k c.args.sweeps c.args.pairs (omega arith) (omega (arith, c.if-sweeps-eq0.false.0)) (omega (arith, c.if-sweeps-eq0.false.1))
