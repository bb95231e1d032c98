-- `norms::norm_by_halves` meets its contract. It calls itself once, with smaller numbers.
use mathlib.Core.Bool.{cond}
use Rattle.norms.proofs.+norm_by_halves.Given as goal

abbrev pub decreases-norm_by_halves : goal.decreases-norm_by_halves
decreases-norm_by_halves l = cond l.smaller 0 1
