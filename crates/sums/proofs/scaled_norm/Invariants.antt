-- `sums::scaled_norm` meets its contract.
use Rattle.rules.specs.Arithmetic.{◌*ᶠ◌, +0, at}
use Rattle.rules.specs.Vectors.{two^−600}
use Rattle.rules.proofs.Arithmetic.{Summed}
use Rattle.sums.proofs.scaled_norm.Given as goal

abbrev pub invariant-loop-v : goal.invariant-loop-v
invariant-loop-v l = Summed +0 (λ k. (two^−600 *ᶠ at l.x k) *ᶠ (two^−600 *ᶠ at l.x k)) l.v-index l.total
