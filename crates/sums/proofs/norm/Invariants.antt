-- `sums::norm` meets its contract.
use Rattle.rules.specs.Arithmetic.{◌*ᶠ◌, +0, at}
use Rattle.rules.proofs.Arithmetic.{Summed}
use Rattle.sums.proofs.norm.Given as goal

abbrev pub invariant-loop-v : goal.invariant-loop-v
invariant-loop-v l = Summed +0 (λ k. at l.x k *ᶠ at l.x k) l.v-index l.sum
