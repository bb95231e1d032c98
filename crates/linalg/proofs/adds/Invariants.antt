-- `linalg::adds` meets its contract.
use Rattle.rules.specs.Arithmetic.{◌+ᶠ◌}
use Rattle.rules.proofs.Arithmetic.{Reached}
use Rattle.linalg.proofs.adds.Given as goal

abbrev pub invariant-loop-v : goal.invariant-loop-v
invariant-loop-v l = Reached (λ k v. v +ᶠ l.s) l.v-index l.initial.y l.y
