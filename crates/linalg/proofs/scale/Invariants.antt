-- `linalg::scale` meets its contract.
use Rattle.rules.specs.Arithmetic.{◌*ᶠ◌}
use Rattle.rules.proofs.Arithmetic.{Reached}
use Rattle.linalg.proofs.scale.Given as goal

abbrev pub invariant-loop-v : goal.invariant-loop-v
invariant-loop-v l = Reached (λ k v. l.alpha *ᶠ v) l.v-index l.initial.x l.x
