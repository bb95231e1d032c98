-- `settle::parts::finish` meets its contract.
use Rattle.rules.specs.Arithmetic.{◌*ᶠ◌}
use Rattle.rules.proofs.Arithmetic.{Reached}
use Rattle.settle.proofs.parts.finish.Given as goal

abbrev pub invariant-loop-v : goal.invariant-loop-v
invariant-loop-v l = Reached (λ k v. l.by *ᶠ v) l.v-index l.initial.v-items l.v-items
