-- `linalg::transform_di` meets its contract.
use mathlib.Core.Path.{◌≡◌}
use lib.ListN.{length}
use Rattle.rules.specs.Arithmetic.{◌+ᶠ◌, ◌*ᶠ◌, at}
use Rattle.rules.proofs.Arithmetic.{Reached}
use Rattle.linalg.proofs.transform_di.Given as goal

abbrev pub invariant-loop-i : goal.invariant-loop-i
invariant-loop-i l = Reached (λ k v. l.alpha *ᶠ at l.mat k *ᶠ at l.x k +ᶠ l.beta *ᶠ v) l.i l.initial.y l.y × (length l.mat ≡ length l.initial.y) × (length l.x ≡ length l.initial.y)
