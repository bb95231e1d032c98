-- `linalg::add` meets its contract.
use mathlib.Core.Path.{◌≡◌}
use lib.ListN.{length}
use Rattle.rules.specs.Arithmetic.{◌+ᶠ◌, ◌*ᶠ◌, at}
use Rattle.rules.proofs.Arithmetic.{Reached}
use Rattle.linalg.proofs.add.Given as goal

abbrev pub invariant-loop-i : goal.invariant-loop-i
invariant-loop-i l = Reached (λ k v. v +ᶠ l.alpha *ᶠ at l.x k) l.i l.initial.y l.y × (length l.x ≡ length l.initial.y)
