-- `side_by_side::put_sums` meets its contract.
use mathlib.Core.Path.{◌≡◌}
use lib.ListN.{length}
use Rattle.rules.specs.Arithmetic.{◌+ᶠ◌, ◌*ᶠ◌, at}
use Rattle.rules.proofs.Arithmetic.{Reached}
use Rattle.side_by_side.proofs.put_sums.Given as goal

abbrev pub invariant-loop-k : goal.invariant-loop-k
invariant-loop-k l =
    Reached (λ i v. l.alpha *ᶠ at l.sums i +ᶠ l.beta *ᶠ v) l.k l.initial.y l.y × (length l.sums ≡ length l.initial.y)
