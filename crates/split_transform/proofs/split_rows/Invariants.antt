-- `split_transform::split_rows` meets its contract.
use Prim.Native.Nat.{◌-◌}
use mathlib.Core.Path.{◌≡◌}
use mathlib.Core.List.{◌++◌}
use lib.ListN.{length}
use Rattle.rules.specs.declared.MatType.TheVariants.{General}
use Rattle.rules.specs.Arithmetic.{◌+ᶠ◌, ◌*ᶠ◌}
use Rattle.rules.specs.Matrices.{entry, product}
use Rattle.rules.proofs.Arithmetic.{Reached}
use Rattle.split_transform.proofs.split_rows.Given as goal

abbrev pub invariant-loop-r : goal.invariant-loop-r
invariant-loop-r l =
    Reached (λ k v. l.alpha *ᶠ product (entry (General l.rows l.cols) (l.factory ++ l.lesson)) l.x k +ᶠ l.beta *ᶠ v) l.r l.initial.y l.y × (l.m ≡ length l.initial.y)

abbrev pub decreases-loop-r : goal.decreases-loop-r
decreases-loop-r l = length l.initial.y - l.r
