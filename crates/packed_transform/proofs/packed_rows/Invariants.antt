-- `packed_transform::packed_rows` meets its contract.
use Prim.Native.Nat.{◌-◌}
use mathlib.Core.Path.{◌≡◌}
use lib.ListN.{length}
use Rattle.rules.specs.declared.MatType.TheVariants.{SymPack}
use Rattle.rules.specs.Arithmetic.{◌+ᶠ◌, ◌*ᶠ◌}
use Rattle.rules.specs.Matrices.{entry, product}
use Rattle.rules.proofs.Arithmetic.{Reached}
use Rattle.packed_transform.proofs.packed_rows.Given as goal

abbrev pub invariant-loop-r : goal.invariant-loop-r
invariant-loop-r l =
    Reached (λ k v. l.alpha *ᶠ product (entry (SymPack l.n) l.mat) l.x k +ᶠ l.beta *ᶠ v) l.r l.initial.y l.y × (l.m ≡ length l.initial.y)

abbrev pub decreases-loop-r : goal.decreases-loop-r
decreases-loop-r l = length l.initial.y - l.r
