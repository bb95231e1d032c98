-- `halved_transform::lines` meets its contract.
use mathlib.Core.Path.{◌≡◌}
use mathlib.Core.List.{◌++◌}
use lib.ListN.{length}
use Rattle.rules.specs.Arithmetic.{◌+ᶠ◌, ◌*ᶠ◌}
use Rattle.rules.specs.Matrices.{Stored, height, width, entries, product_by}
use Rattle.rules.proofs.Arithmetic.{Reached}
use Rattle.halved_transform.proofs.lines.Given as goal

abbrev pub invariant-loop-r : goal.invariant-loop-r
invariant-loop-r l =
    Reached (λ k v. l.alpha *ᶠ product_by 2 (entries l.transpose l.t (l.a1 ++ l.a2)) l.x k +ᶠ l.beta *ᶠ v) l.r l.initial.y l.y × Stored l.t (l.a1 ++ l.a2) × (length l.x ≡ width l.transpose l.t) × (length l.initial.y ≡ height l.transpose l.t) × (length l.terms ≡ length l.x)
