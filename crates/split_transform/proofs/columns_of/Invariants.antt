-- `split_transform::columns_of` meets its contract.
use Prim.Native.Nat.{◌-◌}
use mathlib.Core.Path.{◌≡◌}
use lib.ListN.{length}
use Rattle.rules.specs.Arithmetic.{◌+ᶠ◌, ◌*ᶠ◌}
use Rattle.rules.proofs.Arithmetic.{Reached}
use Rattle.split_transform.specs.Lines.{column_of}
use Rattle.split_transform.proofs.columns_of.Given as goal

abbrev pub invariant-loop-c : goal.invariant-loop-c
invariant-loop-c l =
    Reached (λ k v. l.alpha *ᶠ column_of l.rows.0 l.mat l.x k +ᶠ l.beta *ᶠ v) l.c l.initial.y l.y × (l.n ≡ length l.initial.y)

abbrev pub decreases-loop-c : goal.decreases-loop-c
decreases-loop-c l = length l.initial.y - l.c
