-- `packed_transform::across` meets its contract.
use Prim.Native.Nat.{◌+◌, ◌-◌, ◌≤◌}
use mathlib.Core.Path.{◌≡◌}
use lib.ListN.{length}
use Rattle.rules.specs.Arithmetic.{◌+ᶠ◌}
use Rattle.rules.proofs.Arithmetic.{Reached}
use Rattle.side_by_side.proofs.SideBySide.{SummedOver}
use Rattle.packed_transform.specs.Lines.{term}
use Rattle.packed_transform.proofs.across.Given as goal

abbrev pub invariant-loop-k : goal.invariant-loop-k
invariant-loop-k l =
    Reached (λ i s. s +ᶠ term l.mat l.x (l.r + i) l.c) l.k l.initial.sums l.sums × (l.k-end ≡ length l.initial.sums)

abbrev pub invariant-loop-c : goal.invariant-loop-c
invariant-loop-c l =
    SummedOver (λ k. term l.mat l.x (l.r + k)) l.r l.c l.initial.sums l.sums × (l.c ≤ l.end) × (l.end ≡ l.r + length l.initial.sums)

abbrev pub decreases-loop-c : goal.decreases-loop-c
decreases-loop-c l =
    l.end - l.c
