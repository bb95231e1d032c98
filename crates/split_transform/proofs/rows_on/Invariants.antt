-- `split_transform::rows_on` meets its contract.
use Prim.Native.Nat.{◌+◌, ◌*◌}
use mathlib.Core.Path.{◌≡◌}
use Rattle.rules.specs.Arithmetic.{◌+ᶠ◌, ◌*ᶠ◌, at}
use Rattle.rules.proofs.Arithmetic.{Reached}
use Rattle.side_by_side.proofs.SideBySide.{SummedEach}
use Rattle.split_transform.proofs.rows_on.Given as goal

abbrev pub invariant-loop-k : goal.invariant-loop-k
invariant-loop-k l =
    Reached (λ i s. s +ᶠ at l.mat (l.c * l.m + (l.r + i)) *ᶠ at l.x l.c) l.k l.initial.sums l.sums × (l.start ≡ l.c * l.m + l.r)

abbrev pub invariant-loop-c : goal.invariant-loop-c
invariant-loop-c l =
    SummedEach (λ k j. at l.mat (j * l.m + (l.r + k)) *ᶠ at l.x j) l.c l.initial.sums l.sums
