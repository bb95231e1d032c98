-- `split_transform::columns_on` meets its contract.
use Prim.Native.Nat.{◌+◌, ◌*◌}
use Rattle.rules.specs.Arithmetic.{◌+ᶠ◌, ◌*ᶠ◌, at}
use Rattle.rules.proofs.Arithmetic.{Reached}
use Rattle.side_by_side.proofs.SideBySide.{SummedEach}
use Rattle.split_transform.proofs.columns_on.Given as goal

abbrev pub invariant-loop-k : goal.invariant-loop-k
invariant-loop-k l =
    Reached (λ i s. s +ᶠ at l.mat ((l.c + i) * l.m + l.r) *ᶠ at l.x l.r) l.k l.initial.sums l.sums

abbrev pub invariant-loop-r : goal.invariant-loop-r
invariant-loop-r l =
    SummedEach (λ k j. at l.mat ((l.c + k) * l.m + j) *ᶠ at l.x j) l.r l.initial.sums l.sums
