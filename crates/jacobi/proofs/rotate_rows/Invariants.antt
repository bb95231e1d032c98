-- `jacobi::rotate_rows` meets its contract.
use Prim.Native.Nat.{◌≤◌, ◌<◌}
use Rattle.jacobi.proofs.Matrix.{SpanTo}
use Rattle.jacobi.proofs.rotate_rows.Given as goal

abbrev pub invariant-loop-k : goal.invariant-loop-k
invariant-loop-k l = SpanTo l.n l.initial.k l.k l.i l.j l.c l.s l.initial.x l.x × (l.k ≤ l.i)

abbrev pub invariant-loop-k-2 : goal.invariant-loop-k-2
invariant-loop-k-2 l = SpanTo l.n l.initial.k l.k l.i l.j l.c l.s l.initial.x l.x × (l.i < l.k) × (l.k ≤ l.j)

abbrev pub invariant-loop-k-3 : goal.invariant-loop-k-3
invariant-loop-k-3 l = SpanTo l.n l.initial.k l.k l.i l.j l.c l.s l.initial.x l.x × (l.j < l.k) × (l.k ≤ l.n)
