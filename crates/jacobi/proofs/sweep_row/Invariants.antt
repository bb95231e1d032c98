-- `jacobi::sweep_row` meets its contract.
use Prim.Native.Nat.{◌+◌, ◌≤◌}
use Rattle.jacobi.specs.Sizes.{most_rotations}
use Rattle.jacobi.specs.Loops.{state}
use Rattle.jacobi.proofs.Sweeps.{RowTo}
use Rattle.jacobi.proofs.sweep_row.Given as goal

abbrev pub invariant-loop-j : goal.invariant-loop-j
invariant-loop-j l = RowTo l.n l.tol l.i l.j (state l.initial.x l.initial.z l.rotations) l.x l.z l.made × (l.rotations + l.n ≤ most_rotations)
