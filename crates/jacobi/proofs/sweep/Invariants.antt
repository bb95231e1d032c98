-- `jacobi::sweep` meets its contract.
use Prim.Native.Nat.{◌+◌, ◌*◌, ◌≤◌}
use Rattle.jacobi.specs.Sizes.{most_rotations}
use Rattle.jacobi.specs.Loops.{state}
use Rattle.jacobi.proofs.Sweeps.{SweepTo}
use Rattle.jacobi.proofs.sweep.Given as goal

abbrev pub invariant-loop-i : goal.invariant-loop-i
invariant-loop-i l = SweepTo l.n l.tol l.i (state l.initial.x l.initial.z l.rotations) l.x l.z l.made × (l.rotations + l.n * l.n ≤ most_rotations)
