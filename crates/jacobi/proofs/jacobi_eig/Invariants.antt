-- `jacobi::jacobi_eig` meets its contract.
use Prim.Native.Nat.{◌≤◌}
use Rattle.rules.specs.Limits.{most_sweeps}
use Rattle.jacobi.specs.Loops.{state}
use Rattle.jacobi.proofs.Sweeps.{SweepsTo}
use Rattle.jacobi.proofs.jacobi_eig.Given as goal

abbrev pub invariant-loop : goal.invariant-loop
invariant-loop l = SweepsTo l.order l.tol l.end l.counter (state l.initial.x l.initial.z 0) l.x l.z l.made × (l.end ≤ most_sweeps)
