-- `jacobi::rotate_vectors` meets its contract.
use Rattle.jacobi.proofs.Vectors.{VectorsTo}
use Rattle.jacobi.proofs.rotate_vectors.Given as goal

abbrev pub invariant-loop-k : goal.invariant-loop-k
invariant-loop-k l = VectorsTo l.n l.k l.i l.j l.c l.s l.initial.z l.z
