-- `eig::scale_diagonal` meets its contract.
use Rattle.eig.proofs.Diagonal.{ScaledTo}
use Rattle.eig.proofs.scale_diagonal.Given as goal

abbrev pub invariant-loop-k : goal.invariant-loop-k
invariant-loop-k l = ScaledTo l.by l.n l.k l.initial.x l.x
