-- `norms::sum_of_squares` meets its contract.
use Rattle.rules.specs.Arithmetic.{at}
use Rattle.rules.proofs.Arithmetic.{Reached}
use Rattle.norms.specs.Squares.{square_of}
use Rattle.norms.proofs.sum_of_squares.Given as goal

abbrev pub invariant-loop-k : goal.invariant-loop-k
invariant-loop-k l = Reached (λ j v. square_of l.smaller (at l.x j)) l.k l.initial.terms l.terms
