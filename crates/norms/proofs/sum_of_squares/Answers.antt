-- `norms::sum_of_squares` meets its contract.
use borrow.Author.Rules.{rules}
use Rattle.rules.specs.Arithmetic.{at}
use Rattle.rules.proofs.Arithmetic.{reached_none, reached_more, reached_all}
use Rattle.norms.specs.Squares.{square_of}
use Rattle.halves.proofs.Ranges.{sum_of_terms}
use Rattle.norms.proofs.sum_of_squares.Goals as goal

pub loop-k-init : goal.loop-k-init
loop-k-init c = reached_none _ _

pub loop-k-preserved : goal.loop-k-preserved
loop-k-preserved c = rw c.square.ensures (reached_more c.loop-k.invariant (search rules))

pub returns : goal.returns
returns c = sum_of_terms (λ j. square_of c.args.smaller (at c.args.x.now j)) c.args.terms.now _ c.sum_by_halves.ensures (reached_all c.loop-k.invariant (search rules)) c.requires
