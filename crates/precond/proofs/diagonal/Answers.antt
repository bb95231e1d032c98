-- `precond::diagonal` meets its contract.
use borrow.Author.Rules.{rules}
use Rattle.rules.specs.Prepare.{diagonal}
use Rattle.rules.proofs.Arithmetic.{reached_none, reached_more, reached_all}
use Rattle.precond.proofs.diagonal.Goals as goal

pub loop-u-init : goal.loop-u-init
loop-u-init c = reached_none _ _

pub loop-u-preserved : goal.loop-u-preserved
loop-u-preserved c = rw (c.reciprocal.ensures, c.larger.ensures) (reached_more c.loop-u.invariant (search rules))

pub returns : goal.returns
unfolding diagonal
returns c = reached_all c.loop-u.invariant (search rules)
