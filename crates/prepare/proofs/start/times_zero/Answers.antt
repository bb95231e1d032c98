-- `prepare::start::times_zero` meets its contract.
use borrow.Author.Rules.{rules}
use Rattle.rules.specs.Vectors.{scaled}
use Rattle.rules.proofs.Arithmetic.{reached_none, reached_more, reached_all}
use Rattle.prepare.proofs.start.times_zero.Goals as goal

pub loop-u-init : goal.loop-u-init
loop-u-init c = reached_none _ _

pub loop-u-preserved : goal.loop-u-preserved
loop-u-preserved c = reached_more c.loop-u.invariant (search rules)

pub returns : goal.returns
unfolding scaled
returns c = reached_all c.loop-u.invariant (search rules)
