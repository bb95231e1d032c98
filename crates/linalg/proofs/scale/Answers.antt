-- `linalg::scale` meets its contract.
use borrow.Author.Rules.{rules}
use Rattle.rules.specs.Vectors.{scaled}
use Rattle.rules.proofs.Arithmetic.{reached_none, reached_more, reached_all}
use Rattle.linalg.proofs.scale.Goals as goal

pub loop-v-init : goal.loop-v-init
loop-v-init c = reached_none _ _

pub loop-v-preserved : goal.loop-v-preserved
loop-v-preserved c = reached_more c.loop-v.invariant (search rules)

pub returns : goal.returns
unfolding scaled
returns c = reached_all c.loop-v.invariant (search rules)
