-- `linalg::adds` meets its contract.
use borrow.Author.Rules.{rules}
use Rattle.rules.specs.Vectors.{shifted}
use Rattle.rules.proofs.Arithmetic.{reached_none, reached_more, reached_all}
use Rattle.linalg.proofs.adds.Goals as goal

pub loop-v-init : goal.loop-v-init
loop-v-init c = reached_none _ _

pub loop-v-preserved : goal.loop-v-preserved
loop-v-preserved c = reached_more c.loop-v.invariant (search rules)

pub returns : goal.returns
unfolding shifted
returns c = reached_all c.loop-v.invariant (search rules)
