-- `cone::proj_rpos` meets its contract.
use borrow.Author.Rules.{rules}
use Rattle.rules.proofs.Arithmetic.{reached_none, reached_more, reached_all}
use Rattle.rules.specs.Projections.{proj_r_pos}
use Rattle.cone.proofs.proj_rpos.Goals as goal

pub loop-v-init : goal.loop-v-init
loop-v-init c = reached_none _ _

pub loop-v-preserved : goal.loop-v-preserved
loop-v-preserved c = rw c.larger.ensures (reached_more c.loop-v.invariant (search rules))

pub returns : goal.returns
unfolding proj_r_pos
returns c = reached_all c.loop-v.invariant (search rules)
