-- `settle::parts::finish` meets its contract.
use borrow.Author.Rules.{rules}
use mathlib.Core.Path.{refl}
use Rattle.rules.specs.Helpers.{one}
use Rattle.rules.proofs.Arithmetic.{reached_none, reached_more, reached_all}
use Rattle.settle.proofs.Parted.{finished_by, finished_not}
use Rattle.settle.proofs.parts.finish.Goals as goal

pub loop-v-init : goal.loop-v-init
loop-v-init c = reached_none _ _

pub loop-v-preserved : goal.loop-v-preserved
loop-v-preserved c = reached_more c.loop-v.invariant (search rules)

pub returns-after-loop-v : goal.returns-after-loop-v
unfolding one
returns-after-loop-v c = rw c.if-by_tau.true (finished_by c.args.m c.args.n c.args.x.now _ _ refl (reached_all c.loop-v.invariant (search rules)))

pub returns-else-by_tau : goal.returns-else-by_tau
returns-else-by_tau c = rw c.if-by_tau.false (finished_not c.args.m c.args.n _)
