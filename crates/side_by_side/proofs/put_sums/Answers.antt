-- `side_by_side::put_sums` meets its contract.
use borrow.Author.Rules.{rules}
use borrow.Author.Tests.{eq-eqb, ne_eqb}
use Rattle.rules.proofs.Outcome.{refused, done}
use Rattle.rules.proofs.Arithmetic.{reached_none, reached_more, reached_all}
use Rattle.side_by_side.proofs.put_sums.Goals as goal

pub returns-then-sums-y : goal.returns-then-sums-y
returns-then-sums-y c = refused (ne_eqb _ _ c.if-sums-y.true)

pub loop-k-init : goal.loop-k-init
loop-k-init c = (reached_none _ _, search rules)

pub loop-k-preserved : goal.loop-k-preserved
loop-k-preserved c = (reached_more c.loop-k.invariant.0 (search rules), search rules)

pub returns : goal.returns
returns c = done (eq-eqb _ _ c.loop-k.invariant.1) (reached_all c.loop-k.invariant.0 (search rules))
