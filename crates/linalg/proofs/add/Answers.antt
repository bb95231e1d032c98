-- `linalg::add` meets its contract.
use mathlib.Core.Path.{sym}
use borrow.Author.Tests.{eq-eqb, ne_eqb}
use Rattle.rules.proofs.Outcome.{refused, done}
use Rattle.rules.specs.Vectors.{added}
use Rattle.rules.proofs.Arithmetic.{reached_none, reached_more, reached_all}
use borrow.Author.Rules.{rules}
use Rattle.linalg.proofs.add.Goals as goal

pub returns-then-y-x : goal.returns-then-y-x
returns-then-y-x c = refused (ne_eqb _ _ (λ e. c.if-y-x.true (sym e)))

pub loop-i-init : goal.loop-i-init
loop-i-init c = (reached_none _ _, search rules)

pub loop-i-preserved : goal.loop-i-preserved
loop-i-preserved c = (reached_more c.loop-i.invariant.0 (search rules), search rules)

pub returns : goal.returns
unfolding added
returns c = done (eq-eqb _ _ c.loop-i.invariant.1) (reached_all c.loop-i.invariant.0 (search rules))
