-- `linalg::transform_di` meets its contract.
use mathlib.Core.Path.{sym, ◌∙◌}
use borrow.Author.Rules.{rules}
use borrow.Author.Tests.{eq-eqb, ne_eqb}
use Rattle.rules.specs.Vectors.{transformed_di}
use Rattle.rules.proofs.Arithmetic.{reached_none, reached_more, reached_all}
use Rattle.rules.proofs.Outcome.{refused, done}
use Rattle.linalg.proofs.transform_di.Goals as goal

pub returns-then-mat-y : goal.returns-then-mat-y
returns-then-mat-y c = refused (rw (ne_eqb _ _ c.if-mat-y.true))

pub returns-then-mat-x : goal.returns-then-mat-x
returns-then-mat-x c = refused (rw (eq-eqb _ _ c.if-mat-y.false) (ne_eqb _ _ (λ e. c.if-mat-x.true (c.if-mat-y.false ∙ sym e))))

pub loop-i-init : goal.loop-i-init
loop-i-init c = (reached_none _ _, search rules, search rules)

pub loop-i-preserved : goal.loop-i-preserved
loop-i-preserved c = (reached_more c.loop-i.invariant.0 (search rules), search rules, search rules)

pub returns : goal.returns
unfolding transformed_di
returns c = done (rw (eq-eqb _ _ c.loop-i.invariant.1) (eq-eqb _ _ c.loop-i.invariant.2)) (reached_all c.loop-i.invariant.0 (search rules))
