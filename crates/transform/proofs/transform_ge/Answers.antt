-- `transform::transform_ge` meets its contract.
use mathlib.Core.Path.{sym, ◌∙◌}
use borrow.Author.Rules.{rules}
use borrow.Author.Tests.{not-true, not-false}
use Rattle.rules.specs.Matrices.{transformed_by}
use Rattle.rules.proofs.Arithmetic.{reached_none, reached_more, reached_all}
use Rattle.rules.proofs.Matrices.{fitting}
use Rattle.rules.proofs.Outcome.{refused, done}
use Rattle.transform.proofs.transform_ge.Goals as goal

pub returns-then-not-transform_fits : goal.returns-then-not-transform_fits
returns-then-not-transform_fits c = refused (sym c.transform_fits.ensures ∙ not-true _ c.if-not-transform_fits.true-raw)

pub loop-r-init : goal.loop-r-init
loop-r-init c = (reached_none _ _, fitting (sym c.transform_fits.ensures ∙ not-false _ c.if-not-transform_fits.false-raw))

pub row_product-requires : goal.row_product-requires
row_product-requires c = record { stored = c.loop-r.invariant.1.stored; x_len = c.loop-r.invariant.1.wide; r_bound = search rules }

pub loop-r-preserved : goal.loop-r-preserved
loop-r-preserved c = (rw c.row_product.ensures (reached_more c.loop-r.invariant.0 (search rules)), search rules)

pub returns : goal.returns
unfolding transformed_by
returns c = done c.loop-r.invariant.1.fits (reached_all c.loop-r.invariant.0 (search rules))
