-- `absadd::absadd_dense` meets its contract.
use Prim.Native.Nat.{◌-◌}
use mathlib.Core.Path.{◌≡◌, refl, sym, ◌∙◌}
use lib.ListN.{length}
use borrow.Author.Rules.{rules}
use borrow.Author.Tests.{eq-eqb, ne_eqb, not-true, not-false}
use Rattle.rules.specs.declared.MatType.TheVariants.{General}
use Rattle.rules.specs.Arithmetic.{◌+ᶠ◌}
use Rattle.rules.specs.Matrices.{Stored, entries, width, height, col_sum}
use Rattle.rules.proofs.Arithmetic.{Reached, reached_none, reached_more, reached_all}
use Rattle.rules.proofs.Matrices.{stored_if_fits, fits_if_stored}
use Rattle.rules.proofs.Outcome.{refused, done}
use Rattle.absadd.specs.Columns.{absadded}
use Rattle.absadd.proofs.absadd_dense.Goals as goal

pub returns-then-not-stored_fits : goal.returns-then-not-stored_fits
returns-then-not-stored_fits c = refused (rw (sym c.stored_fits.ensures ∙ not-true _ c.if-not-stored_fits.true-raw))

pub returns-then-y-width : goal.returns-then-y-width
returns-then-y-width c = refused (rw (sym c.stored_fits.ensures ∙ not-false _ c.if-not-stored_fits.false-raw) (ne_eqb _ _ (rw c.width.ensures at c.if-y-width.true)))

pub loop-k-init : goal.loop-k-init
loop-k-init c = (reached_none _ _, stored_if_fits (sym c.stored_fits.ensures ∙ not-false _ c.if-not-stored_fits.false-raw), rw c.width.ensures at c.if-y-width.false)

pub line_sum-requires : goal.line_sum-requires
line_sum-requires c = record { stored = c.loop-k.invariant.1; k_bound = search rules }

pub loop-k-preserved : goal.loop-k-preserved
loop-k-preserved c = (rw c.line_sum.ensures (reached_more c.loop-k.invariant.0 (search rules)), search rules, search rules)

pub returns : goal.returns
unfolding absadded
returns c = done (rw (fits_if_stored c.loop-k.invariant.1) (eq-eqb _ _ c.loop-k.invariant.2)) (reached_all c.loop-k.invariant.0 (search rules))
