-- `absadd::absadd_packed` meets its contract: every column is stored.
use Prim.Native.Nat.{◌-◌, ◌≤◌}
use native.Mathlib.Omega.{arith}
use mathlib.Core.Path.{◌≡◌, sym, ◌∙◌}
use lib.ListN.{length}
use borrow.Author.Rules.{rules}
use borrow.Author.Tests.{eq-eqb, ne_eqb, not-true, not-false}
use Rattle.rules.specs.declared.MatType.TheVariants.{SymPack}
use Rattle.rules.specs.Matrices.{Stored}
use Rattle.rules.proofs.Matrices.{stored_if_fits, fits_if_stored}
use Rattle.rules.proofs.Triangle.{triangle_inside}
use Rattle.rules.proofs.Outcome.{refused, done}
use Rattle.absadd.proofs.Packed.{Columns, columns_none, columns_more, columns_all}
use Rattle.absadd.proofs.absadd_packed.Goals as goal

pub returns-then-not-stored_fits : goal.returns-then-not-stored_fits
returns-then-not-stored_fits c = refused (rw (sym c.stored_fits.ensures ∙ not-true _ c.if-not-stored_fits.true-raw))

pub returns-then-y-n : goal.returns-then-y-n
returns-then-y-n c = refused (rw (sym c.stored_fits.ensures ∙ not-false _ c.if-not-stored_fits.false-raw) (ne_eqb _ _ c.if-y-n.true))

pub loop-c-init : goal.loop-c-init
loop-c-init c = (columns_none _ _ _, search rules, stored_if_fits (sym c.stored_fits.ensures ∙ not-false _ c.if-not-stored_fits.false-raw), c.if-y-n.false)

pub add_column-requires : goal.add_column-requires
add_column-requires c = record { c_in_bounds = rw c.loop-c.invariant.2.all (triangle_inside _ _ (search rules)); c_in_bounds_2 = search rules; c_le_limit = omega (arith, c.loop-c.invariant.2.rows, c.loop-c.invariant.1) }

pub loop-c-preserved : goal.loop-c-preserved
loop-c-preserved c = (columns_more _ _ c.loop-c.invariant.0 c.add_column.ensures, search rules, c.loop-c.invariant.2, c.loop-c.invariant.3)

pub shape_of-y : goal.shape_of-y
shape_of-y c = c.loop-c.invariant.0.same

pub returns : goal.returns
returns c = done (rw (fits_if_stored c.loop-c.invariant.2) (eq-eqb _ _ c.loop-c.invariant.3)) (columns_all _ _ c.loop-c.invariant.0 (search rules) c.loop-c.invariant.3)
