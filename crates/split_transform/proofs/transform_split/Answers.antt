-- `split_transform::transform_split` meets its contract.
use mathlib.Core.Path.{sym, ◌∙◌}
use borrow.Author.Tests.{not-true, not-false}
use Rattle.rules.proofs.Outcome.{refused, done}
use Rattle.split_transform.proofs.Slices.{split_fitting}
use Rattle.split_transform.proofs.transform_split.Goals as goal

pub returns-then-not-split_transform_fits : goal.returns-then-not-split_transform_fits
returns-then-not-split_transform_fits c = refused (sym c.split_transform_fits.ensures ∙ not-true _ c.if-not-split_transform_fits.true-raw)

pub split_columns-requires : goal.split_columns-requires
split_columns-requires c = let f = split_fitting c.args.transpose c.args.rows c.args.cols c.args.first c.args.factory.now c.args.lesson.now c.args.x.now c.args.y.now (sym c.split_transform_fits.ensures ∙ not-false _ c.if-not-split_transform_fits.false-raw) in record { split_stored = f.stored; x_len = rw c.if-transpose.true at f.wide; y_len = rw c.if-transpose.true at f.high }

pub split_rows-requires : goal.split_rows-requires
split_rows-requires c = let f = split_fitting c.args.transpose c.args.rows c.args.cols c.args.first c.args.factory.now c.args.lesson.now c.args.x.now c.args.y.now (sym c.split_transform_fits.ensures ∙ not-false _ c.if-not-split_transform_fits.false-raw) in record { split_stored = f.stored; x_len = rw c.if-transpose.false at f.wide; y_len = rw c.if-transpose.false at f.high }

pub returns-then-transpose : goal.returns-then-transpose
returns-then-transpose c = done (sym c.split_transform_fits.ensures ∙ not-false _ c.if-not-split_transform_fits.false-raw) (rw c.if-transpose.true c.split_columns.ensures)

pub returns-else-transpose : goal.returns-else-transpose
returns-else-transpose c = done (sym c.split_transform_fits.ensures ∙ not-false _ c.if-not-split_transform_fits.false-raw) (rw c.if-transpose.false c.split_rows.ensures)
