-- `packed_transform::transform_sp` meets its contract.
use mathlib.Core.Path.{sym, ◌∙◌}
use borrow.Author.Tests.{not-true, not-false}
use mathlib.Core.Bool.{false}
use Rattle.rules.specs.declared.MatType.TheVariants.{SymPack}
use Rattle.rules.proofs.Matrices.{Fitting, fitting}
use Rattle.rules.proofs.Outcome.{refused, done}
use Rattle.packed_transform.proofs.transform_sp.Goals as goal

pub returns-then-not-transform_fits : goal.returns-then-not-transform_fits
returns-then-not-transform_fits c = refused (sym c.transform_fits.ensures ∙ not-true _ c.if-not-transform_fits.true-raw)

pub packed_rows-requires : goal.packed_rows-requires
packed_rows-requires c = let f : Fitting false (SymPack c.args.n) c.args.mat.now c.args.x.now c.args.y.now = fitting (sym c.transform_fits.ensures ∙ not-false _ c.if-not-transform_fits.false-raw) in record { stored = f.stored; x_len = f.wide; y_len = f.high }

pub returns : goal.returns
returns c = done (sym c.transform_fits.ensures ∙ not-false _ c.if-not-transform_fits.false-raw) c.packed_rows.ensures
