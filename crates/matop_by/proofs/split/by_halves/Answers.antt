-- `matop_by::split::by_halves` meets its contract.
use mathlib.Core.Path.{sym}
use Rattle.rules.specs.Problem.{slices}
use Rattle.shape.proofs.Fitting.{sized_of}
use Rattle.matop_by.proofs.ByEdition.{operands_joined}
use Rattle.matop_by.proofs.split.by_halves.Goals as goal

pub returns-then-parts_fit : goal.returns-then-parts_fit
returns-then-parts_fit c = operands_joined c.args.transpose c.args.x.now c.args.y.now (sized_of c.args.shape (slices c.args.a1.now c.args.a2.now) (sym c.if-parts_fit.ensures)) (rw c.matrix_of-t.ensures at c.op_by_halves.ensures)
