-- `matop::split::operate` meets its contract.
use mathlib.Core.Path.{sym, ap, ◌∙◌}
use borrow.Author.Tests.{not-true, not-false}
use Rattle.rules.specs.Matrices.{is_empty}
use Rattle.rules.specs.Problem.{slices}
use Rattle.rules.proofs.Outcome.{refused, done}
use Rattle.matop.proofs.Operator.{scales_if_empty}
use Rattle.matop.proofs.ByStorage.{dense_operates, packed_operates, not_square, not_alone}
use Rattle.matop.proofs.split.operate.Goals as goal
use Rattle.matop.proofs.split.operate.Goals.{then-rows-cols-via-then-rows-cols, then-rows-cols-via-else-rows-cols+then-a2-ne0}

pub returns-then-not-operands_fit : goal.returns-then-not-operands_fit
returns-then-not-operands_fit c = refused (sym c.operands_fit.ensures ∙ not-true _ c.if-not-operands_fit.true-raw)

pub returns-then-is_empty : goal.returns-then-is_empty
returns-then-is_empty c = let empty = ap is_empty (sym c.matrix_of.ensures) ∙ sym c.is_empty.ensures ∙ c.if-is_empty.true in
    done (sym c.operands_fit.ensures ∙ not-false _ c.if-not-operands_fit.false-raw) (c.scale.ensures ∙ scales_if_empty _ _ _ _ _ _ _ empty)

pub returns-then-rows-cols : goal.returns-then-rows-cols
returns-then-rows-cols c =
    let a = slices c.args.a1.now c.args.a2.now in
    elim c.then-rows-cols.branch [
      | then-rows-cols-via-then-rows-cols w ↦ refused (not_square c.args.transpose c.args.shape a c.args.x.now c.args.y.now c.in-Packed.is w.if-rows-cols.true)
      | then-rows-cols-via-else-rows-cols+then-a2-ne0 w ↦ refused (not_alone c.args.transpose c.args.shape a c.args.x.now c.args.y.now c.in-Packed.is w.if-a2-ne0.true)
    ]

pub returns-in-Dense : goal.returns-in-Dense
returns-in-Dense c = let some = ap is_empty (sym c.matrix_of.ensures) ∙ sym c.is_empty.ensures ∙ c.if-is_empty.false in
    dense_operates _ _ _ _ _ c.args.shape (slices c.args.a1.now c.args.a2.now) some c.in-Dense.is c.transform_split.ensures

pub returns-else-a2-ne0 : goal.returns-else-a2-ne0
returns-else-a2-ne0 c = let some = ap is_empty (sym c.matrix_of.ensures) ∙ sym c.is_empty.ensures ∙ c.if-is_empty.false in
    packed_operates _ _ _ _ _ c.args.shape (slices c.args.a1.now c.args.a2.now) some c.in-Packed.is c.if-rows-cols.false c.if-a2-ne0.false c.transform_sp.ensures
