-- `criteria::primal_residual` meets its contract.
use Prim.Native.Nat.{◌+◌}
use native.Mathlib.Omega.{arith}
use mathlib.Core.Path.{refl, sym, ◌∙◌}
use mathlib.Core.List.{[], ◌∷◌}
use Rattle.rules.specs.Helpers.{one}
use Rattle.rules.specs.Step.{part}
use Rattle.rules.proofs.Kernels.{add_ruled, op_ruled}
use Rattle.rules.proofs.Parts.{places, from_start}
use Rattle.matop.proofs.ByStorage.{split_op_ruled}
use Rattle.shape.proofs.Fitting.{long_x, long_s}
use Rattle.criteria.proofs.primal_residual.Goals as goal

pub returns-clause-p_left : goal.returns-clause-p_left
unfolding one
returns-clause-p_left c = let first = add_ruled (part (c.args.shape.cols.0 + c.args.shape.rows.0) c.args.shape.rows.0 c.args.x.now) (rw (places (c.args.shape.cols.0 + c.args.shape.rows.0) c.args.shape.rows.0) at c.copy.ensures) (long_s c.requires.like_x ∙ sym c.requires.p_len) in
    let second = op_ruled (one ∷ []) (rw c.column.ensures at c.op_by.ensures) c.requires.stored refl (omega (arith, c.copy.auto, c.requires.p_len)) in
    let third = split_op_ruled (part 0 c.args.shape.cols.0 c.args.x.now) (rw (from_start c.args.shape.cols.0) at c.op_by-2.ensures) c.requires.sized (long_x c.requires.like_x) (omega (arith, c.copy.auto, c.op_by.auto, c.requires.p_len)) in third ∙ rw (second, first)
