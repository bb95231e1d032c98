-- `criteria::dual_residual` meets its contract.
use native.Mathlib.Omega.{arith}
use mathlib.Core.Path.{refl, ◌∙◌}
use mathlib.Core.List.{[], ◌∷◌}
use Rattle.rules.specs.Helpers.{one}
use Rattle.rules.specs.Step.{part}
use Rattle.rules.proofs.Kernels.{op_ruled}
use Rattle.rules.proofs.Parts.{places}
use Rattle.matop.proofs.ByStorage.{split_trans_op_ruled}
use Rattle.shape.proofs.Fitting.{long_y}
use Rattle.criteria.proofs.dual_residual.Goals as goal

pub returns-clause-d_left : goal.returns-clause-d_left
unfolding one
returns-clause-d_left c = let first = op_ruled (one ∷ []) (rw c.column.ensures at c.op_by.ensures) c.requires.stored refl c.requires.d_len in
    let second = split_trans_op_ruled (part c.args.shape.cols.0 c.args.shape.rows.0 c.args.x.now) (rw (places c.args.shape.cols.0 c.args.shape.rows.0) at c.trans_op_by.ensures) c.requires.sized (long_y c.requires.like_x) (omega (arith, c.op_by.auto, c.requires.d_len)) in second ∙ rw first
