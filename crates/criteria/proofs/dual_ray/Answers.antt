-- `criteria::dual_ray` meets its contract.
use Rattle.rules.specs.Helpers.{one}
use Rattle.rules.specs.Step.{part}
use Rattle.rules.proofs.Parts.{places}
use Rattle.matop.proofs.ByStorage.{split_trans_op_ruled}
use Rattle.shape.proofs.Fitting.{long_y}
use Rattle.criteria.proofs.dual_ray.Goals as goal

pub returns-clause-d_left : goal.returns-clause-d_left
unfolding one
returns-clause-d_left c = let first = split_trans_op_ruled (part c.args.shape.cols.0 c.args.shape.rows.0 c.args.x.now) (rw (places c.args.shape.cols.0 c.args.shape.rows.0) at c.trans_op_by.ensures) c.requires.sized (long_y c.requires.like_x) (c.requires.d_len) in first
