-- `replay_cuts::held::held` is safe and ends.
use Rattle.std.proofs.Common.{◌∙◌}
use Rattle.replay_cuts.proofs.held.held.Goals as goal

pub shape_of-work : goal.shape_of-work
shape_of-work c = c.is_stale-stale.auto.work ∙ c.in_pieces-run.auto.work ∙ c.refill.auto.work

pub shape_of-cone_work : goal.shape_of-cone_work
shape_of-cone_work c = c.is_stale-stale.auto.cone_work ∙ c.in_pieces-run.auto.cone_work ∙ c.refill.auto.cone_work

pub shape_of-log : goal.shape_of-log
shape_of-log c = c.is_stale-stale.auto.log ∙ c.in_pieces-run.auto.log ∙ c.refill.auto.log
