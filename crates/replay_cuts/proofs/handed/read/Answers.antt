-- `replay_cuts::handed::read` is safe and ends.
use Rattle.std.proofs.Common.{◌∙◌}
use Rattle.replay_cuts.proofs.handed.read.Goals as goal

pub shape_of-numbers : goal.shape_of-numbers
shape_of-numbers c = c.put-b_end.auto.numbers ∙ c.put-a_end.auto.numbers ∙ c.put-first_end.auto.numbers ∙ c.put-c_end.auto.numbers
