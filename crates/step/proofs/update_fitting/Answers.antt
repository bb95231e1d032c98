-- `step::update_fitting` meets its contract.
use mathlib.Core.Path.{ap, ◌∙◌}
use Rattle.std.specs.Prelude.{Some}
use Rattle.step.proofs.Updated.{step_some, step_failed, step_done}
use Rattle.step.proofs.update_fitting.Goals as goal

pub returns-in_err-made : goal.returns-in_err-made
returns-in_err-made c = absurd (step_some c.requires c.move_x.ensures c.move_x.auto.x c.project.ensures c.in_err-made.was)

pub returns-in_default : goal.returns-in_default
returns-in_default c = rw c.in_default.is (step_failed c.requires c.move_x.ensures c.move_x.auto.x c.project.ensures (c.in_ok-made.was ∙ ap Some c.in_default.is))

pub returns : goal.returns
returns c = rw c.in-Done.is (step_done c.requires c.move_x.ensures c.move_x.auto.x c.project.ensures (c.in_ok-made.was ∙ ap Some c.in-Done.is) c.take_tau.ensures c.move_y.ensures)
