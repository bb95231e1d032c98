-- `project::project_fitting` meets its contract.
use native.Mathlib.Omega.{arith}
use mathlib.Core.Path.{ap, ◌∙◌}
use Rattle.std.specs.Prelude.{Some}
use Rattle.project.proofs.Cones.{first_some, first_failed, second_done, second_failed, counts_done, counts_failed}
use Rattle.project.proofs.project_fitting.Goals as goal

pub returns-in_err-dual : goal.returns-in_err-dual
returns-in_err-dual c = absurd (first_some c.args.x.now c.requires.cones_ready c.requires.like_x c.product_proj.ensures c.in_err-dual.was)

pub returns-in_default : goal.returns-in_default
returns-in_default c = rw c.in_default.is (first_failed c.args.x.now c.requires.cones_ready c.requires.like_x c.product_proj.ensures _ _ (c.in_ok-dual.was ∙ ap Some c.in_default.is))

pub overflow_add-result : goal.overflow_add-result
overflow_add-result c = omega (arith, counts_done c.args.x.now c.requires.cones_ready c.requires.like_x c.product_proj.ensures _ (c.in_ok-dual.was ∙ ap Some c.in-Done.is) c.product_proj.auto.x c.product_proj.auto.work c.product_proj-2.ensures _ (c.in_ok-primal.was ∙ ap Some c.in-Done-primal.is))

pub overflow_add-result-in-Failed : goal.overflow_add-result-in-Failed
overflow_add-result-in-Failed c = omega (arith, counts_failed c.args.x.now c.requires.cones_ready c.requires.like_x c.product_proj.ensures _ (c.in_ok-dual.was ∙ ap Some c.in-Done.is) c.product_proj.auto.x c.product_proj.auto.work c.product_proj-2.ensures _ _ (c.in_ok-primal.was ∙ ap Some c.in-Failed.is))

pub returns-in-Done-primal : goal.returns-in-Done-primal
returns-in-Done-primal c = second_done c.args.x.now c.requires.cones_ready c.requires.like_x c.product_proj.ensures _ (c.in_ok-dual.was ∙ ap Some c.in-Done.is) c.product_proj.auto.x c.product_proj.auto.work c.product_proj-2.ensures _ (c.in_ok-primal.was ∙ ap Some c.in-Done-primal.is)

pub returns-in-Failed : goal.returns-in-Failed
returns-in-Failed c = second_failed c.args.x.now c.requires.cones_ready c.requires.like_x c.product_proj.ensures _ (c.in_ok-dual.was ∙ ap Some c.in-Done.is) c.product_proj.auto.x c.product_proj.auto.work c.product_proj-2.ensures _ _ (c.in_ok-primal.was ∙ ap Some c.in-Failed.is)
