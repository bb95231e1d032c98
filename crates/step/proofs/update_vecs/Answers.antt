-- `step::update_vecs` meets its contract.
use mathlib.Core.Path.{sym, ◌∙◌}
use Rattle.step.proofs.Ready.{step_ready}
use Rattle.step.proofs.update_vecs.Goals as goal

pub update_fitting-requires : goal.update_fitting-requires
update_fitting-requires c = step_ready _ _ _ _ _ _ _ (sym c.vectors_fit.ensures ∙ c.if-vectors_fit.true) (sym c.operators_fit.ensures ∙ c.if-operators_fit.true) (sym c.product_fits.ensures ∙ c.if-product_fits.true)
