-- `angle::cosine` meets its contract.
use mathlib.Core.Path.{ap, ◌∙◌}
use Rattle.rules.specs.Helpers.{one, reciprocal}
use Rattle.rules.specs.Jacobi.{cosine}
use Rattle.angle.proofs.cosine.Goals as goal

pub returns : goal.returns
unfolding cosine one
returns c = c.reciprocal.ensures ∙ ap reciprocal c.root.ensures
