-- `card_problem::parameters` meets its contract.
use mathlib.Core.Path.{◌∙◌}
use Rattle.card_problem.specs.Problem.{parameters_of}
use Rattle.card_problem.proofs.parameters.Goals as goal

pub returns : goal.returns
unfolding parameters_of
returns c = c.of.ensures ∙ rw (c.number_at-acc.ensures, c.number_at-inf.ensures, c.number_at-zero.ensures)
