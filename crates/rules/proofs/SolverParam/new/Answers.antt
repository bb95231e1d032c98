-- `rules::SolverParam::new` meets its contract: the literals are the fractions, each rounded once.
use lib.Ieee.{of_bits}
use Rattle.rules.specs.Parameters.{defaults}
use Rattle.rules.proofs.SolverParam.new.Goals as goal

pub returns : goal.returns
unfolding of_bits defaults
returns c = c.of.ensures
