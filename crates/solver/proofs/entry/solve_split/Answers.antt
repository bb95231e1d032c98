-- `solver::entry::solve_split` meets its contract: it is the run with an empty progress record.
use Rattle.rules.proofs.LoggedRuns.{split_logged_outcome_is_the_plain}
use Rattle.solver.proofs.entry.solve_split.Goals as goal

pub returns : goal.returns
returns c = split_logged_outcome_is_the_plain _ _ _ _ _ _ _ _ c.solve_split_logged-logged.ensures
