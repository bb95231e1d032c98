-- `solver::entry::solve` meets its contract: it is the run with an empty progress record.
use Rattle.rules.proofs.LoggedRuns.{logged_outcome_is_the_plain}
use Rattle.solver.proofs.entry.solve.Goals as goal

pub returns : goal.returns
returns c = logged_outcome_is_the_plain _ _ _ _ _ _ _ _ c.solve_logged-logged.ensures
