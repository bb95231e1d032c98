-- `precond::precond_all` meets its contract.
use mathlib.Core.Path.{sym, ◌∙◌}
use Rattle.precond.proofs.LikeX.{dp_tau_is, dp_sigma_is}
use Rattle.precond.proofs.precond_all.Goals as goal

pub returns-clause-tau_left : goal.returns-clause-tau_left
returns-clause-tau_left c = rw (c.diagonal.ensures, c.abssum.ensures.tau_left) at c.group_parts.ensures
    ∙ sym (dp_tau_is c.args.problem.now c.args.dp_tau.now)

pub returns-clause-sigma_left : goal.returns-clause-sigma_left
returns-clause-sigma_left c = rw c.abssum.ensures.sigma_left at c.diagonal-2.ensures
    ∙ sym (dp_sigma_is c.args.problem.now c.args.dp_tau.now)
