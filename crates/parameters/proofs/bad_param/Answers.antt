-- `parameters::bad_param` meets its contract.
use native.Mathlib.Omega.{arith}
use Rattle.std.proofs.lemmas.Bool.Decides.{nat_tests}
use Rattle.rules.specs.Refusals.{bad_param}
use Rattle.parameters.proofs.bad_param.Goals as goal

pub returns-then-par-gt-MOST_SWEEPS : goal.returns-then-par-gt-MOST_SWEEPS
unfolding bad_param
returns-then-par-gt-MOST_SWEEPS c = grind (arith, nat_tests)

pub returns-else-par-gt-MOST_SWEEPS : goal.returns-else-par-gt-MOST_SWEEPS
unfolding bad_param
returns-else-par-gt-MOST_SWEEPS c = grind (arith, nat_tests)
