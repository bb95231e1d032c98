-- Any two answers that a contract of this crate allows coincide.
use mathlib.Core.Path.{◌≡◌}
use mathlib.Core.Bool.{Bool}
use Rattle.rules.specs.declared.SolverParam.{SolverParam}
use Rattle.rules.specs.Problem.{as_read}
use Rattle.rules.specs.Refusals.{bad_param}
use Rattle.rules.proofs.Outcome.{results_coincide}

pub any_two_judgements_coincide : (par : SolverParam) (r r' : Bool) → r ≡ bad_param par → r' ≡ bad_param par → r ≡ r'
any_two_judgements_coincide par r r' p q = results_coincide p q

pub any_two_readings_coincide : (par r r' : SolverParam) → r ≡ as_read par → r' ≡ as_read par → r ≡ r'
any_two_readings_coincide par r r' p q = results_coincide p q
