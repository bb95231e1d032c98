-- Any two answers that a contract of this crate allows coincide.
use Prim.Native.Nat.{ℕ}
use mathlib.Core.Path.{◌≡◌}
use mathlib.Core.Bool.{Bool}
use lib.Ieee.{Float}
use Rattle.rules.specs.declared.Criteria.TheVariants.{Conv, Inf}
use Rattle.rules.specs.declared.Ending.{Ending}
use Rattle.rules.specs.declared.SolverParam.{SolverParam}
use Rattle.rules.specs.Product.{none}
use Rattle.rules.specs.Run.{Verdict, verdict, is_scaled, is_cone_failure}
use Rattle.rules.proofs.Outcome.{results_coincide}

pub any_two_of_conv_coincide : (par : SolverParam) (k : ℕ) (pri dual gap : Float) (r r' : Verdict)
    → r ≡ verdict par k none (Conv pri dual gap) → r' ≡ verdict par k none (Conv pri dual gap) → r ≡ r'
any_two_of_conv_coincide par k pri dual gap r r' p q = results_coincide p q

pub any_two_of_inf_coincide : (par : SolverParam) (k : ℕ) (unbdd infeas : Float) (r r' : Verdict)
    → r ≡ verdict par k none (Inf unbdd infeas) → r' ≡ verdict par k none (Inf unbdd infeas) → r ≡ r'
any_two_of_inf_coincide par k unbdd infeas r r' p q = results_coincide p q

pub any_two_failures_coincide : (ending : Ending) (r r' : Bool) → r ≡ is_cone_failure ending → r' ≡ is_cone_failure ending → r ≡ r'
any_two_failures_coincide ending r r' p q = results_coincide p q

pub any_two_scalings_coincide : (ending : Ending) (r r' : Bool) → r ≡ is_scaled ending → r' ≡ is_scaled ending → r ≡ r'
any_two_scalings_coincide ending r r' p q = results_coincide p q
