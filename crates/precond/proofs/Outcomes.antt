-- Laws of calc_precond's complete outcome.
use Prim.Native.Nat.{ℕ}
use mathlib.Core.Path.{◌≡◌, sym, ◌∙◌}
use mathlib.Core.Bool.{Bool, true, false}
use mathlib.Core.List.{List}
use lib.Ieee.{Float}
use Rattle.rules.specs.declared.Shape.{Shape}
use Rattle.rules.specs.Problem.{Problem, Slices}
use Rattle.rules.specs.Prepare.{dp_tau_of, dp_sigma_of}
use Rattle.shape.specs.Fitting.{Fits, LikeX, LikeY}
use Rattle.precond.specs.Precond.{Covers, precond_fits, PrecondOutcome}
use Rattle.precond.proofs.Fitting.{precond_fits_lem}

-- Any two outcomes that the contract allows coincide: the answer, and each place of both diagonals.
pub precond_outcomes_coincide : {fits : Bool} {p : Problem} {tau sigma : List Float} {r s : Bool} {tau₁ sigma₁ tau₂ sigma₂ : List Float}
    → PrecondOutcome fits p tau sigma r tau₁ sigma₁ → PrecondOutcome fits p tau sigma s tau₂ sigma₂ → (r ≡ s) × (tau₁ ≡ tau₂) × (sigma₁ ≡ sigma₂)
precond_outcomes_coincide o q = (o.answered ∙ sym q.answered, o.tau_left ∙ sym q.tau_left, o.sigma_left ∙ sym q.sigma_left)

-- what the test says of the outcome
module _ {fits : Bool} {p : Problem} {tau sigma : List Float} {answer : Bool} {tau' sigma' : List Float} (o : PrecondOutcome fits p tau sigma answer tau' sigma') where
  pub precond_ruled : fits ≡ true → (answer ≡ true) × (tau' ≡ dp_tau_of p tau) × (sigma' ≡ dp_sigma_of p tau)
  precond_ruled e = (rw e at o.answered, rw e at o.tau_left, rw e at o.sigma_left)

  pub precond_kept : fits ≡ false → (answer ≡ false) × (tau' ≡ tau) × (sigma' ≡ sigma)
  precond_kept e = (rw e at o.answered, rw e at o.tau_left, rw e at o.sigma_left)

-- what a caller learns whose lengths and cone list fit
pub precond_where_fits : {shape : Shape} {c : List Float} {a : Slices} {b : List Float} {words : List ℕ} {p : Problem} {tau sigma : List Float} {answer : Bool} {tau' sigma' : List Float}
    → PrecondOutcome (precond_fits shape c a b words tau sigma) p tau sigma answer tau' sigma' → Fits shape c a b → Covers shape words → LikeX shape tau → LikeY shape sigma
    → (answer ≡ true) × (tau' ≡ dp_tau_of p tau) × (sigma' ≡ dp_sigma_of p tau)
precond_where_fits o f l x y = precond_ruled o (precond_fits_lem f l x y)
