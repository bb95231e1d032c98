-- Laws of the complete outcome of preparing.
use Prim.Native.Nat.{ℕ}
use mathlib.Core.Path.{◌≡◌, sym, ◌∙◌}
use mathlib.Core.Bool.{Bool, true}
use mathlib.Core.List.{List}
use lib.Ieee.{Float}
use Rattle.std.specs.Prelude.{Option, Some}
use Rattle.rules.specs.declared.Norms.{Norms}
use Rattle.rules.specs.declared.Shape.{Shape}
use Rattle.rules.specs.Arithmetic.{+0}
use Rattle.rules.specs.Vectors.{scaled}
use Rattle.rules.specs.Problem.{Problem, Slices, embed}
use Rattle.rules.specs.Prepare.{norms, start_x, dp_tau_of, dp_sigma_of}
use Rattle.shape.specs.Fitting.{Fits, LikeX, LikeY}
use Rattle.shape.proofs.Fitting.{sizes_within, x_fits, y_fits}
use Rattle.precond.specs.Precond.{Covers}
use Rattle.precond.proofs.Fitting.{precond_fits_lem}
use Rattle.prepare.specs.Prepare.{prepare_fits, PreparedOutcome}

-- Any two outcomes that the contract allows coincide: the answer, and each place of the four vectors.
pub prepared_outcomes_coincide : {fits : Bool} {p : Problem} {x y tau sigma : List Float} {r s : Option Norms} {x₁ y₁ tau₁ sigma₁ x₂ y₂ tau₂ sigma₂ : List Float}
    → PreparedOutcome fits p x y tau sigma r x₁ y₁ tau₁ sigma₁ → PreparedOutcome fits p x y tau sigma s x₂ y₂ tau₂ sigma₂
    → (r ≡ s) × (x₁ ≡ x₂) × (y₁ ≡ y₂) × (tau₁ ≡ tau₂) × (sigma₁ ≡ sigma₂)
prepared_outcomes_coincide o q =
    (o.answered ∙ sym q.answered, o.x_left ∙ sym q.x_left, o.y_left ∙ sym q.y_left, o.tau_left ∙ sym q.tau_left, o.sigma_left ∙ sym q.sigma_left)

-- what a caller learns whose lengths and cone list fit
pub prepare_fits_lem : {shape : Shape} {c : List Float} {a : Slices} {b : List Float} {words : List ℕ} {x y tau sigma : List Float} → Fits shape c a b → Covers shape words → LikeX shape x → LikeY shape y → LikeX shape tau → LikeY shape sigma
    → prepare_fits shape c a b words x y tau sigma ≡ true
prepare_fits_lem f l x y tau sigma = rw (x_fits (sizes_within f) x, y_fits (sizes_within f) y) (precond_fits_lem f l tau sigma)

pub record PreparedBy (p : Problem) (x y tau : List Float) (answer : Option Norms) (x' y' tau' sigma' : List Float) : Type 0 where
  pub answer_is : answer ≡ Some (norms (embed p) x)
  pub x_is : x' ≡ start_x (embed p) x
  pub y_is : y' ≡ scaled +0 y
  pub tau_is : tau' ≡ dp_tau_of p tau
  pub sigma_is : sigma' ≡ dp_sigma_of p tau

pub prepared_where_fits : {shape : Shape} {c : List Float} {a : Slices} {b : List Float} {words : List ℕ} {p : Problem} {x y tau sigma : List Float} {answer : Option Norms} {x' y' tau' sigma' : List Float}
    → PreparedOutcome (prepare_fits shape c a b words x y tau sigma) p x y tau sigma answer x' y' tau' sigma'
    → Fits shape c a b → Covers shape words → LikeX shape x → LikeY shape y → LikeX shape tau → LikeY shape sigma
    → PreparedBy p x y tau answer x' y' tau' sigma'
prepared_where_fits o f l x y tau sigma =
    let e = prepare_fits_lem f l x y tau sigma in
    record {
      answer_is = rw e at o.answered;
      x_is = rw e at o.x_left;
      y_is = rw e at o.y_left;
      tau_is = rw e at o.tau_left;
      sigma_is = rw e at o.sigma_left;
    }
