-- What a step asks by test it asks part by part, and the other way; its outcome.
use Prim.Native.Nat.{ℕ}
use mathlib.Core.Path.{◌≡◌, sym, ◌∙◌}
use mathlib.Core.Bool.{Bool, true, ◌&&◌}
use mathlib.Core.List.{List}
use lib.Ieee.{Float}
use Rattle.std.specs.Prelude.{Option}
use lib.ListN.{length}
use Rattle.rules.specs.declared.Product.{Product}
use Rattle.rules.specs.declared.Shape.{Shape}
use Rattle.rules.specs.declared.SolverParam.{SolverParam}
use Rattle.rules.specs.Product.{lengths_fit}
use Rattle.rules.specs.Problem.{Slices, Problem}
use Rattle.rules.specs.Step.{State}
use Rattle.rules.proofs.Matrices.{both_true}
use Rattle.shape.specs.Fitting.{operators_fit, fits_x, fits_y}
use Rattle.shape.proofs.Fitting.{sizes_within, operators_fit_lem, fits_of, x_fits, y_fits, like_x, like_y}
use Rattle.step.specs.Update.{vectors_fit, step_fits, StepReady, StepOutcome}
use Rattle.project.proofs.Ready.{cones_fit, cones_ready}

-- ---- all of it

pub step_ready : (par : SolverParam) (shape : Shape) (c : List Float) (a : Slices) (b : List Float) (words : List ℕ) (s : State) → vectors_fit shape s.x s.y s.dp_tau s.dp_sigma s.rx s.tx ≡ true → operators_fit shape c a b ≡ true → lengths_fit par words shape.rows.0 (length s.cone) ≡ true → StepReady par shape c a b words s
step_ready par shape c a b words s h o l =
    let tx = both_true (fits_x shape s.x && fits_y shape s.y && fits_x shape s.dp_tau && fits_y shape s.dp_sigma && fits_x shape s.rx) (fits_x shape s.tx) h in
    let rx = both_true (fits_x shape s.x && fits_y shape s.y && fits_x shape s.dp_tau && fits_y shape s.dp_sigma) (fits_x shape s.rx) tx.0 in
    let sigma = both_true (fits_x shape s.x && fits_y shape s.y && fits_x shape s.dp_tau) (fits_y shape s.dp_sigma) rx.0 in
    let tau = both_true (fits_x shape s.x && fits_y shape s.y) (fits_x shape s.dp_tau) sigma.0 in
    let xy = both_true (fits_x shape s.x) (fits_y shape s.y) tau.0 in
    let f = fits_of shape c a b o in
    record {
      operators = f;
      cones = cones_ready par shape.rows.0 words (length s.cone) f.m_within l;
      x_like = like_x shape s.x xy.0;
      y_like = like_y shape s.y xy.1;
      tau_like = like_x shape s.dp_tau tau.1;
      sigma_like = like_y shape s.dp_sigma sigma.1;
      rx_like = like_x shape s.rx rx.1;
      tx_like = like_x shape s.tx tx.1;
    }

pub fits_ready : (par : SolverParam) (shape : Shape) (c : List Float) (a : Slices) (b : List Float) (words : List ℕ) (s : State) → step_fits par shape c a b words s ≡ true → StepReady par shape c a b words s
fits_ready par shape c a b words s h =
    let p = both_true (vectors_fit shape s.x s.y s.dp_tau s.dp_sigma s.rx s.tx && operators_fit shape c a b) (lengths_fit par words shape.rows.0 (length s.cone)) h in
    let q = both_true (vectors_fit shape s.x s.y s.dp_tau s.dp_sigma s.rx s.tx) (operators_fit shape c a b) p.0 in
    step_ready par shape c a b words s q.0 q.1 p.1

pub step_fits_lem : {par : SolverParam} {shape : Shape} {c : List Float} {a : Slices} {b : List Float} {words : List ℕ} {s : State} → StepReady par shape c a b words s → step_fits par shape c a b words s ≡ true
step_fits_lem r =
    let w = sizes_within r.operators in
    rw (x_fits w r.x_like, y_fits w r.y_like, x_fits w r.tau_like, y_fits w r.sigma_like, x_fits w r.rx_like, x_fits w r.tx_like, operators_fit_lem r.operators) (cones_fit r.cones)

-- ---- the outcome

module _ {fits : Bool} {p : Problem} {s : State} where
  -- for a caller whose sizes fit
  pub step_true : {answer : Option Product} {s' : State} → StepOutcome fits p s answer s' → fits ≡ true → StepOutcome true p s answer s'
  step_true o e = record { answered = rw e at o.answered; left = rw e at o.left }

  pub step_outcomes_coincide : {a b : Option Product} {s' t : State} → StepOutcome fits p s a s' → StepOutcome fits p s b t → (a ≡ b) × (s' ≡ t)
  step_outcomes_coincide o q = (o.answered ∙ sym q.answered, o.left ∙ sym q.left)
