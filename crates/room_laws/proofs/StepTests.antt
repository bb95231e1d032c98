-- The outcome of a step by its three tests, asked in turn.
use Prim.Native.Nat.{ℕ}
use mathlib.Core.Path.{◌≡◌, sym, ◌∙◌}
use mathlib.Core.Bool.{Bool, true, false, not, ◌&&◌}
use mathlib.Core.List.{List}
use borrow.Author.Tests.{not-true, not-false}
use lib.Ieee.{Float}
use lib.ListN.{length}
use Rattle.rules.specs.declared.Product.{Product}
use Rattle.rules.specs.declared.Shape.{Shape}
use Rattle.rules.specs.declared.SolverParam.{SolverParam}
use Rattle.rules.specs.Product.{lengths_fit}
use Rattle.rules.specs.Problem.{Slices, Problem, problem_in}
use Rattle.rules.specs.Step.{State}
use Rattle.rules.proofs.Matrices.{both_true}
use Rattle.shape.specs.Fitting.{operators_fit, fits_x, fits_y}
use Rattle.shape.proofs.Fitting.{fits_of, like_x, like_y}
use Rattle.step.specs.Update.{vectors_fit, step_fits, StepReady, StepOutcome}
use Rattle.project.proofs.Ready.{cones_ready}
use Rattle.std.specs.Prelude.{Option, None}
use Rattle.step.proofs.Ready.{step_fits_lem}

step-ready : (par : SolverParam) (shape : Shape) (c : List Float) (a : Slices) (b : List Float) (words : List ℕ) (s : State) → vectors_fit shape s.x s.y s.dp_tau s.dp_sigma s.rx s.tx ≡ true → operators_fit shape c a b ≡ true → lengths_fit par words shape.rows.0 (length s.cone) ≡ true → StepReady par shape c a b words s
step-ready par shape c a b words s h o l =
    let tx = both_true (fits_x shape s.x && fits_y shape s.y && fits_x shape s.dp_tau && fits_y shape s.dp_sigma && fits_x shape s.rx) (fits_x shape s.tx) h in
    let rx = both_true (fits_x shape s.x && fits_y shape s.y && fits_x shape s.dp_tau && fits_y shape s.dp_sigma) (fits_x shape s.rx) tx.0 in
    let sigma = both_true (fits_x shape s.x && fits_y shape s.y && fits_x shape s.dp_tau) (fits_y shape s.dp_sigma) rx.0 in
    let tau = both_true (fits_x shape s.x && fits_y shape s.y) (fits_x shape s.dp_tau) sigma.0 in
    let xy = both_true (fits_x shape s.x) (fits_y shape s.y) tau.0 in
    let f = fits_of shape c a b o in
    record {
      operators = f;
      cones = cones_ready par shape.rows.0 words (length s.cone) f.m_within l;
      x_like = like_x shape s.x xy.0;
      y_like = like_y shape s.y xy.1;
      tau_like = like_x shape s.dp_tau tau.1;
      sigma_like = like_y shape s.dp_sigma sigma.1;
      rx_like = like_x shape s.rx rx.1;
      tx_like = like_x shape s.tx tx.1;
    }

module _ {fits : Bool} {p : Problem} {s : State} where
  step-refused : fits ≡ false → StepOutcome fits p s None s
  step-refused e = record { answered = rw e; left = rw e }

  step-taken : {answer : Option Product} {s' : State} → fits ≡ true → StepOutcome true p s answer s' → StepOutcome fits p s answer s'
  step-taken e o = record { answered = rw e o.answered; left = rw e o.left }

module _ (par : SolverParam) (shape : Shape) (c : List Float) (a : Slices) (b : List Float) (words : List ℕ) (s : State) {v : Bool} (v_is : v ≡ vectors_fit shape s.x s.y s.dp_tau s.dp_sigma s.rx s.tx) where
  -- the first that fails refuses the step
  pub vectors_refused : not v ≡ true → StepOutcome (step_fits par shape c a b words s) (problem_in shape c a b words par) s None s
  vectors_refused h = step-refused (rw (sym v_is ∙ not-true v h))

  module _ {o : Bool} (v_holds : not v ≡ false) (o_is : o ≡ operators_fit shape c a b) where
    pub operators_refused : not o ≡ true → StepOutcome (step_fits par shape c a b words s) (problem_in shape c a b words par) s None s
    operators_refused h = step-refused (rw (sym v_is ∙ not-false v v_holds, sym o_is ∙ not-true o h))

    module _ {l : Bool} (o_holds : not o ≡ false) (l_is : l ≡ lengths_fit par words shape.rows.0 (length s.cone)) where
      pub cones_refused : not l ≡ true → StepOutcome (step_fits par shape c a b words s) (problem_in shape c a b words par) s None s
      cones_refused h = step-refused (rw (sym v_is ∙ not-false v v_holds, sym o_is ∙ not-false o o_holds) (sym l_is ∙ not-true l h))

      -- where none fails, the step has what it asks, and is taken
      pub ready-by_tests : not l ≡ false → StepReady par shape c a b words s
      ready-by_tests h = step-ready par shape c a b words s (sym v_is ∙ not-false v v_holds) (sym o_is ∙ not-false o o_holds) (sym l_is ∙ not-false l h)

      pub taken-by_tests : {answer : Option Product} {s' : State} → not l ≡ false → StepOutcome true (problem_in shape c a b words par) s answer s' → StepOutcome (step_fits par shape c a b words s) (problem_in shape c a b words par) s answer s'
      taken-by_tests h t = step-taken (step_fits_lem (ready-by_tests h)) t
