-- A step's moves and its projection, one after another, are the rule's step.
use Prim.Native.Nat.{ℕ, ◌+◌}
use mathlib.Core.Path.{◌≡◌, refl, sym, ◌∙◌}
use mathlib.Core.Bool.{true}
use mathlib.Core.List.{List, ◌++◌}
use lib.Ieee.{Float, neg}
use Rattle.std.specs.Prelude.{Option, Some, None}
use lib.ListN.{length, drop, set}
use Rattle.rules.specs.declared.Shape.{Shape}
use Rattle.rules.specs.declared.SolverParam.{SolverParam}
use Rattle.rules.specs.declared.Product.{Product}
use Rattle.rules.specs.declared.Product.TheVariants.{Done, Failed}
use Rattle.rules.specs.Helpers.{one, smaller}
use Rattle.rules.specs.Arithmetic.{+0, at}
use Rattle.rules.specs.Vectors.{transformed_di}
use Rattle.rules.specs.Product.{none, block, product_answer, ProductOutcome}
use Rattle.rules.specs.Problem.{Slices, Problem, embed, length_y, problem_in, embed_in}
use Rattle.rules.specs.Step.{State, trans_op_k, moved_x, projected, tau_taken, moved_y, updated}
use Rattle.step.specs.Moves.{XMoved, YMoved, taken_in, next_rx, next_ty, next_y}
use Rattle.step.specs.Update.{state_of, stopped, stepped, StepReady, StepOutcome}
use Rattle.shape.proofs.Fitting.{sizes_within}
use Rattle.project.specs.Project.{project_fits, projected_in}
use Rattle.project.proofs.Ready.{project_fits_lem, projected_true}
use Rattle.project.proofs.Cones.{answer_done, answer_failed, answer_some}

-- ---- each rule, with its arguments written out

updated_rule : (p : Problem) (s : State)
    → updated p s ≡ record {
      state = moved_y p (state_of (tau_taken p (projected p (moved_x p s).x (moved_x p s).cone).cone) (moved_x p s).y (moved_x p s).dp_tau (moved_x p s).dp_sigma (moved_x p s).rx (moved_x p s).tx (projected p (moved_x p s).x (moved_x p s).cone).work);
      rotations = (projected p (moved_x p s).x (moved_x p s).cone).rotations;
      failure = (projected p (moved_x p s).x (moved_x p s).cone).failure;
    }
unfolding updated
updated_rule p s = refl

stopped_rule : (p : Problem) (s : State) → stopped p s ≡ state_of (projected p (moved_x p s).x (moved_x p s).cone).cone (moved_x p s).y (moved_x p s).dp_tau (moved_x p s).dp_sigma (moved_x p s).rx (moved_x p s).tx (projected p (moved_x p s).x (moved_x p s).cone).work
unfolding stopped
stopped_rule p s = refl

projected_rule : (shape : Shape) (c : List Float) (a : Slices) (b : List Float) (words : List ℕ) (par : SolverParam) (x cone : List Float) → projected (problem_in shape c a b words par) x cone ≡ projected_in par shape words x cone
unfolding projected
projected_rule shape c a b words par x cone = refl

tau_rule : (shape : Shape) (c : List Float) (a : Slices) (b : List Float) (words : List ℕ) (par : SolverParam) (x : List Float) → tau_taken (problem_in shape c a b words par) x ≡ taken_in shape x
unfolding tau_taken
tau_rule shape c a b words par x = refl

x_rule : (p : Problem) (x y dp_tau dp_sigma rx tx cone : List Float)
    → moved_x p (state_of x y dp_tau dp_sigma rx tx cone) ≡ state_of (transformed_di one dp_tau (trans_op_k (embed p) (neg one) y +0 tx) one x) y dp_tau dp_sigma x (trans_op_k (embed p) (neg one) y +0 tx) cone
unfolding moved_x
x_rule p x y dp_tau dp_sigma rx tx cone = refl

y_rule : (p : Problem) (x y dp_tau dp_sigma rx tx cone : List Float)
    → (let k = embed p in let to = next_y k x y dp_sigma rx tx in
    moved_y p (state_of x y dp_tau dp_sigma rx tx cone) ≡ state_of x (set to (p.n + p.m) (smaller (at to (p.n + p.m)) +0)) dp_tau dp_sigma (next_rx k x y dp_sigma rx tx) (next_ty k x y dp_sigma rx tx ++ drop (length_y p.m p.n) tx) cone)
unfolding moved_y
y_rule p x y dp_tau dp_sigma rx tx cone = refl

-- ---- one after another

pub none_left : (p : Problem) (s : State) → (updated p s).failure ≡ none → stepped p s ≡ (updated p s).state
unfolding stepped
none_left p s e = rw e

stopped_left : (p : Problem) (s : State) (b : ℕ) → (updated p s).failure ≡ block b → stepped p s ≡ stopped p s
unfolding stepped
stopped_left p s b e = rw e

-- ---- all of it, for a caller that has what a step asks: what each answer of the projection makes of the step

module _ {par : SolverParam} {shape : Shape} {c : List Float} {a : Slices} {b : List Float} {words : List ℕ} {x y dp_tau dp_sigma rx tx cone x₁ rx₁ tx₁ : List Float} {answer : Option Product} {x₂ cone₂ : List Float} (r : StepReady par shape c a b words (state_of x y dp_tau dp_sigma rx tx cone)) (f : XMoved (embed_in par.«edition» shape c a b) x y dp_tau tx x₁ rx₁ tx₁) (as_long : length x₁ ≡ length x) (projects : ProductOutcome (project_fits par shape words x₁ cone) (projected_in par shape words x₁ cone) x₁ cone answer x₂ cone₂) where
  abbrev p : Problem
  p = problem_in shape c a b words par

  abbrev from : State
  from = state_of x y dp_tau dp_sigma rx tx cone

  abbrev taken : State
  taken = state_of (taken_in shape x₂) y dp_tau dp_sigma rx₁ tx₁ cone₂

  moved : moved_x p from ≡ state_of x₁ y dp_tau dp_sigma rx₁ tx₁ cone
  moved = rw (f.x_is, f.rx_is, f.tx_is) (x_rule p x y dp_tau dp_sigma rx tx cone)

  outcome : ProductOutcome true (projected_in par shape words x₁ cone) x₁ cone answer x₂ cone₂
  outcome = projected_true projects (project_fits_lem {x = x₁} cone (sizes_within r.operators) (record { is = as_long ∙ r.x_like.is }) r.cones)

  step_rule : updated p from ≡ record { state = moved_y p taken; rotations = (projected_in par shape words x₁ cone).rotations; failure = (projected_in par shape words x₁ cone).failure }
  step_rule = updated_rule p from ∙ rw (moved, projected_rule shape c a b words par x₁ cone, tau_rule shape c a b words par, outcome.cone_left, outcome.work_left)

  said : answer ≡ Some (product_answer (updated p from).rotations (updated p from).failure)
  said = rw step_rule outcome.answered

  pub step_some : answer ≡ None → ⊥
  step_some is = answer_some (updated p from).rotations (updated p from).failure (sym is ∙ said)

  pub step_failed : {number q : ℕ} → answer ≡ Some (Failed number q) → StepOutcome true p from (Some (Failed number q)) (state_of x₂ y dp_tau dp_sigma rx₁ tx₁ cone₂)
  step_failed {number} {q} is =
      let s = (answer_failed (updated p from).rotations (updated p from).failure number q (sym is ∙ said)).0 in
      let stops : stopped p from ≡ state_of x₂ y dp_tau dp_sigma rx₁ tx₁ cone₂ = stopped_rule p from ∙ rw (moved, projected_rule shape c a b words par x₁ cone, outcome.cone_left, outcome.work_left) in
      record { answered = sym is ∙ said; left = sym (stopped_left p from number s ∙ stops) }

  pub step_done : {q : ℕ} {x₃ y₄ rx₄ tx₄ : List Float} → answer ≡ Some (Done q) → x₃ ≡ taken_in shape x₂ → YMoved (embed_in par.«edition» shape c a b) x₃ y dp_sigma rx₁ tx₁ y₄ rx₄ tx₄ → StepOutcome true p from (Some (Done q)) (state_of x₃ y₄ dp_tau dp_sigma rx₄ tx₄ cone₂)
  step_done {q} {x₃} is t g =
      let s = (answer_done (updated p from).rotations (updated p from).failure q (sym is ∙ said)).0 in
      record { answered = sym is ∙ said; left = sym (none_left p from s ∙ rw (step_rule, ← t, y_rule p x₃ y dp_tau dp_sigma rx₁ tx₁ cone₂, g.y_is, g.rx_is, g.tx_is)) }
