-- A step with its criteria is the rule's whole step, and its outcome.
use Prim.Native.Nat.{ℕ}
use native.Mathlib.Omega.{arith}
use mathlib.Core.Path.{◌≡◌, refl, sym, ap, ◌∙◌}
use mathlib.Core.Bool.{Bool, true, false}
use mathlib.Core.List.{List}
use lib.Ieee.{Float}
use Rattle.std.specs.Prelude.{Option, Some, None}
use lib.ListN.{length}
use Rattle.rules.specs.declared.Criteria.{Criteria}
use Rattle.rules.specs.declared.Norms.{Norms}
use Rattle.rules.specs.declared.Shape.{Shape}
use Rattle.rules.specs.declared.SolverParam.{SolverParam}
use Rattle.rules.specs.declared.Product.{Product}
use Rattle.rules.specs.declared.Product.TheVariants.{Done, Failed}
use Rattle.rules.specs.Product.{none, block}
use Rattle.rules.specs.Problem.{Slices, Problem, embed, problem_in, embed_in}
use Rattle.rules.specs.Step.{State, updated}
use Rattle.rules.specs.Criteria.{judged}
use Rattle.rules.specs.Run.{whole_step}
use Rattle.project.proofs.Cones.{answer_done, answer_failed, answer_some}
use Rattle.criteria.specs.Judging.{judge_fits, JudgeOutcome}
use Rattle.criteria.proofs.Judging.{judge_fits_lem, judge_ruled}
use Rattle.step.specs.Update.{state_of, stepped, step_fits, StepOutcome}
use Rattle.step.proofs.Ready.{fits_ready, step_true}
use Rattle.step.proofs.Updated.{none_left}
use Rattle.whole_step.specs.declared.StepAnswer.{StepAnswer}
use Rattle.whole_step.specs.declared.StepAnswer.TheVariants.{Judged, Failed as FailedAt}
use Rattle.whole_step.specs.WholeStep.{left_by_step, step_answer, WholeStepOutcome}

module _ (p : Problem) (ns : Norms) (s : State) where
  step_failure : (whole_step p ns s).failure ≡ (updated p s).failure
  unfolding whole_step
  step_failure = refl

  step_rotations : (whole_step p ns s).rotations ≡ (updated p s).rotations
  unfolding whole_step
  step_rotations = refl

  step_criteria : (whole_step p ns s).criteria ≡ (judged (embed p) p.par.eps_zero ns (updated p s).state.x (updated p s).state.rx).criteria
  unfolding whole_step
  step_criteria = refl

  step-state : (v : State) → v ≡ (updated p s).state → state_of v.x v.y v.dp_tau v.dp_sigma (judged (embed p) p.par.eps_zero ns v.x v.rx).rx v.tx v.cone ≡ (whole_step p ns s).state
  unfolding whole_step
  step-state v e = rw e

  -- what is answered where no cone failed, and where one did
  judged-at : (v : State) → v ≡ (updated p s).state → (updated p s).failure ≡ none → (q : ℕ) → Judged (judged (embed p) p.par.eps_zero ns v.x v.rx).criteria q ≡ step_answer (whole_step p ns s).criteria q (whole_step p ns s).failure
  judged-at v e f q = rw (step_failure, step_criteria, e, f)

  failed_at : (b : ℕ) → (updated p s).failure ≡ block b → (q : ℕ) → FailedAt b q ≡ step_answer (whole_step p ns s).criteria q (whole_step p ns s).failure
  failed_at b f q = rw (step_failure, f)

  none_failed : (updated p s).failure ≡ none → left_by_step p ns s ≡ (whole_step p ns s).state
  unfolding left_by_step
  none_failed f = rw (step_failure, f)

  one_failed : (b : ℕ) → (updated p s).failure ≡ block b → left_by_step p ns s ≡ stepped p s
  unfolding left_by_step
  one_failed b f = rw (step_failure, f)

  module _ (v : State) {answer : Option Product} (u : StepOutcome true p s answer v) where
    step_done : (q : ℕ) → answer ≡ Some (Done q) → (found : Criteria) → found ≡ (judged (embed p) p.par.eps_zero ns v.x v.rx).criteria → (rx' : List Float) → rx' ≡ (judged (embed p) p.par.eps_zero ns v.x v.rx).rx
        → WholeStepOutcome true p ns s (Some (Judged found q)) (state_of v.x v.y v.dp_tau v.dp_sigma rx' v.tx v.cone)
    step_done q is found h rx' e =
        let f = answer_done (updated p s).rotations (updated p s).failure q (sym is ∙ u.answered) in
        let same : v ≡ (updated p s).state = u.left ∙ none_left p s f.0 in
        let counts : q ≡ (whole_step p ns s).rotations = sym f.1 ∙ sym step_rotations in
        record { answered = rw (h, ← counts) (ap Some (judged-at v same f.0 q)); left = rw e (step-state v same) ∙ sym (none_failed f.0) }

    step_failed : (b q : ℕ) → answer ≡ Some (Failed b q) → WholeStepOutcome true p ns s (Some (FailedAt b q)) v
    step_failed b q is =
        let f = answer_failed (updated p s).rotations (updated p s).failure b q (sym is ∙ u.answered) in
        let counts : q ≡ (whole_step p ns s).rotations = sym f.1 ∙ sym step_rotations in
        record { answered = rw (← counts) (ap Some (failed_at b f.0 q)); left = u.left ∙ sym (one_failed b f.0) }

-- ---- a step that answers anything but no has sizes that fit

some_fits : {fits : Bool} {p : Problem} {s : State} {answer : Option Product} {v : State} → StepOutcome fits p s answer v → (answer ≡ None → ⊥) → fits ≡ true
some_fits {fits} o h = go fits o h
  where
    go : (t : Bool) {p : Problem} {s : State} {answer : Option Product} {v : State} → StepOutcome t p s answer v → (answer ≡ None → ⊥) → t ≡ true
    go true o h = refl
    go false o h = absurd (h o.answered)

not_none : {made : Product} → Some made ≡ None → ⊥
not_none e = let z : ◌≡◌ {A = ℕ} 0 1 = cc in omega arith

no_fits_not : {fits : Bool} {p : Problem} {s : State} {answer : Option Product} {v : State} → StepOutcome fits p s answer v → answer ≡ None → fits ≡ false
no_fits_not {fits} o is = go fits o is
  where
    go : (t : Bool) {p : Problem} {s : State} {answer : Option Product} {v : State} → StepOutcome t p s answer v → answer ≡ None → t ≡ false
    go true {p} {s} o is = absurd (answer_some (updated p s).rotations (updated p s).failure (sym is ∙ o.answered))
    go false o is = refl

-- ---- the outcome

module _ {fits : Bool} {p : Problem} {ns : Norms} {s : State} where
  whole-refused : {v : State} → fits ≡ false → v ≡ s → WholeStepOutcome fits p ns s None v
  whole-refused e same = record { answered = rw e; left = rw e same }

  whole-taken : {answer : Option StepAnswer} {v : State} → fits ≡ true → WholeStepOutcome true p ns s answer v → WholeStepOutcome fits p ns s answer v
  whole-taken e o = record { answered = rw e o.answered; left = rw e o.left }

  pub whole_steps_coincide : {a b : Option StepAnswer} {v w : State} → WholeStepOutcome fits p ns s a v → WholeStepOutcome fits p ns s b w → (a ≡ b) × (v ≡ w)
  whole_steps_coincide o q = (o.answered ∙ sym q.answered, o.left ∙ sym q.left)

-- ---- all of it, from what `update_vecs` left: what each answer of its makes of the whole step

module _ (par : SolverParam) (shape : Shape) (c : List Float) (a : Slices) (b : List Float) (words : List ℕ) (ns : Norms) (x y dp_tau dp_sigma rx tx cone : List Float) {answer : Option Product} {x₁ y₁ rx₁ tx₁ cone₁ : List Float} (u : StepOutcome (step_fits par shape c a b words (state_of x y dp_tau dp_sigma rx tx cone)) (problem_in shape c a b words par) (state_of x y dp_tau dp_sigma rx tx cone) answer (state_of x₁ y₁ dp_tau dp_sigma rx₁ tx₁ cone₁)) where
  abbrev from : State
  from = state_of x y dp_tau dp_sigma rx tx cone

  abbrev to : State
  to = state_of x₁ y₁ dp_tau dp_sigma rx₁ tx₁ cone₁

  abbrev Outcome : Option StepAnswer → State → Type 0
  Outcome said v = WholeStepOutcome (step_fits par shape c a b words from) (problem_in shape c a b words par) ns from said v

  fits_done : {q : ℕ} → answer ≡ Some (Done q) → step_fits par shape c a b words from ≡ true
  fits_done is = some_fits u (λ e. not_none (sym is ∙ e))

  -- a step that is done leaves what the criteria ask
  pub judge_says : {q : ℕ} → answer ≡ Some (Done q) → length x₁ ≡ length x → length rx₁ ≡ length rx → {found : Option Criteria} {rx₂ : List Float}
      → JudgeOutcome (judge_fits shape c a b x₁ rx₁) (judged (embed_in par.«edition» shape c a b) par.eps_zero ns x₁ rx₁) rx₁ found rx₂
      → (found ≡ Some (judged (embed_in par.«edition» shape c a b) par.eps_zero ns x₁ rx₁).criteria) × (rx₂ ≡ (judged (embed_in par.«edition» shape c a b) par.eps_zero ns x₁ rx₁).rx)
  judge_says is kept_x kept_rx o =
      let f = fits_ready par shape c a b words from (fits_done is) in
      judge_ruled o (judge_fits_lem f.operators (record { is = kept_x ∙ f.x_like.is }) (record { is = kept_rx ∙ f.rx_like.is }))

  pub whole_done : {q : ℕ} {found : Criteria} {rx₂ : List Float} → answer ≡ Some (Done q) → found ≡ (judged (embed_in par.«edition» shape c a b) par.eps_zero ns x₁ rx₁).criteria → rx₂ ≡ (judged (embed_in par.«edition» shape c a b) par.eps_zero ns x₁ rx₁).rx → Outcome (Some (Judged found q)) (state_of x₁ y₁ dp_tau dp_sigma rx₂ tx₁ cone₁)
  whole_done {q} {found} {rx₂} is h e =
      let fits = fits_done is in
      whole-taken fits (step_done (problem_in shape c a b words par) ns from to (step_true u fits) q is found h rx₂ e)

  pub whole_failed : {number q : ℕ} → answer ≡ Some (Failed number q) → Outcome (Some (FailedAt number q)) to
  whole_failed {number} {q} is =
      let fits = some_fits u (λ e. not_none (sym is ∙ e)) in
      whole-taken fits (step_failed (problem_in shape c a b words par) ns from to (step_true u fits) number q is)

  pub whole_no : answer ≡ None → Outcome None to
  whole_no is =
      let no = no_fits_not u is in
      whole-refused no (rw no at u.left)
