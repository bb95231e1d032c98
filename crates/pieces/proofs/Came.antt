-- What the steps of a piece come to, none or more, and what is told of it.
use Prim.Native.Nat.{ℕ, zero, suc, ◌+◌, ◌-◌, ◌≤◌, max}
use native.Mathlib.Omega.{arith}
use mathlib.Core.Path.{◌≡◌, refl, sym, ◌∙◌}
use mathlib.Core.Bool.{true, false}
use mathlib.Core.List.{List}
use lib.Ieee.{Float}
use Rattle.std.specs.Prelude.{Option, Some}
use Rattle.std.specs.Option.{is_some}
use Rattle.rules.specs.declared.Norms.{Norms}
use Rattle.rules.specs.declared.Shape.{Shape}
use Rattle.rules.specs.declared.SolverParam.{SolverParam}
use Rattle.rules.specs.Problem.{Problem, Slices, problem_in}
use Rattle.rules.specs.Step.{State}
use Rattle.rules.specs.Product.{none}
use Rattle.rules.specs.Run.{Verdict, GoesOn, Ends, Piece, whole_step, state_from, is_cone_failure}
use Rattle.rules.specs.Progress.{untouched}
use Rattle.rules.specs.Demands.{step_from, verdict_from}
use Rattle.rules.proofs.Run.{step_from_lem, state_from_lem, piece_none, goes_by_the_rules, goes_on_exactly}
use Rattle.rules.proofs.Progress.{log_none}
use Rattle.step.specs.Update.{step_fits, StepReady}
use Rattle.step.proofs.Ready.{step_fits_lem}
use Rattle.whole_step.specs.WholeStep.{left_by_step}
use Rattle.iterate.specs.declared.Iterated.{Iterated}
use Rattle.iterate.specs.Iterate.{piece_of, before_last, iterated, IterateOutcome}
use Rattle.iterate.proofs.Outcomes.{ran_where_fits}
use Rattle.pieces.specs.Taking.{laid_by, SomeSteps}

-- ---- no step

pub none_taken : (p : Problem) (ns : Norms) (behind : ℕ) (s : State) (log : List Float) → SomeSteps 0 p ns behind s log (iterated GoesOn behind 0 (record { written = 0; dropped = 0 })) s log
none_taken p ns behind s log =
    let still : behind - behind ≡ 0 = omega arith in
    let halted = piece_none p ns behind 0 s in
    let nothing = log_none p ns behind s (untouched log) in
    record { answered = rw (halted, still, nothing); left = λ h. rw halted; log_left = rw (halted, still, nothing) }

-- ---- steps

-- where no cone failed, what a step leaves is the state after it
left_after : (p : Problem) (ns : Norms) (t : State) → (whole_step p ns t).failure ≡ none → left_by_step p ns t ≡ (whole_step p ns t).state
unfolding left_by_step
left_after p ns t e = rw e

module _ (p : Problem) (ns : Norms) (behind : ℕ) (s : State) where
  halted_after : (made : ℕ) (c : Piece) → 1 ≤ made → c.steps ≡ behind + made → c.state ≡ state_from p ns s made → verdict_from p ns behind s made ≡ GoesOn → left_by_step p ns (state_from p ns s (c.steps - behind - 1)) ≡ c.state
  halted_after zero c l steps state says = absurd (omega arith)
  halted_after (suc j) c l steps state says =
      let index : c.steps - behind - 1 ≡ j = omega arith in
      let t = step_from p ns s (suc j) in
      let whole = ((goes_on_exactly p (behind + suc j) t.failure t.criteria).exactly.0 says).0 in
      let step = step_from_lem p ns s j in
      rw (index, state, state_from_lem p ns s j, step) (left_after p ns (state_from p ns s j) (rw step at whole))

  -- of a piece that halts
  halted_left : (given : ℕ) → (piece_of p ns behind given s).said ≡ GoesOn → left_by_step p ns (before_last p ns behind given s) ≡ (piece_of p ns behind given s).state
  halted_left given is =
      let r = goes_by_the_rules (max given 1) p ns behind 0 s in
      let h = r.halts is in
      let some : 1 ≤ r.made = rw h.0 (omega arith) in
      halted_after r.made (piece_of p ns behind given s) some r.steps_are r.state_there (h.1 r.made some (omega arith))

once : {one other : Iterated} → Some one ≡ Some other → one ≡ other
once e = cc

module _ {par : SolverParam} {shape : Shape} {c : List Float} {a : Slices} {b : List Float} {words : List ℕ} {ns : Norms} {behind given : ℕ} {s : State} {log : List Float} {answer : Option Iterated} {s' : State} {log' : List Float} where
  state_left : IterateOutcome (step_fits par shape c a b words s) (problem_in shape c a b words par) ns behind given s log answer s' log' → StepReady par shape c a b words s → (said : Verdict) → (piece_of (problem_in shape c a b words par) ns behind given s).said ≡ said → is_cone_failure (laid_by said) ≡ false → s' ≡ (piece_of (problem_in shape c a b words par) ns behind given s).state
  state_left o r GoesOn is h =
      let e = step_fits_lem r in
      (rw e at o.left) ∙ halted_left (problem_in shape c a b words par) ns behind s given is
  state_left o r (Ends e) is h = (ran_where_fits o r).state_is (rw is h)

  -- they are taken, and that is what they come to
  pub some_steps : IterateOutcome (step_fits par shape c a b words s) (problem_in shape c a b words par) ns behind given s log answer s' log' → StepReady par shape c a b words s → is_some answer ≡ true
  some_steps o r = rw (ran_where_fits o r).answer_is

  pub some_taken : IterateOutcome (step_fits par shape c a b words s) (problem_in shape c a b words par) ns behind given s log answer s' log' → StepReady par shape c a b words s → 1 ≤ given → {ran : Iterated} → answer ≡ Some ran → SomeSteps given (problem_in shape c a b words par) ns behind s log ran s' log'
  some_taken o r some {ran} is =
      let i = ran_where_fits o r in
      let all : max given 1 ≡ given = omega arith in
      let same = once (sym is ∙ i.answer_is) in
      record {
        answered = rw all at same;
        left = rw all at (state_left o r (piece_of (problem_in shape c a b words par) ns behind given s).said refl);
        log_left = rw all at i.log_is;
      }
