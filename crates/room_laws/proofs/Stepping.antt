-- What the loop over steps learns of its next step, by what that step said.
use Prim.Native.Nat.{ℕ, ◌+◌, ◌≤◌}
use mathlib.Core.Path.{◌≡◌}
use mathlib.Core.Bool.{true≢false}
use mathlib.Core.List.{List}
use lib.Ieee.{Float}
use lib.ListN.{length}
use Rattle.std.specs.Prelude.{Option, Some}
use Rattle.rules.specs.declared.Ending.{Ending}
use Rattle.rules.specs.declared.Norms.{Norms}
use Rattle.rules.specs.declared.Shape.{Shape}
use Rattle.rules.specs.declared.SolverParam.{SolverParam}
use Rattle.rules.specs.Problem.{Slices, embed, problem_in}
use Rattle.rules.specs.Step.{State}
use Rattle.rules.specs.Run.{Verdict, GoesOn, Ends}
use Rattle.rules.specs.Criteria.{tau_of}
use Rattle.rules.specs.Progress.{Log}
use Rattle.step.specs.Update.{step_fits}
use Rattle.whole_step.specs.declared.StepAnswer.{StepAnswer}
use Rattle.whole_step.specs.WholeStep.{WholeStepOutcome}
use Rattle.iterate.specs.Said.{said_by, made_by}
use Rattle.iterate.specs.Record.{log_answered}
use Rattle.iterate.specs.Iterate.{counts_of, iterated, IterateOutcome}
use Rattle.iterate.proofs.Outcomes.{Going, step_x, step_stops}
use Rattle.room_laws.specs.Tau.{HasTau}

module _ {par : SolverParam} {shape : Shape} {c : List Float} {a : Slices} {b : List Float} {words : List ℕ} {ns : Norms} {behind given : ℕ} {from : State} {places : List Float} {k q left : ℕ} {s : State} {log : Log} {answer : Option StepAnswer} {to : State}
    (g : Going par shape c a b words ns behind given from places k q left s log) (taken : WholeStepOutcome (step_fits par shape c a b words s) (problem_in shape c a b words par) ns s answer to) {step : StepAnswer} (is : answer ≡ Some step) where
  -- a step that was judged left an x like the one before
  pub step_tau : length to.x ≡ length s.x → HasTau shape step to.x
  step_tau kept = record { like = λ found made e. step_x g taken is kept }

  module _ {log' : Log} {said : Verdict} {made : ℕ} (r : log' ≡ log_answered par.log_period (k + 1) (tau_of (embed (problem_in shape c a b words par)) to.x) step log) (says : said ≡ said_by par (k + 1) step) (counts : made ≡ made_by step) where
    pub step_ends : {e : Ending} → said ≡ Ends e → IterateOutcome (step_fits par shape c a b words from) (problem_in shape c a b words par) ns behind given from places (Some (iterated (Ends e) (k + 1) (q + made) (counts_of log'))) to log'.places
    step_ends h = rw h at (step_stops g taken is r says counts (λ n. absurd (true≢false (rw h at n))))

    pub step_halts : said ≡ GoesOn → left ≤ 1 → IterateOutcome (step_fits par shape c a b words from) (problem_in shape c a b words par) ns behind given from places (Some (iterated GoesOn (k + 1) (q + made) (counts_of log'))) to log'.places
    step_halts h l = rw h at (step_stops g taken is r says counts (λ n. l))
