-- What a step makes of the progress record by what it answered is what the rule says of the step.
use Prim.Native.Nat.{ℕ}
use mathlib.Core.Path.{◌≡◌, refl}
use mathlib.Core.Bool.{Bool, true, false}
use Rattle.std.specs.Prelude.{Option, Some}
use Rattle.rules.specs.declared.Norms.{Norms}
use Rattle.rules.specs.Product.{Failure, none, block}
use Rattle.rules.specs.Problem.{Problem, embed}
use Rattle.rules.specs.Step.{State}
use Rattle.rules.specs.Criteria.{tau_of}
use Rattle.rules.specs.Run.{whole_step}
use Rattle.rules.specs.Progress.{Log, is_due, log_step}
use Rattle.whole_step.specs.declared.StepAnswer.{StepAnswer}
use Rattle.whole_step.specs.WholeStep.{left_by_step, step_answer, WholeStepOutcome}
use Rattle.iterate.specs.Record.{log_answered}
use Rattle.iterate.proofs.Steps.{step_is}

module _ (p : Problem) (ns : Norms) (k : ℕ) (s : State) (log : Log) where
  -- where a cone failed, and where none did
  step_logged : (f : Failure) → (whole_step p ns s).failure ≡ f → (due : Bool) → is_due p.par.log_period k ≡ due → log_answered p.par.log_period k (tau_of (embed p) (left_by_step p ns s).x) (step_answer (whole_step p ns s).criteria (whole_step p ns s).rotations f) log ≡ log_step p k (whole_step p ns s) log
  unfolding left_by_step log_step
  step_logged none e true d = rw (e, d)
  step_logged none e false d = rw (e, d)
  step_logged (block b) e true d = rw (e, d)
  step_logged (block b) e false d = rw (e, d)

pub answered_logged : {p : Problem} {ns : Norms} {s : State} {answer : Option StepAnswer} {step : StepAnswer} {to : State} → WholeStepOutcome true p ns s answer to → answer ≡ Some step → (k : ℕ) (log : Log) → log_answered p.par.log_period k (tau_of (embed p) to.x) step log ≡ log_step p k (whole_step p ns s) log
answered_logged {p} {ns} {s} o is k log =
    rw (step_is o is, o.left) (step_logged p ns k s log (whole_step p ns s).failure refl (is_due p.par.log_period k) refl)
