-- What a step says of the run, by what it answered.
use Rattle.std.specs.Prelude.{ℕ}
use Rattle.rules.specs.declared.Ending.TheVariants.{ConeFailure}
use Rattle.rules.specs.declared.SolverParam.{SolverParam}
use Rattle.rules.specs.Product.{none}
use Rattle.rules.specs.Run.{Verdict, Ends, verdict}
use Rattle.whole_step.specs.declared.StepAnswer.{StepAnswer}
use Rattle.whole_step.specs.declared.StepAnswer.TheVariants.{Judged, Failed}

-- what step k says
abbrev pub said_by : SolverParam → ℕ → StepAnswer → Verdict
said_by par k (Judged found made) = verdict par k none found
said_by par k (Failed b made) = Ends (ConeFailure b)

-- its rotations
abbrev pub made_by : StepAnswer → ℕ
made_by (Judged found made) = made
made_by (Failed b made) = made
