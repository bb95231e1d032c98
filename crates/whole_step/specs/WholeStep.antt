-- The complete outcome of one whole step.
use Rattle.std.specs.Prelude.{ℕ, ◌≡◌, Bool, cond, Option, Some, None}
use Rattle.rules.specs.declared.Norms.{Norms}
use Rattle.rules.specs.declared.Criteria.{Criteria}
use Rattle.rules.specs.Product.{Failure, none, block, is_none}
use Rattle.rules.specs.Problem.{Problem}
use Rattle.rules.specs.Step.{State}
use Rattle.rules.specs.Run.{whole_step}
use Rattle.step.specs.Update.{stepped}
use Rattle.whole_step.specs.declared.StepAnswer.{StepAnswer}
use Rattle.whole_step.specs.declared.StepAnswer.TheVariants.{Judged, Failed}

-- what a whole step leaves: where a cone failed, what `update_vecs` left
unfoldable pub left_by_step : Problem → Norms → State → State
unfolding whole_step stepped
left_by_step p ns s = cond (is_none (whole_step p ns s).failure) (whole_step p ns s).state (stepped p s)

-- its criteria with the rotations that it made; where a cone failed, its block with those up to there
abbrev pub step_answer : Criteria → ℕ → Failure → StepAnswer
step_answer criteria rotations none = Judged criteria rotations
step_answer criteria rotations (block b) = Failed b rotations

-- It answers the step's criteria and rotations, or the block that failed, where all fits, and no where it doesn't. The vectors and cone work hold what the rule
-- says, place by place, or what they held before.
pub record WholeStepOutcome (fits : Bool) (p : Problem) (ns : Norms) (s : State) (answer : Option StepAnswer) (s' : State) : Type 0 where
  pub answered : answer ≡ cond fits (Some (step_answer (whole_step p ns s).criteria (whole_step p ns s).rotations (whole_step p ns s).failure)) None
  pub left : s' ≡ cond fits (left_by_step p ns s) s
