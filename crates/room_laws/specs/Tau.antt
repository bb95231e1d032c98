-- What a step leaves of a vector like x.
use Rattle.std.specs.Prelude.{ℕ, ◌≡◌, List, Float}
use Rattle.rules.specs.declared.Criteria.{Criteria}
use Rattle.rules.specs.declared.Shape.{Shape}
use Rattle.shape.specs.Fitting.{LikeX}
use Rattle.whole_step.specs.declared.StepAnswer.{StepAnswer}
use Rattle.whole_step.specs.declared.StepAnswer.TheVariants.{Judged}

-- a step that was judged left an x with a tau
pub record HasTau (shape : Shape) (t : StepAnswer) (x : List Float) : Type 0 where
  pub like : (found : Criteria) (made : ℕ) → t ≡ Judged found made → LikeX shape x
