-- The complete outcome of a step's criteria.
use Rattle.std.specs.Prelude.{◌≡◌, Bool, cond, ◌&&◌, List, Float, Option, Some, None}
use Rattle.rules.specs.declared.Criteria.{Criteria}
use Rattle.rules.specs.declared.Shape.{Shape}
use Rattle.rules.specs.Criteria.{Judged as Ruled}
use Rattle.rules.specs.Problem.{Slices}
use Rattle.shape.specs.Fitting.{operators_fit, fits_x}

-- the lengths that it asks
abbrev pub judge_fits : Shape → List Float → Slices → List Float → List Float → List Float → Bool
judge_fits shape c a b x rx = operators_fit shape c a b && fits_x shape x && fits_x shape rx

-- It answers by the rule where the lengths fit, and no where they don't; rx holds what the rule says, place by place, or what it held before.
pub record JudgeOutcome (fits : Bool) (ruled : Ruled) (rx : List Float) (answer : Option Criteria) (rx' : List Float) : Type 0 where
  pub answered : answer ≡ cond fits (Some ruled.criteria) None
  pub rx_left : rx' ≡ cond fits ruled.rx rx
