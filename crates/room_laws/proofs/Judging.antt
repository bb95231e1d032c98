-- The criteria of a step: what fits, and how the outcome is shown.
use mathlib.Core.Path.{◌≡◌}
use mathlib.Core.Bool.{Bool, true, false, ◌&&◌}
use mathlib.Core.List.{List}
use lib.Ieee.{Float}
use Rattle.rules.specs.declared.Shape.{Shape}
use Rattle.rules.specs.declared.Criteria.{Criteria}
use Rattle.rules.specs.Criteria.{Judged as Ruled}
use Rattle.rules.proofs.Matrices.{both_true}
use Rattle.rules.specs.Problem.{Slices}
use Rattle.shape.specs.Fitting.{operators_fit, fits_x, Fits, LikeX}
use Rattle.shape.proofs.Fitting.{fits_of, like_x}
use Rattle.criteria.specs.Judging.{judge_fits, JudgeOutcome}
use Rattle.std.specs.Prelude.{Some, None}

pub record AllFit (shape : Shape) (c : List Float) (a : Slices) (b x rx : List Float) : Type 0 where
  pub operators : Fits shape c a b
  pub x_like : LikeX shape x
  pub rx_like : LikeX shape rx

pub all_fit : (shape : Shape) (c : List Float) (a : Slices) (b x rx : List Float) → judge_fits shape c a b x rx ≡ true → AllFit shape c a b x rx
all_fit shape c a b x rx h =
    let p = both_true (operators_fit shape c a b && fits_x shape x) _ h in
    let q = both_true (operators_fit shape c a b) (fits_x shape x) p.0 in
    record { operators = fits_of shape c a b q.0; x_like = like_x shape x q.1; rx_like = like_x shape rx p.1 }

pub judge_refused : {fits : Bool} {ruled : Ruled} {rx : List Float} → fits ≡ false → JudgeOutcome fits ruled rx None rx
judge_refused e = record { answered = rw e; rx_left = rw e }

pub judge_done : {fits : Bool} {ruled : Ruled} {rx rx' : List Float} {answer : Criteria} → fits ≡ true → answer ≡ ruled.criteria → rx' ≡ ruled.rx → JudgeOutcome fits ruled rx (Some answer) rx'
judge_done e says left = record { answered = rw (e, says); rx_left = rw e left }
