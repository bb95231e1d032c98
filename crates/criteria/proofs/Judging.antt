-- Laws of the criteria's outcome.
use mathlib.Core.Path.{◌≡◌, sym, ◌∙◌}
use mathlib.Core.Bool.{Bool, true}
use mathlib.Core.List.{List}
use lib.Ieee.{Float}
use Rattle.std.specs.Prelude.{Option, Some}
use Rattle.rules.specs.declared.Shape.{Shape}
use Rattle.rules.specs.declared.Criteria.{Criteria}
use Rattle.rules.specs.Criteria.{Judged as Ruled}
use Rattle.rules.specs.Problem.{Slices}
use Rattle.shape.specs.Fitting.{Fits, LikeX}
use Rattle.shape.proofs.Fitting.{sizes_within, operators_fit_lem, x_fits}
use Rattle.criteria.specs.Judging.{judge_fits, JudgeOutcome}

pub judge_fits_lem : {shape : Shape} {c : List Float} {a : Slices} {b x rx : List Float} → Fits shape c a b → LikeX shape x → LikeX shape rx → judge_fits shape c a b x rx ≡ true
judge_fits_lem f x rx = rw (operators_fit_lem f, x_fits (sizes_within f) x) (x_fits (sizes_within f) rx)

-- for a caller whose lengths fit
pub judge_ruled : {fits : Bool} {ruled : Ruled} {rx rx' : List Float} {answer : Option Criteria} → JudgeOutcome fits ruled rx answer rx' → fits ≡ true → (answer ≡ Some ruled.criteria) × (rx' ≡ ruled.rx)
judge_ruled o e = (rw e at o.answered, rw e at o.rx_left)

pub judge_outcomes_coincide : {fits : Bool} {ruled : Ruled} {rx : List Float} {a b : Option Criteria} {v w : List Float} → JudgeOutcome fits ruled rx a v → JudgeOutcome fits ruled rx b w → (a ≡ b) × (v ≡ w)
judge_outcomes_coincide p q = (p.answered ∙ sym q.answered, p.rx_left ∙ sym q.rx_left)
