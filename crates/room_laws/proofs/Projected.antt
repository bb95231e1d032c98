-- How a projection of the cones shows its outcome.
use mathlib.Core.Path.{◌≡◌}
use mathlib.Core.Bool.{Bool, true}
use mathlib.Core.List.{List}
use lib.Ieee.{Float}
use Rattle.rules.specs.declared.Product.{Product}
use Rattle.rules.specs.Product.{Passed, ProductOutcome}
use Rattle.std.specs.Prelude.{Option}

pub projected_if : {fits : Bool} {ruled : Passed} {x cone : List Float} {answer : Option Product} {x' cone' : List Float} → fits ≡ true → ProductOutcome true ruled x cone answer x' cone' → ProductOutcome fits ruled x cone answer x' cone'
projected_if e o = record { answered = rw e o.answered; cone_left = rw e o.cone_left; work_left = rw e o.work_left }
