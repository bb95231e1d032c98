-- What the absolute sums of a matrix in two slices ask.
use Rattle.std.specs.Prelude.{Bool, cond, ◌&&◌, List, eqb, Float, length}
use Rattle.rules.specs.declared.Shape.{Shape}
use Rattle.rules.specs.Problem.{Slices}
use Rattle.shape.specs.Fitting.{parts_fit}

-- a number in y for each column, or for each row
abbrev pub lines_fit : Bool → Shape → Slices → List Float → Bool
lines_fit rows shape a y = parts_fit shape a && eqb (length y) (cond rows shape.rows.0 shape.cols.0)
