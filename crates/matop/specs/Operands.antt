-- What A, in two slices, asks as an operator.
use Rattle.std.specs.Prelude.{Bool, cond, ◌&&◌, List, eqb, Float, length}
use Rattle.rules.specs.declared.Shape.{Shape}
use Rattle.rules.specs.Problem.{Slices}
use Rattle.shape.specs.Fitting.{parts_fit}

-- A's slices are as the shape says, x has a number for each column of A, or of A transposed, and y one for each row
abbrev pub operands_fit : Bool → Shape → Slices → List Float → List Float → Bool
operands_fit transpose shape a x y =
    parts_fit shape a && eqb (length x) (cond transpose shape.rows.0 shape.cols.0)
    && eqb (length y) (cond transpose shape.cols.0 shape.rows.0)
