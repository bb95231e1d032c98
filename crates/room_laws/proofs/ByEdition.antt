-- A matrix as an operator, by edition.
use Prim.Native.Nat.{ℕ}
use mathlib.Core.Path.{◌≡◌}
use mathlib.Core.Bool.{Bool, true, false}
use mathlib.Core.List.{List}
use borrow.Author.Tests.{ne_eqb}
use lib.Ieee.{Float}
use Rattle.rules.specs.declared.MatType.{MatType}
use Rattle.rules.specs.declared.Shape.{Shape}
use Rattle.rules.specs.Outcome.{Outcome}
use Rattle.rules.specs.Matrices.{transform_fits, opped_by, trans_opped_by}
use Rattle.rules.specs.Problem.{Slices, joined, matrix_in}
use Rattle.rules.proofs.Matrices.{fits_if_stored}
use Rattle.shape.proofs.Fitting.{sized_of}
use Rattle.shape.specs.Fitting.{parts_fit}
use Rattle.matop.specs.Operands.{operands_fit}
use Rattle.halved_transform.specs.Halved.{operated_by_halves}

module _ (edition : ℕ) (other : edition ≡ 2 → ⊥) (t : MatType) (alpha : Float) (mat x : List Float) (beta : Float) (y : List Float) where
  pub op_from_the_left : opped_by 1 t alpha mat x beta y ≡ opped_by edition t alpha mat x beta y
  unfolding opped_by
  op_from_the_left = rw (ne_eqb edition 2 other)

  pub trans_op_from_the_left : trans_opped_by 1 t alpha mat x beta y ≡ trans_opped_by edition t alpha mat x beta y
  unfolding trans_opped_by
  trans_op_from_the_left = rw (ne_eqb edition 2 other)

module _ (edition : ℕ) (two : edition ≡ 2) (t : MatType) (alpha : Float) (mat x : List Float) (beta : Float) (y : List Float) where
  pub op_by_halves : operated_by_halves false t alpha mat x beta y ≡ opped_by edition t alpha mat x beta y
  unfolding opped_by operated_by_halves
  op_by_halves = rw two

  pub trans_op_by_halves : operated_by_halves true t alpha mat x beta y ≡ trans_opped_by edition t alpha mat x beta y
  unfolding trans_opped_by operated_by_halves
  trans_op_by_halves = rw two

pub parts_misfit : (transpose : Bool) (shape : Shape) (a : Slices) (x y : List Float) → parts_fit shape a ≡ false → operands_fit transpose shape a x y ≡ false
parts_misfit transpose shape a x y e = rw e

-- an outcome by one rule is one by an equal rule
pub outcome_as : {fits : Bool} {ruled ruled' before : List Float} {answer : Bool} {after : List Float} → ruled ≡ ruled' → Outcome fits ruled before answer after → Outcome fits ruled' before answer after
outcome_as e o = rw (← e) o

-- slices that fit hold the matrix of the shape: what it asks of x and y is what the shape asks
pub operands_joined : (transpose : Bool) (shape : Shape) (a : Slices) (x y : List Float) → parts_fit shape a ≡ true → transform_fits transpose (matrix_in shape) (joined a) x y ≡ operands_fit transpose shape a x y
operands_joined transpose shape a x y e =
    let s = sized_of shape a e in
    rw (fits_if_stored s.stored, s.rows, s.cols, e)
