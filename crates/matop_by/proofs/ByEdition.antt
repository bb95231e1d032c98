-- Laws of a matrix as an operator, by edition.
use Prim.Native.Nat.{ℕ}
use mathlib.Core.Path.{◌≡◌}
use mathlib.Core.Bool.{Bool, true, false}
use mathlib.Core.List.{List, [], ◌++◌, append-nil}
use borrow.Author.Tests.{ne_eqb}
use lib.Ieee.{Float}
use Rattle.rules.specs.declared.MatType.{MatType}
use Rattle.rules.specs.declared.Shape.{Shape}
use Rattle.rules.specs.Outcome.{Outcome}
use Rattle.rules.specs.Matrices.{transform_fits, opped_by, trans_opped_by}
use Rattle.rules.specs.Problem.{Slices, joined, matrix_in}
use Rattle.rules.proofs.Matrices.{fits_if_stored}
use Rattle.shape.specs.Fitting.{Sized}
use Rattle.matop.specs.Operands.{operands_fit}
use Rattle.halved_transform.specs.Halved.{operated_by_halves}

module _ (edition : ℕ) (t : MatType) (alpha : Float) (mat x : List Float) (beta : Float) (y : List Float) where
  -- another number than 2: edition one's
  pub op_one : (edition ≡ 2 → ⊥) → opped_by edition t alpha mat x beta y ≡ opped_by 1 t alpha mat x beta y
  unfolding opped_by
  op_one other = rw (ne_eqb edition 2 other)

  pub trans_op_one : (edition ≡ 2 → ⊥) → trans_opped_by edition t alpha mat x beta y ≡ trans_opped_by 1 t alpha mat x beta y
  unfolding trans_opped_by
  trans_op_one other = rw (ne_eqb edition 2 other)

  pub op_two : edition ≡ 2 → opped_by edition t alpha mat x beta y ≡ operated_by_halves false t alpha mat x beta y
  unfolding opped_by operated_by_halves
  op_two two = rw two

  pub trans_op_two : edition ≡ 2 → trans_opped_by edition t alpha mat x beta y ≡ operated_by_halves true t alpha mat x beta y
  unfolding trans_opped_by operated_by_halves
  trans_op_two two = rw two

-- slices that fit hold the matrix of the shape: what it asks of x and y is what the shape asks
pub operands_joined : (transpose : Bool) (x y : List Float) {shape : Shape} {a : Slices} {ruled before after : List Float} {answer : Bool} → Sized shape a → Outcome (transform_fits transpose (matrix_in shape) (joined a) x y) ruled before answer after → Outcome (operands_fit transpose shape a x y) ruled before answer after
operands_joined transpose x y s o = rw s.parts (rw (fits_if_stored s.stored, s.rows, s.cols) at o)

pub none_beside : (mat : List Float) → mat ++ [] ≡ mat
none_beside mat = append-nil mat
