-- What the parts of rx become, by what each function reads: p and d of the Rust, and the products of its one-place vector.
use Rattle.std.specs.Prelude.{ℕ, ◌+◌, List, [], ◌∷◌, Float}
use Rattle.std.specs.Float.Ieee.{neg}
use Rattle.rules.specs.declared.Shape.{Shape}
use Rattle.rules.specs.Helpers.{one}
use Rattle.rules.specs.Arithmetic.{+0}
use Rattle.rules.specs.Matrices.{opped_by, trans_opped_by}
use Rattle.rules.specs.Problem.{Slices, joined, column, matrix_in}
use Rattle.rules.specs.Step.{part}

module _ (edition : ℕ) (shape : Shape) where
  -- the parts x, y and s of a vector like x
  abbrev of_x : List Float → List Float
  of_x x = part 0 shape.cols.0 x

  abbrev of_y : List Float → List Float
  of_y x = part shape.cols.0 shape.rows.0 x

  abbrev of_s : List Float → List Float
  of_s x = part (shape.cols.0 + shape.rows.0) shape.rows.0 x

  abbrev pub primal_at : Slices → List Float → Float → List Float → List Float
  primal_at a b scale x =
      opped_by edition (matrix_in shape) scale (joined a) (of_x x) one (opped_by edition (column shape.rows.0) (neg one) b (one ∷ []) scale (of_s x))

  abbrev pub dual_at : List Float → Slices → Float → List Float → List Float → List Float
  dual_at c a scale x d =
      trans_opped_by edition (matrix_in shape) scale (joined a) (of_y x) one (opped_by edition (column shape.cols.0) one c (one ∷ []) +0 d)

  abbrev pub ray_at : Slices → List Float → List Float
  ray_at a x = opped_by edition (matrix_in shape) one (joined a) (of_x x) one (of_s x)

  abbrev pub dual_ray_at : Slices → List Float → List Float → List Float
  dual_ray_at a x d = trans_opped_by edition (matrix_in shape) one (joined a) (of_y x) +0 d

  abbrev pub product_x : List Float → Float → Float → List Float → List Float
  product_x c alpha start x = trans_opped_by edition (column shape.cols.0) alpha c (of_x x) +0 (start ∷ [])

  abbrev pub product_y : List Float → List Float → Float → Float → List Float → List Float
  product_y c b alpha start x = trans_opped_by edition (column shape.rows.0) alpha b (of_y x) +0 (product_x c alpha start x)
