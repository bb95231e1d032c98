-- What an embedding's operators, which fit, leave to ask of the vectors.
use mathlib.Core.Path.{◌≡◌}
use mathlib.Core.Bool.{◌&&◌}
use mathlib.Core.List.{List}
use borrow.Author.Tests.{le-leb}
use lib.Dec.{eqb}
use lib.Ieee.{Float}
use lib.ListN.{length}
use Rattle.rules.specs.Matrices.{op_fits, trans_op_fits}
use Rattle.rules.specs.Problem.{column}
use Rattle.rules.proofs.Matrices.{fits_if_stored}
use Rattle.shape.specs.Fitting.{fits_x, fits_y, parts_fit}
use Rattle.shape.specs.Lent.{LentFits, lent_slices}
use Rattle.shape.proofs.Fitting.{Within, sizes_within, fits_of, c_stored, b_stored}
use Rattle.embedding.specs.declared.Embedding.{Embedding}
use Rattle.embedding.specs.Embedding.{is_like_x, is_like_y, lengths_fit}

module _ (k : Embedding) where
  they_fit : LentFits k.operators
  they_fit = fits_of k.operators.shape k.operators.c.now (lent_slices k.operators) k.operators.b.now k.fits

  within : Within k.operators.shape
  within = sizes_within they_fit

  pub x_alone : (x : List Float) → fits_x k.operators.shape x ≡ is_like_x k x
  x_alone x = rw (le-leb _ _ within.rows, le-leb _ _ within.cols)

  pub y_alone : (y : List Float) → fits_y k.operators.shape y ≡ is_like_y k y
  y_alone y = rw (le-leb _ _ within.rows, le-leb _ _ within.cols)

  module _ (x y : List Float) where
    pub c_op_asks : op_fits (column k.operators.shape.cols.0) k.operators.c.now x y ≡ lengths_fit 1 k.operators.shape.cols.0 x y
    c_op_asks = rw (fits_if_stored (c_stored they_fit))

    pub b_op_asks : op_fits (column k.operators.shape.rows.0) k.operators.b.now x y ≡ lengths_fit 1 k.operators.shape.rows.0 x y
    b_op_asks = rw (fits_if_stored (b_stored they_fit))

    pub c_trans_asks : trans_op_fits (column k.operators.shape.cols.0) k.operators.c.now x y ≡ lengths_fit k.operators.shape.cols.0 1 x y
    c_trans_asks = rw (fits_if_stored (c_stored they_fit))

    pub b_trans_asks : trans_op_fits (column k.operators.shape.rows.0) k.operators.b.now x y ≡ lengths_fit k.operators.shape.rows.0 1 x y
    b_trans_asks = rw (fits_if_stored (b_stored they_fit))

    pub a_op_asks : (parts_fit k.operators.shape (lent_slices k.operators) && eqb (length x) k.operators.shape.cols.0 && eqb (length y) k.operators.shape.rows.0)
        ≡ lengths_fit k.operators.shape.cols.0 k.operators.shape.rows.0 x y
    a_op_asks = rw they_fit.matrix.parts

    pub a_trans_asks : (parts_fit k.operators.shape (lent_slices k.operators) && eqb (length x) k.operators.shape.rows.0 && eqb (length y) k.operators.shape.cols.0)
        ≡ lengths_fit k.operators.shape.rows.0 k.operators.shape.cols.0 x y
    a_trans_asks = rw they_fit.matrix.parts
