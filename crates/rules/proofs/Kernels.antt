-- Laws of the kernels for their callers: where the sizes fit the rule holds.
use mathlib.Core.Path.{◌≡◌}
use mathlib.Core.Bool.{Bool, true, false}
use mathlib.Core.List.{List}
use borrow.Author.Tests.{eq-eqb}
use lib.Ieee.{Float}
use lib.ListN.{length}
use Rattle.rules.specs.declared.MatType.{MatType}
use Rattle.rules.specs.Outcome.{Outcome}
use Rattle.rules.specs.Vectors.{same_length}
use Rattle.rules.specs.Matrices.{n_row, n_col, width, height, Stored, line_fits, transform_fits, op_fits, trans_op_fits, cols_fit, rows_fit}
use Rattle.rules.proofs.Outcome.{ruled_if_fits}
use Rattle.rules.proofs.Matrices.{fits_if_stored}

module _ {y ruled : List Float} {answer : Bool} {after : List Float} where
  transform_ruled : (transpose : Bool) {t : MatType} {mat : List Float} (x : List Float) → Outcome (transform_fits transpose t mat x y) ruled y answer after → Stored t mat → length x ≡ width transpose t → length y ≡ height transpose t → after ≡ ruled
  transform_ruled transpose {t} x o s h k =
      ruled_if_fits o (rw (fits_if_stored s, eq-eqb (length x) (width transpose t) h) (eq-eqb (length y) (height transpose t) k))

  pub op_ruled : {t : MatType} {mat : List Float} (x : List Float) → Outcome (op_fits t mat x y) ruled y answer after → Stored t mat → length x ≡ n_col t → length y ≡ n_row t → after ≡ ruled
  op_ruled x o s h k = transform_ruled false x o s h k

  pub trans_op_ruled : {t : MatType} {mat : List Float} (x : List Float) → Outcome (trans_op_fits t mat x y) ruled y answer after → Stored t mat → length x ≡ n_row t → length y ≡ n_col t → after ≡ ruled
  trans_op_ruled x o s h k = transform_ruled true x o s h k

  pub add_ruled : (x : List Float) → Outcome (same_length x y) ruled y answer after → length x ≡ length y → after ≡ ruled
  add_ruled x o h = ruled_if_fits o (eq-eqb (length x) (length y) h)

  line_ruled : (transpose : Bool) {t : MatType} {mat : List Float} → Outcome (line_fits transpose t mat y) ruled y answer after → Stored t mat → length y ≡ width transpose t → after ≡ ruled
  line_ruled transpose {t} o s h = ruled_if_fits o (rw (fits_if_stored s) (eq-eqb (length y) (width transpose t) h))

  pub cols_ruled : {t : MatType} {mat : List Float} → Outcome (cols_fit t mat y) ruled y answer after → Stored t mat → length y ≡ n_col t → after ≡ ruled
  cols_ruled o s h = line_ruled false o s h

  pub rows_ruled : {t : MatType} {mat : List Float} → Outcome (rows_fit t mat y) ruled y answer after → Stored t mat → length y ≡ n_row t → after ≡ ruled
  rows_ruled o s h = line_ruled true o s h
