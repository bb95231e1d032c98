-- What the solver's routines ask of what is lent to them: sizes within the limits, and lengths that fit.
use Rattle.std.specs.Prelude.{ℕ, ◌≤◌, ◌≡◌, Bool, true, ◌&&◌, List, leb, eqb, Float, length}
use Rattle.rules.specs.declared.MatType.TheVariants.{SymPack}
use Rattle.rules.specs.declared.Shape.{Shape}
use Rattle.rules.specs.declared.Storage.{Storage}
use Rattle.rules.specs.declared.Storage.TheVariants.{Dense, Packed}
use Rattle.rules.specs.Limits.{limit}
use Rattle.rules.specs.Matrices.{n_row, n_col, stored_fits, Stored}
use Rattle.rules.specs.Problem.{Slices, joined, matrix_in, length_x, length_y}
use Rattle.rules.specs.Split.{split_fits}

abbrev pub is_within : Shape → Bool
is_within shape = leb shape.rows.0 limit && leb shape.cols.0 limit

-- a vector like x, and one like y, of a problem within the limits
abbrev pub fits_x : Shape → List Float → Bool
fits_x shape x = is_within shape && eqb (length x) (length_x shape.rows.0 shape.cols.0)

abbrev pub fits_y : Shape → List Float → Bool
fits_y shape y = is_within shape && eqb (length y) (length_y shape.rows.0 shape.cols.0)

-- a matrix of m rows and n columns within the limits: of a dense one the first slice holds n1 columns and the second the rest; a packed one, with as many
-- columns as rows, stands in the first, and n1 is not asked
abbrev pub parts_in : Storage → ℕ → ℕ → ℕ → Slices → Bool
parts_in Dense m n n1 a = split_fits m n n1 a.first a.rest
parts_in Packed m n n1 a = eqb m n && eqb (length a.rest) 0 && stored_fits (SymPack (record { 0 = m })) a.first

abbrev pub parts_fit : Shape → Slices → Bool
parts_fit shape a = parts_in shape.storage shape.rows.0 shape.cols.0 shape.first.0 a

-- the same, part by part
pub record Sized (shape : Shape) (a : Slices) : Type 0 where
  pub parts : parts_fit shape a ≡ true
  pub rows : n_row (matrix_in shape) ≡ shape.rows.0
  pub cols : n_col (matrix_in shape) ≡ shape.cols.0
  pub stored : Stored (matrix_in shape) (joined a)

-- A is stored as the shape says, and c and b have a number for each column and each row
abbrev pub operators_fit : Shape → List Float → Slices → List Float → Bool
operators_fit shape c a b = parts_fit shape a && eqb (length c) shape.cols.0 && eqb (length b) shape.rows.0

-- the lengths that the embedding's operator asks, and its transpose
abbrev pub embed_fits : Shape → List Float → Slices → List Float → List Float → List Float → Bool
embed_fits shape c a b x y = operators_fit shape c a b && fits_x shape x && fits_y shape y

-- the same, part by part
pub record Fits (shape : Shape) (c : List Float) (a : Slices) (b : List Float) : Type 0 where
  pub m_within : shape.rows.0 ≤ limit
  pub n_within : shape.cols.0 ≤ limit
  pub matrix : Sized shape a
  pub c_length : length c ≡ shape.cols.0
  pub b_length : length b ≡ shape.rows.0

pub record LikeX (shape : Shape) (x : List Float) : Type 0 where
  pub is : length x ≡ length_x shape.rows.0 shape.cols.0

pub record LikeY (shape : Shape) (y : List Float) : Type 0 where
  pub is : length y ≡ length_y shape.rows.0 shape.cols.0
