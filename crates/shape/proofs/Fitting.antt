-- What fits by test fits part by part, and the other way.
use Prim.Native.Nat.{ℕ, ◌+◌, ◌≤◌}
use native.Mathlib.Nat.{mul-one}
use mathlib.Core.Path.{◌≡◌, refl, sym, ◌∙◌, subst}
use mathlib.Core.Bool.{true, ◌&&◌}
use mathlib.Core.List.{List, [], ◌∷◌, append-nil}
use borrow.Author.Tests.{leb-true, eqb-true, le-leb, eq-eqb}
use native.Mathlib.Omega.{arith}
use lib.Ieee.{Float}
use lib.ListN.{length}
use Rattle.rules.specs.declared.Shape.{Shape}
use Rattle.rules.specs.declared.Storage.{Storage}
use Rattle.rules.specs.declared.Storage.TheVariants.{Dense, Packed}
use Rattle.rules.specs.Limits.{limit}
use Rattle.rules.specs.Matrices.{n_row, n_col, Stored}
use Rattle.rules.specs.Problem.{Slices, joined, matrix_of, column}
use Rattle.rules.specs.Step.{part}
use Rattle.rules.proofs.Parts.{part_length}
use Rattle.rules.proofs.Matrices.{both_true, stored_if_fits}
use Rattle.rules.proofs.Slices.{split_stored, joined_length}
use Rattle.shape.specs.Fitting.{is_within, fits_x, fits_y, parts_in, parts_fit, Sized, operators_fit, embed_fits, Fits, LikeX, LikeY}

-- sizes within the limits
pub record Within (shape : Shape) : Type 0 where
  pub rows : shape.rows.0 ≤ limit
  pub cols : shape.cols.0 ≤ limit

pub within : (shape : Shape) → is_within shape ≡ true → Within shape
within shape h =
    let p = both_true _ _ h in
    record { rows = leb-true _ _ p.0; cols = leb-true _ _ p.1 }

-- a vector like x, and one like y
pub x_fits : {shape : Shape} {x : List Float} → Within shape → LikeX shape x → fits_x shape x ≡ true
x_fits w like = rw (le-leb _ _ w.rows, le-leb _ _ w.cols) (eq-eqb _ _ like.is)

pub y_fits : {shape : Shape} {y : List Float} → Within shape → LikeY shape y → fits_y shape y ≡ true
y_fits w like = rw (le-leb _ _ w.rows, le-leb _ _ w.cols) (eq-eqb _ _ like.is)

module _ (shape : Shape) where
  pub like_x : (x : List Float) → fits_x shape x ≡ true → LikeX shape x
  like_x x h = record { is = eqb-true _ _ (both_true (is_within shape) _ h).1 }

  pub like_y : (y : List Float) → fits_y shape y ≡ true → LikeY shape y
  like_y y h = record { is = eqb-true _ _ (both_true (is_within shape) _ h).1 }

-- ---- A's two slices

-- a second slice with nothing in it
pub none_after : (a : Slices) → length a.rest ≡ 0 → joined a ≡ a.first
none_after a e = rw (no_numbers a.rest e) (append-nil a.first)
  where
    no_numbers : (v : List Float) → length v ≡ 0 → v ≡ []
    no_numbers [] e = refl
    no_numbers (x ∷ v) e = absurd (omega arith)

-- slices that fit hold a matrix of the shape's sizes
module _ (m n n1 : ℕ) (a : Slices) where
  record SizedIn (storage : Storage) : Type 0 where
    rows : n_row (matrix_of storage m n) ≡ m
    cols : n_col (matrix_of storage m n) ≡ n
    stored : Stored (matrix_of storage m n) (joined a)

  sized_in : (storage : Storage) → parts_in storage m n n1 a ≡ true → SizedIn storage
  sized_in Dense h =
      let s = split_stored {factory = a.first} {lesson = a.rest} h in
      record { rows = refl; cols = refl; stored = record { rows = s.m_within; cols = s.n_within; all = joined_length s } }
  sized_in Packed h =
      let p = both_true _ _ h in
      let q = both_true _ _ p.0 in
      record {
        rows = refl;
        cols = eqb-true _ _ q.0;
        stored = rw (none_after a (eqb-true _ _ q.1)) (stored_if_fits p.1);
      }

pub sized_of : (shape : Shape) (a : Slices) → parts_fit shape a ≡ true → Sized shape a
sized_of shape a h =
    let s = sized_in shape.rows.0 shape.cols.0 shape.first.0 a shape.storage h in
    record { parts = h; rows = s.rows; cols = s.cols; stored = s.stored }

-- ---- the operators

pub sizes_within : {shape : Shape} {c : List Float} {a : Slices} {b : List Float} → Fits shape c a b → Within shape
sizes_within f = record { rows = f.m_within; cols = f.n_within }

pub operators_fit_lem : {shape : Shape} {c : List Float} {a : Slices} {b : List Float} → Fits shape c a b → operators_fit shape c a b ≡ true
operators_fit_lem f = rw (f.matrix.parts, eq-eqb _ _ f.c_length) (eq-eqb _ _ f.b_length)

pub fits_of : (shape : Shape) (c : List Float) (a : Slices) (b : List Float) → operators_fit shape c a b ≡ true → Fits shape c a b
fits_of shape c a b h =
    let p = both_true _ _ h in
    let q = both_true _ _ p.0 in
    let s = sized_of shape a q.0 in
    record {
      m_within = subst (λ (k : ℕ). k ≤ limit) s.rows s.stored.rows;
      n_within = subst (λ (k : ℕ). k ≤ limit) s.cols s.stored.cols;
      matrix = s;
      c_length = eqb-true _ _ q.1;
      b_length = eqb-true _ _ p.1;
    }

-- c and b as matrices of one column
pub c_stored : {shape : Shape} {c : List Float} {a : Slices} {b : List Float} → Fits shape c a b → Stored (column shape.cols.0) c
c_stored {shape} {c} f = record { rows = f.n_within; cols = omega arith; all = f.c_length ∙ sym (mul-one shape.cols.0) }

pub b_stored : {shape : Shape} {c : List Float} {a : Slices} {b : List Float} → Fits shape c a b → Stored (column shape.rows.0) b
b_stored {shape} f = record { rows = f.m_within; cols = omega arith; all = f.b_length ∙ sym (mul-one shape.rows.0) }

-- the lengths of the parts of a vector like x, and of one like y
module _ {shape : Shape} {x : List Float} (like : LikeX shape x) where
  pub long_x : length (part 0 shape.cols.0 x) ≡ shape.cols.0
  long_x = part_length 0 shape.cols.0 x (omega (arith, like.is))

  pub long_y : length (part shape.cols.0 shape.rows.0 x) ≡ shape.rows.0
  long_y = part_length shape.cols.0 shape.rows.0 x (omega (arith, like.is))

  pub long_s : length (part (shape.cols.0 + shape.rows.0) shape.rows.0 x) ≡ shape.rows.0
  long_s = part_length (shape.cols.0 + shape.rows.0) shape.rows.0 x (omega (arith, like.is))

  pub long_tau : length (part (shape.cols.0 + shape.rows.0 + shape.rows.0) 1 x) ≡ 1
  long_tau = part_length (shape.cols.0 + shape.rows.0 + shape.rows.0) 1 x (omega (arith, like.is))

module _ {shape : Shape} {y : List Float} (like : LikeY shape y) where
  pub long_n : length (part 0 shape.cols.0 y) ≡ shape.cols.0
  long_n = part_length 0 shape.cols.0 y (omega (arith, like.is))

  pub long_m : length (part shape.cols.0 shape.rows.0 y) ≡ shape.rows.0
  long_m = part_length shape.cols.0 shape.rows.0 y (omega (arith, like.is))

  pub long_1 : length (part (shape.cols.0 + shape.rows.0) 1 y) ≡ 1
  long_1 = part_length (shape.cols.0 + shape.rows.0) 1 y (omega (arith, like.is))

-- what the operator asks, part by part, and the other way
pub record EmbedFit (shape : Shape) (c : List Float) (a : Slices) (b x y : List Float) : Type 0 where
  pub operators : Fits shape c a b
  pub like_x : LikeX shape x
  pub like_y : LikeY shape y

pub embed_fit : (shape : Shape) (c : List Float) (a : Slices) (b x y : List Float) → embed_fits shape c a b x y ≡ true → EmbedFit shape c a b x y
embed_fit shape c a b x y h =
    let p = both_true (operators_fit shape c a b && fits_x shape x) _ h in
    let q = both_true (operators_fit shape c a b) (fits_x shape x) p.0 in
    record { operators = fits_of shape c a b q.0; like_x = like_x shape x q.1; like_y = like_y shape y p.1 }

-- for a caller whose lengths fit
pub embed_fits_lem : {shape : Shape} {c : List Float} {a : Slices} {b x y : List Float} → Fits shape c a b → LikeX shape x → LikeY shape y → embed_fits shape c a b x y ≡ true
embed_fits_lem f x y = rw (operators_fit_lem f, x_fits (sizes_within f) x) (y_fits (sizes_within f) y)
