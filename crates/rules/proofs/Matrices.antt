-- Laws of the matrix rules: where entries are stored, and what the tests of sizes say.
use Prim.Native.Nat.{ℕ, zero, suc, ◌+◌, ◌-◌, ◌*◌, ◌<◌, ◌≤◌}
use native.Mathlib.Nat.{mul_comm, suc-mul, mul-le-mul, mul-le-mul_left, mul-le-mul_right, mul-zero, mul-suc}
use native.Mathlib.Omega.{arith}
use mathlib.Core.Path.{◌≡◌, refl, sym, ap, ◌∙◌}
use mathlib.Core.Bool.{Bool, true, false, ◌&&◌, false≢true, ◌||◌, true≢false}
use mathlib.Core.List.{List}
use borrow.Author.Tests.{leb-true, eqb-true, le-leb, eq-eqb}
use lib.Dec.{leb, eqb}
use lib.Ieee.{Float}
use lib.ListN.{length, take, drop}
use Rattle.rules.specs.declared.MatType.{MatType}
use Rattle.rules.specs.declared.MatType.TheVariants.{General, SymPack}
use Rattle.rules.specs.declared.Rows.{Rows}
use Rattle.rules.specs.declared.Cols.{Cols}
use Rattle.rules.specs.Helpers.{magnitude}
use Rattle.rules.specs.Vectors.{abssum}
use Rattle.rules.specs.Limits.{limit}
use Rattle.rules.specs.Arithmetic.{◌+ᶠ◌, ◌*ᶠ◌, +0, at}
use Rattle.rules.specs.Matrices.{n_row, n_col, stored_length, place, entry, entries, transposed, col_sum, product_by, transformed_by, width, height, stored_fits, Stored, line_fits, transform_fits}
use Rattle.rules.proofs.Arithmetic.{sum_none, each_same}
use Rattle.rules.proofs.Editions.{sum_by_same}
use Rattle.rules.proofs.Vectors.{abssum_of_part, abssum_of_rest}
use Rattle.rules.proofs.Columns.{packed_place_mirrored, packed_place_inside}

-- ---- every entry is stored

pub dense_inside : (rows cols r c : ℕ) → r < rows → c < cols → c * rows + r < rows * cols
dense_inside rows cols r c hr hc =
    omega (arith, mul-le-mul_right rows (suc-le c cols hc), suc-mul c rows, mul_comm rows cols)
  where
    suc-le : (a b : ℕ) → a < b → suc a ≤ b
    suc-le a b h = omega arith

pub place_inside : (t : MatType) (r c : ℕ) → r < n_row t → c < n_col t → place t r c < stored_length t
unfolding place
place_inside (General rows cols) r c hr hc = dense_inside rows.0 cols.0 r c hr hc
place_inside (SymPack rows) r c hr hc = packed_place_inside rows.0 r c hr hc

pub stored_inside : {t : MatType} {mat : List Float} → Stored t mat → (r c : ℕ) → r < n_row t → c < n_col t → place t r c < length mat
stored_inside {t} {mat} s r c hr hc = rw s.all (place_inside t r c hr hc)

-- ---- the lines of a dense matrix

module _ {rows : Rows} {cols : Cols} {mat : List Float} (s : Stored (General rows cols) mat) where
  -- a column is stored, from its start
  pub column_inside : (c : ℕ) → c < cols.0 → c * rows.0 + rows.0 ≤ length mat
  column_inside c h = go (suc-le c cols.0 h)
    where
      suc-le : (a b : ℕ) → a < b → suc a ≤ b
      suc-le a b h = omega arith

      go : suc c ≤ cols.0 → c * rows.0 + rows.0 ≤ length mat
      go h = rw s.all (omega (arith, mul-le-mul_right rows.0 h, suc-mul c rows.0, mul_comm rows.0 cols.0))

  -- a matrix of which something is stored has columns, and each row starts within
  pub some_columns : 0 < length mat → 0 < cols.0
  some_columns h = go cols.0 (rw s.all at h)
    where
      go : (n : ℕ) → 0 < rows.0 * n → 0 < n
      go zero l = omega (arith, mul-zero rows.0)
      go (suc n) l = omega arith

  pub row_inside : (r : ℕ) → r < rows.0 → 0 < length mat → r < length mat
  row_inside r h l =
      let p : rows.0 * 1 ≤ rows.0 * cols.0 = mul-le-mul_left rows.0 (some_columns l) in
      rw s.all (omega arith)

  pub no_columns : (r : ℕ) → r < rows.0 → length mat ≡ 0 → cols.0 ≡ 0
  no_columns r h e = go cols.0 (sym s.all ∙ e)
    where
      go : (n : ℕ) → rows.0 * n ≡ 0 → n ≡ 0
      go zero l = refl
      go (suc n) l = absurd (omega (arith, mul-suc rows.0 n))

  pub column-sum : (c : ℕ) → c < cols.0 → abssum (take (c * rows.0 + rows.0 - c * rows.0) (drop (c * rows.0) mat)) 1 ≡ col_sum (entry (General rows cols) mat) rows.0 c
  unfolding entry
  column-sum c h = abssum_of_part mat (c * rows.0) (c * rows.0 + rows.0) rows.0 refl (column_inside c h)

  pub row_sum : (r : ℕ) → r < rows.0 → 0 < length mat → abssum (take (length mat - r) (drop r mat)) rows.0 ≡ col_sum (transposed (entry (General rows cols) mat)) cols.0 r
  unfolding entry
  row_sum r h l = abssum_of_rest mat r rows.0 cols.0 h (some_columns l) s.all

  pub row_sum_none : (r : ℕ) → r < rows.0 → length mat ≡ 0 → +0 ≡ col_sum (transposed (entry (General rows cols) mat)) cols.0 r
  unfolding entry
  row_sum_none r h e = rw (no_columns r h e) (sym (sum_none +0 (λ c. magnitude (entry (General rows cols) mat r c))))

-- ---- a packed matrix transposed is the same

pub packed-transposed : (transpose : Bool) (rows : Rows) (mat : List Float) (r c : ℕ) → entries transpose (SymPack rows) mat r c ≡ entry (SymPack rows) mat r c
unfolding entry place
packed-transposed true rows mat r c = ap (at mat) (packed_place_mirrored r c)
packed-transposed false rows mat r c = refl

pub packed_fits : (transpose : Bool) (rows : Rows) (mat x y : List Float) → transform_fits transpose (SymPack rows) mat x y ≡ transform_fits false (SymPack rows) mat x y
packed_fits true rows mat x y = refl
packed_fits false rows mat x y = refl

pub transformed_same : (edition : ℕ) (alpha : Float) (e f : ℕ → ℕ → Float) (x : List Float) (beta : Float) (y : List Float) → ((r c : ℕ) → e r c ≡ f r c) → transformed_by edition alpha e x beta y ≡ transformed_by edition alpha f x beta y
unfolding transformed_by
transformed_same edition alpha e f x beta y h =
    each_same (λ r v. alpha *ᶠ product_by edition e x r +ᶠ beta *ᶠ v) (λ r v. alpha *ᶠ product_by edition f x r +ᶠ beta *ᶠ v) y
    (λ r l. ap (λ s. alpha *ᶠ s +ᶠ beta *ᶠ at y r) (sum_by_same edition (λ c. e r c *ᶠ at x c) (λ c. f r c *ᶠ at x c) (length x) (λ c k. rw (h r c))))

-- ---- what the tests of sizes say

pub both_true : (a b : Bool) → a && b ≡ true → (a ≡ true) × (b ≡ true)
both_true true b e = (refl, e)
both_true false b e = absurd (false≢true e)

pub neither : (a b : Bool) → a || b ≡ false → (a ≡ false) × (b ≡ false)
neither true b e = absurd (true≢false e)
neither false b e = (refl, e)

pub stored_if_fits : {t : MatType} {mat : List Float} → stored_fits t mat ≡ true → Stored t mat
stored_if_fits {t} {mat} e =
    let p = both_true (leb (n_row t) limit && leb (n_col t) limit) (eqb (length mat) (stored_length t)) e in
    let q = both_true (leb (n_row t) limit) (leb (n_col t) limit) p.0 in
    record { rows = leb-true (n_row t) limit q.0; cols = leb-true (n_col t) limit q.1; all = eqb-true (length mat) (stored_length t) p.1 }

pub fits_if_stored : {t : MatType} {mat : List Float} → Stored t mat → stored_fits t mat ≡ true
fits_if_stored {t} {mat} s = rw (le-leb (n_row t) limit s.rows, le-leb (n_col t) limit s.cols) (eq-eqb (length mat) (stored_length t) s.all)

pub record Fitting (transpose : Bool) (t : MatType) (mat x y : List Float) : Type 0 where
  pub fits : transform_fits transpose t mat x y ≡ true
  pub stored : Stored t mat
  pub wide : length x ≡ width transpose t
  pub high : length y ≡ height transpose t

pub fitting : {transpose : Bool} {t : MatType} {mat x y : List Float} → transform_fits transpose t mat x y ≡ true → Fitting transpose t mat x y
fitting {transpose} {t} {mat} {x} {y} e =
    let p = both_true (line_fits transpose t mat x) (eqb (length y) (height transpose t)) e in
    let q = both_true (stored_fits t mat) (eqb (length x) (width transpose t)) p.0 in
    record { fits = e; stored = stored_if_fits q.0; wide = eqb-true (length x) (width transpose t) q.1; high = eqb-true (length y) (height transpose t) p.1 }

-- sizes within the limits can be multiplied
pub product_small : (a b : ℕ) → a ≤ limit → b ≤ limit + 1 → a * b ≤ limit * (limit + 1)
product_small a b h l = mul-le-mul h l

pub square_small : (n : ℕ) → n ≤ limit → n * n ≤ limit * limit
square_small n h = mul-le-mul h h
