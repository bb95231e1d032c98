-- Document 01, "Port order", 2 and 3: the matrix routines of floatgeneric.rs and matop.rs. What dense and packed share is said once, over `entry`.
use Rattle.std.specs.Prelude.{ℕ, suc, ◌+◌, ◌-◌, ◌*◌, ◌/◌, ◌≤◌, ◌≡◌, Bool, true, false, cond, ◌&&◌, ◌||◌, List, leb, ltb, eqb, Float, length}
use Rattle.std.specs.Float.Ieee.{add, mul}
use Rattle.rules.specs.declared.MatType.{MatType}
use Rattle.rules.specs.declared.MatType.TheVariants.{General, SymPack}
use Rattle.rules.specs.Limits.{limit}
use Rattle.rules.specs.Helpers.{magnitude}
use Rattle.rules.specs.Arithmetic.{◌+ᶠ◌, ◌*ᶠ◌, at, sum_to, sum_from, each}
use Rattle.rules.specs.Editions.{halved, sum_by}
use Rattle.rules.specs.Vectors.{scaled}

abbrev pub n_row : MatType → ℕ
n_row (General rows cols) = rows.0
n_row (SymPack rows) = rows.0

abbrev pub n_col : MatType → ℕ
n_col (General rows cols) = cols.0
n_col (SymPack rows) = rows.0

-- how many numbers a packed upper triangle of order n has, and how many stand before its column n
abbrev pub triangle : ℕ → ℕ
triangle n = n * (n + 1) / 2

-- how many numbers are stored
abbrev pub stored_length : MatType → ℕ
stored_length (General rows cols) = rows.0 * cols.0
stored_length (SymPack rows) = triangle rows.0

-- where the entry of row r and column c of a packed triangle is stored: by columns, the one with r ≤ c
unfoldable pub packed_place : ℕ → ℕ → ℕ
packed_place r c = cond (ltb r c) (triangle c + r) (triangle r + c)

-- and of a matrix of either kind
unfoldable pub place : MatType → ℕ → ℕ → ℕ
unfolding packed_place
place (General rows cols) r c = c * rows.0 + r
place (SymPack rows) r c = packed_place r c

unfoldable pub entry : MatType → List Float → ℕ → ℕ → Float
unfolding place
entry t mat r c = at mat (place t r c)

-- the matrix transposed: its rows are the columns
abbrev pub transposed : (ℕ → ℕ → Float) → ℕ → ℕ → Float
transposed entries r c = entries c r

-- the matrix, or the matrix transposed
abbrev pub entries : Bool → MatType → List Float → ℕ → ℕ → Float
entries transpose t mat = cond transpose (transposed (entry t mat)) (entry t mat)

abbrev pub height : Bool → MatType → ℕ
height transpose t = cond transpose (n_col t) (n_row t)

abbrev pub width : Bool → MatType → ℕ
width transpose t = cond transpose (n_row t) (n_col t)

-- row r of the matrix times x, by edition
abbrev pub product_by : ℕ → (ℕ → ℕ → Float) → List Float → ℕ → Float
product_by edition entries x r = sum_by edition (length x) (λ c. entries r c *ᶠ at x c)

-- alpha * (matrix times x) + beta * y: beta is multiplied even when it is 0
unfoldable pub transformed_by : ℕ → Float → (ℕ → ℕ → Float) → List Float → Float → List Float → List Float
unfolding each sum_from halved add mul
transformed_by edition alpha entries x beta y = each (λ r v. alpha *ᶠ product_by edition entries x r +ᶠ beta *ᶠ v) y

-- "A matrix with no rows or no columns only scales y by beta."
abbrev pub is_empty : MatType → Bool
is_empty t = eqb (n_row t) 0 || eqb (n_col t) 0

unfoldable pub opped_by : ℕ → MatType → Float → List Float → List Float → Float → List Float → List Float
unfolding transformed_by scaled entry
opped_by edition t alpha mat x beta y = cond (is_empty t) (scaled beta y) (transformed_by edition alpha (entry t mat) x beta y)

unfoldable pub trans_opped_by : ℕ → MatType → Float → List Float → List Float → Float → List Float → List Float
unfolding transformed_by scaled entry
trans_opped_by edition t alpha mat x beta y =
    cond (is_empty t) (scaled beta y) (transformed_by edition alpha (transposed (entry t mat)) x beta y)

-- those of edition one
abbrev pub product : (ℕ → ℕ → Float) → List Float → ℕ → Float
product entries x r = product_by 1 entries x r

abbrev pub transformed : Float → (ℕ → ℕ → Float) → List Float → Float → List Float → List Float
transformed alpha entries x beta y = transformed_by 1 alpha entries x beta y

abbrev pub opped : MatType → Float → List Float → List Float → Float → List Float → List Float
opped t alpha mat x beta y = opped_by 1 t alpha mat x beta y

abbrev pub trans_opped : MatType → Float → List Float → List Float → Float → List Float → List Float
trans_opped t alpha mat x beta y = trans_opped_by 1 t alpha mat x beta y

-- ---- absolute sums

-- the n entries of column c from the top
abbrev pub col_sum : (ℕ → ℕ → Float) → ℕ → ℕ → Float
col_sum entries n c = sum_to n (λ r. magnitude (entries r c))

-- column r of the triangle, from the top down to the diagonal, added to v; then row r, from the diagonal to the right
abbrev pub packed_sum : (ℕ → ℕ → Float) → ℕ → ℕ → Float → Float
packed_sum entries n r v = sum_from (col_sum entries (suc r) r +ᶠ v) (n - suc r) (λ k. magnitude (entries r (suc r + k)))

unfoldable pub absadded_cols : MatType → List Float → List Float → List Float
unfolding each entry sum_from magnitude add
absadded_cols (General rows cols) mat y = each (λ c v. col_sum (entry (General rows cols) mat) rows.0 c +ᶠ v) y
absadded_cols (SymPack rows) mat y = each (λ r v. packed_sum (entry (SymPack rows) mat) rows.0 r v) y

unfoldable pub absadded_rows : MatType → List Float → List Float → List Float
unfolding each entry sum_from magnitude add
absadded_rows (General rows cols) mat y = each (λ r v. col_sum (transposed (entry (General rows cols) mat)) cols.0 r +ᶠ v) y
absadded_rows (SymPack rows) mat y = each (λ r v. packed_sum (entry (SymPack rows) mat) rows.0 r v) y

-- ---- what fits: rows and columns within the limits, and each length as the sizes say

abbrev pub stored_fits : MatType → List Float → Bool
stored_fits t mat = leb (n_row t) limit && leb (n_col t) limit && eqb (length mat) (stored_length t)

-- the same, part by part
pub record Stored (t : MatType) (mat : List Float) : Type 0 where
  pub rows : n_row t ≤ limit
  pub cols : n_col t ≤ limit
  pub all : length mat ≡ stored_length t

-- a number for each column of the matrix, or of the matrix transposed
abbrev pub line_fits : Bool → MatType → List Float → List Float → Bool
line_fits transpose t mat x = stored_fits t mat && eqb (length x) (width transpose t)

abbrev pub cols_fit : MatType → List Float → List Float → Bool
cols_fit t mat y = line_fits false t mat y

abbrev pub rows_fit : MatType → List Float → List Float → Bool
rows_fit t mat y = line_fits true t mat y

-- and one in y for each row
abbrev pub transform_fits : Bool → MatType → List Float → List Float → List Float → Bool
transform_fits transpose t mat x y = line_fits transpose t mat x && eqb (length y) (height transpose t)

abbrev pub op_fits : MatType → List Float → List Float → List Float → Bool
op_fits t mat x y = transform_fits false t mat x y

abbrev pub trans_op_fits : MatType → List Float → List Float → List Float → Bool
trans_op_fits t mat x y = transform_fits true t mat x y
