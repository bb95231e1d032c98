-- What a private function of this crate does, where the rules speak only of a whole matrix.
use Rattle.std.specs.Prelude.{ℕ, suc, ◌+◌, Bool, cond, List, ltb, eqb, Float}
use Rattle.std.specs.Float.Ieee.{add}
use Rattle.rules.specs.declared.MatType.{MatType}
use Rattle.rules.specs.Helpers.{magnitude}
use Rattle.rules.specs.Arithmetic.{◌+ᶠ◌, at, sum_to, sum_from, each}
use Rattle.rules.specs.Matrices.{triangle, entries, height, col_sum}

-- the sums of the columns, or of the columns of the matrix transposed, added to y
unfoldable pub absadded : Bool → MatType → List Float → List Float → List Float
unfolding each sum_from magnitude add
absadded transpose t mat y = each (λ k v. col_sum (entries transpose t mat) (height transpose t) k +ᶠ v) y

-- what column c of a packed triangle adds to what place i holds: its own place gets the whole column, and each place above it one number
unfoldable pub column_added : List Float → ℕ → ℕ → Float → Float
unfolding sum_from magnitude add
column_added mat c i v =
    cond (ltb i c) (v +ᶠ magnitude (at mat (triangle c + i)))
    (cond (eqb i c) (sum_to (suc c) (λ r. magnitude (at mat (triangle c + r))) +ᶠ v) v)
