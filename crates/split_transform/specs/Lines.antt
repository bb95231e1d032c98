-- Sums over a slice that holds some columns of a dense matrix of m rows: a row's and a column's, which run on from a sum so far; and the products of all
-- its columns.
use Rattle.std.specs.Prelude.{ℕ, ◌+◌, ◌*◌, List, Float, length}
use Rattle.rules.specs.Arithmetic.{◌+ᶠ◌, ◌*ᶠ◌, +0, at, sum_from, each}

abbrev pub row_on : Float → ℕ → List Float → List Float → ℕ → Float
row_on so_far m mat x r = sum_from so_far (length x) (λ c. at mat (c * m + r) *ᶠ at x c)

abbrev pub column_on : Float → ℕ → List Float → List Float → ℕ → Float
column_on so_far m mat x c = sum_from so_far (length x) (λ r. at mat (c * m + r) *ᶠ at x r)

abbrev pub column_of : ℕ → List Float → List Float → ℕ → Float
column_of m mat x c = column_on +0 m mat x c

abbrev pub columns_of : Float → ℕ → List Float → List Float → Float → List Float → List Float
columns_of alpha m mat x beta y = each (λ c v. alpha *ᶠ column_of m mat x c +ᶠ beta *ᶠ v) y
