-- What the parts of the projection leave.
use Rattle.std.specs.Prelude.{ℕ, ◌+◌, ◌*◌, ◌≡◌, cond, List, ◌++◌, eqb, Float, length, take, drop, Option, Some}
use Rattle.std.specs.Float.Ieee.{add, mul}
use Rattle.rules.specs.Arithmetic.{◌+ᶠ◌, ◌*ᶠ◌, at, by_columns, tabulate}
use Rattle.rules.specs.Matrices.{entry}
use Rattle.rules.specs.Helpers.{reciprocal}
use Rattle.rules.specs.Jacobi.{Swept, packed, in_packed, in_square, swept_answer}
use Rattle.rules.specs.declared.Projection.{Projection}
use Rattle.rules.specs.Projections.{√2, diagonal_times, rebuilt_entry}

-- ---- the matrix built anew

-- e times the product of the column's entries r and c, added to what stands there
abbrev pub added : Float → List Float → List Float → ℕ → ℕ → Float
added e column x r c = e *ᶠ at column r *ᶠ at column c +ᶠ in_packed (length column) x r c

-- added in column c alone, and in all
unfoldable pub plus_column : Float → List Float → ℕ → List Float → List Float
unfolding by_columns entry add mul
plus_column e column c x = packed (length column) (λ r q. cond (eqb q c) (added e column x r q) (in_packed (length column) x r q))

unfoldable pub plus_rank1 : Float → List Float → List Float → List Float
unfolding by_columns entry add mul
plus_rank1 e column x = packed (length column) (added e column x)

-- ---- the two halves of the projection

-- the block and cone work, as the sweeps leave them
pub record SweptBlock (n : ℕ) (ruled : Swept) (work : List Float) (answer : Option Projection) (x' work' : List Float) : Type 0 where
  pub answered : answer ≡ Some (swept_answer ruled)
  pub block : x' ≡ ruled.reached.matrix
  pub cone_work : work' ≡ take n work ++ ruled.reached.vectors ++ drop (n + n * n) work
  pub stored : length ruled.reached.vectors ≡ n * n

abbrev pub value_of : ℕ → List Float → ℕ → Float
value_of n x i = in_packed n x i i

pub record RebuiltBlock (n : ℕ) (x work x' work' : List Float) : Type 0 where
  pub block : x' ≡ diagonal_times (reciprocal √2) n (packed n (rebuilt_entry (value_of n x) (in_square n (drop n work)) n))
  pub cone_work : work' ≡ tabulate n (value_of n x) ++ drop n work
