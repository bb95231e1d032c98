-- Document 01, "One step, in order": calc_precond of solver.rs, what it asks and what it leaves; then what its parts leave.
use Rattle.std.specs.Prelude.{ℕ, ◌+◌, ◌≡◌, Bool, false, cond, not, ◌&&◌, List, ◌++◌, Float}
use Rattle.rules.specs.declared.Shape.{Shape}
use Rattle.rules.specs.Helpers.{one}
use Rattle.rules.specs.Vectors.{added}
use Rattle.rules.specs.Matrices.{absadded_cols, absadded_rows}
use Rattle.rules.specs.Blocks.{blocks_of, is_bad_cone}
use Rattle.rules.specs.Product.{group_all}
use Rattle.rules.specs.Problem.{Problem, Slices, Embed, column}
use Rattle.rules.specs.Step.{part}
use Rattle.rules.specs.Prepare.{sums_x, sums_y, sums_s, sums_tau, dp_tau_of, dp_sigma_of}
use Rattle.shape.specs.declared.Problem as handed
use Rattle.shape.specs.Fitting.{operators_fit, fits_x, fits_y}
use Rattle.shape.specs.Lent.{lent_slices}

-- the sizes are within the limits, c, A and b have the lengths that they ask, and the cone list is no BadCone for m places
abbrev pub problem_fits : Shape → List Float → Slices → List Float → List ℕ → Bool
problem_fits shape c a b words = operators_fit shape c a b && not (is_bad_cone words shape.rows.0)

-- the list alone
pub record Covers (shape : Shape) (words : List ℕ) : Type 0 where
  pub is : is_bad_cone words shape.rows.0 ≡ false

-- .. and the two diagonals are a vector like x and one like y
abbrev pub precond_fits : Shape → List Float → Slices → List Float → List ℕ → List Float → List Float → Bool
precond_fits shape c a b words tau sigma = problem_fits shape c a b words && fits_x shape tau && fits_y shape sigma

-- the same of a problem that is handed over
abbrev pub lent_precond_fits : handed.Problem → List Float → List Float → Bool
lent_precond_fits p tau sigma =
    precond_fits p.operators.shape p.operators.c.now (lent_slices p.operators) p.operators.b.now p.words.now tau sigma

-- The complete outcome: it answers whether all fits. If so, both diagonals hold what the rules say, and if not, what they held before.
pub record PrecondOutcome (fits : Bool) (p : Problem) (tau sigma : List Float) (answer : Bool) (tau' sigma' : List Float) : Type 0 where
  pub answered : answer ≡ fits
  pub tau_left : tau' ≡ cond fits (dp_tau_of p tau) tau
  pub sigma_left : sigma' ≡ cond fits (dp_sigma_of p tau) sigma

-- ---- abssum: the absolute sums of the operator's columns are added to what the parts of a vector like x hold
module _ (k : Embed) (v : List Float) where
  abbrev pub with_sums_x : List Float
  with_sums_x = absadded_rows (column k.n) k.c (absadded_cols k.t k.a v)

  abbrev pub with_sums_y : List Float
  with_sums_y = absadded_rows (column k.m) k.b (absadded_rows k.t k.a v)

  abbrev pub with_sums_tau : List Float
  with_sums_tau = absadded_cols (column k.m) k.b (absadded_cols (column k.n) k.c v)

-- all of the columns' sums, and the rows'
abbrev pub column_sums : Embed → List Float → List Float
column_sums k t = sums_x k t ++ sums_y k t ++ sums_s k t ++ sums_tau k t

abbrev pub row_sums : Embed → List Float → List Float
row_sums k t = sums_x k t ++ added one (sums_s k t) (sums_y k t) ++ sums_tau k t

-- the rows' sums, from the columns'
module _ (shape : Shape) (tau : List Float) where
  abbrev pub rows_m : List Float
  rows_m = added one (part (shape.cols.0 + shape.rows.0) shape.rows.0 tau) (part shape.cols.0 shape.rows.0 tau)

  abbrev pub rows_of : List Float
  rows_of = part 0 shape.cols.0 tau ++ rows_m ++ part (shape.cols.0 + shape.rows.0 + shape.rows.0) 1 tau

-- ---- a vector like x with its two cone parts grouped
abbrev pub grouped_parts : Shape → List ℕ → List Float → List Float
grouped_parts shape words d =
    part 0 shape.cols.0 d ++ group_all (blocks_of words) (part shape.cols.0 shape.rows.0 d)
    ++ group_all (blocks_of words) (part (shape.cols.0 + shape.rows.0) shape.rows.0 d)
    ++ part (shape.cols.0 + shape.rows.0 + shape.rows.0) 1 d
