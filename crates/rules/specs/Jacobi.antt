-- Document 01, "Port order", 5: Jacobi's method, jacobi_eig of floatgeneric.rs. The matrix is a packed upper triangle; the vectors are n columns of n.
use Rattle.std.specs.Prelude.{ℕ, zero, suc, ◌+◌, ◌-◌, ◌*◌, ◌≡◌, Bool, true, false, cond, ◌&&◌, List, leb, eqb, Float, Option, Some, None}
use Rattle.std.specs.Float.{binary64}
use Rattle.std.specs.Float.Ieee.{lt, neg, add, sub, mul, div}
use Rattle.rules.specs.declared.MatType.TheVariants.{General, SymPack}
use Rattle.rules.specs.declared.Projection.{Projection}
use Rattle.rules.specs.declared.Projection.TheVariants.{Done, Failed}
use Rattle.rules.specs.declared.SolverParam.{SolverParam}
use Rattle.rules.specs.Limits.{limit, most_sweeps}
use Rattle.rules.specs.Helpers.{one, reciprocal}
use Rattle.rules.specs.Root.{root}
use Rattle.rules.specs.Arithmetic.{◌+ᶠ◌, ◌-ᶠ◌, ◌*ᶠ◌, ◌/ᶠ◌, +0, by_columns}
use Rattle.rules.specs.Matrices.{triangle, entry}

-- a symmetric matrix of order n as its upper triangle, and a square one, each by columns
abbrev pub packed : ℕ → (ℕ → ℕ → Float) → List Float
packed n entries = by_columns (λ c. suc c) n entries

abbrev pub square : ℕ → (ℕ → ℕ → Float) → List Float
square n entries = by_columns (λ c. n) n entries

-- the entry of row r and column c
abbrev pub in_packed : ℕ → List Float → ℕ → ℕ → Float
in_packed n x r c = entry (SymPack (record { 0 = n })) x r c

abbrev pub in_square : ℕ → List Float → ℕ → ℕ → Float
in_square n z r c = entry (General (record { 0 = n }) (record { 0 = n })) z r c

-- what Jacobi's method works on: the matrix, the vectors, and how many rotations were made
pub record Rotating : Type 0 where
  pub matrix : List Float
  pub vectors : List Float
  pub rotations : ℕ

-- ---- one rotation

abbrev pub two : Float
two = one +ᶠ one

abbrev pub hypotenuse : Float → Float
hypotenuse t = root binary64 (one +ᶠ t *ᶠ t)

-- the tangent of the angle, of entries a = (i, i), b = (j, j) and d = (i, j)
unfoldable pub tangent : Float → Float → Float → Float
unfolding one root lt add sub mul div neg
tangent a b d =
    let zeta = (b -ᶠ a) /ᶠ (two *ᶠ d) in
    cond (lt +0 zeta) (one /ᶠ (zeta +ᶠ hypotenuse zeta)) (neg one /ᶠ (neg zeta +ᶠ hypotenuse zeta))

unfoldable pub cosine : Float → Float
unfolding reciprocal one root add mul
cosine t = reciprocal (hypotenuse t)

-- columns i and j, rotated by the cosine c and the sine s: the first and the second of the pair
abbrev pub rotated_first : Float → Float → Float → Float → Float
rotated_first c s u v = c *ᶠ u -ᶠ s *ᶠ v

abbrev pub rotated_second : Float → Float → Float → Float → Float
rotated_second c s u v = s *ᶠ u +ᶠ c *ᶠ v

-- The matrix afterwards, at p ≤ q and for i < j: rows and columns i and j are rotated, their three common entries are worked out from a, b and d, and
-- the others stay.
unfoldable pub rotated_entry : (ℕ → ℕ → Float) → ℕ → ℕ → Float → Float → ℕ → ℕ → Float
unfolding one add sub mul
rotated_entry x i j c s p q =
    let a = x i i in
    let b = x j j in
    let d = x i j in
    cond (eqb p i && eqb q i) (c *ᶠ c *ᶠ a +ᶠ s *ᶠ s *ᶠ b -ᶠ two *ᶠ c *ᶠ s *ᶠ d)
    (cond (eqb p j && eqb q j) (s *ᶠ s *ᶠ a +ᶠ c *ᶠ c *ᶠ b +ᶠ two *ᶠ c *ᶠ s *ᶠ d)
    (cond (eqb p i && eqb q j) +0
    (cond (eqb p i) (rotated_first c s (x q i) (x q j))
    (cond (eqb q i) (rotated_first c s (x p i) (x p j))
    (cond (eqb p j) (rotated_second c s (x q i) (x q j))
    (cond (eqb q j) (rotated_second c s (x p i) (x p j))
    (x p q)))))))

-- The vectors afterwards: in every row, columns i and j are rotated.
unfoldable pub rotated_vector : (ℕ → ℕ → Float) → ℕ → ℕ → Float → Float → ℕ → ℕ → Float
unfolding add sub mul
rotated_vector z i j c s p q =
    cond (eqb q i) (rotated_first c s (z p i) (z p j)) (cond (eqb q j) (rotated_second c s (z p i) (z p j)) (z p q))

unfoldable pub rotated : ℕ → ℕ → ℕ → Rotating → Rotating
unfolding tangent cosine rotated_entry rotated_vector by_columns entry
rotated n i j m =
    let x = in_packed n m.matrix in
    let t = tangent (x i i) (x j j) (x i j) in
    let c = cosine t in
    let s = c *ᶠ t in
    record {
      matrix = packed n (rotated_entry x i j c s);
      vectors = square n (rotated_vector (in_square n m.vectors) i j c s);
      rotations = m.rotations + 1;
    }

-- ---- sweeps

-- "A pair is rotated when d·d > tol·a·b and d·d > tol"
unfoldable pub is_rotated : ℕ → Float → ℕ → ℕ → List Float → Bool
unfolding entry lt mul
is_rotated n tol i j matrix =
    let x = in_packed n matrix in
    let dd = x i j *ᶠ x i j in
    lt (tol *ᶠ x i i *ᶠ x j j) dd && lt tol dd

unfoldable pub pair_done : ℕ → Float → ℕ → ℕ → Rotating → Rotating
unfolding is_rotated rotated
pair_done n tol i j m =
    let m' = rotated n i j m in
    cond (is_rotated n tol i j m.matrix) m' m

-- the first k of the pairs (i, i + 1), (i, i + 2), ..
unfoldable pub row_done : ℕ → Float → ℕ → ℕ → Rotating → Rotating
unfolding pair_done
row_done n tol i zero m = m
row_done n tol i (suc k) m = pair_done n tol i (i + 1 + k) (row_done n tol i k m)

-- "Jacobi sweeps over i < j": the pairs of the first k rows
unfoldable pub rows_done : ℕ → Float → ℕ → Rotating → Rotating
unfolding row_done
rows_done n tol zero m = m
rows_done n tol (suc i) m = row_done n tol i (n - (i + 1)) (rows_done n tol i m)

abbrev pub sweep : ℕ → Float → Rotating → Rotating
sweep n tol m = rows_done n tol n m

pub record Swept : Type 0 where
  pub reached : Rotating
  pub succeeded : Bool

-- "It succeeds at the first sweep without a rotation, and fails if sweeps 1 up to the limit all rotate."
unfoldable pub sweeps : ℕ → Float → ℕ → Rotating → Swept
unfolding rows_done
sweeps n tol zero m = record { reached = m; succeeded = false }
sweeps n tol (suc left) m =
    let m' = sweep n tol m in
    let r = sweeps n tol left m' in
    cond (eqb m'.rotations m.rotations) (record { reached = m'; succeeded = true }) r

-- ---- what fits, and the complete outcome

-- with a run's parameters: "tol = eps_zero·eps_zero"
abbrev pub jacobi : SolverParam → ℕ → List Float → List Float → Swept
jacobi par n matrix vectors =
    sweeps n (par.eps_zero *ᶠ par.eps_zero) par.sweep_limit (record { matrix = matrix; vectors = vectors; rotations = 0 })

-- "Sweep limit: 1 to 64"
abbrev pub sweeps_fit : SolverParam → Bool
sweeps_fit par = leb 1 par.sweep_limit && leb par.sweep_limit most_sweeps

-- an order within the limit, its triangle and its square for the lengths of matrix and vectors
abbrev pub jacobi_fits : SolverParam → ℕ → ℕ → ℕ → Bool
jacobi_fits par n matrix vectors = leb n limit && eqb matrix (triangle n) && eqb vectors (n * n) && sweeps_fit par

abbrev pub swept_answer : Swept → Projection
swept_answer s = cond s.succeeded (Done s.reached.rotations) (Failed s.reached.rotations)

-- It answers by the rule where the sizes fit, and no where they don't; matrix and vectors hold what the rule says, place by place, or what they held before.
pub record JacobiOutcome (fits : Bool) (ruled : Swept) (matrix vectors : List Float) (answer : Option Projection) (matrix' vectors' : List Float) : Type 0 where
  pub answered : answer ≡ cond fits (Some (swept_answer ruled)) None
  pub matrix_left : matrix' ≡ cond fits ruled.reached.matrix matrix
  pub vectors_left : vectors' ≡ cond fits ruled.reached.vectors vectors
