-- Laws of Jacobi's method: the passes of its loops, how many rotations there can be, and that its outcome is one.
use Prim.Native.Nat.{ℕ, zero, suc, ◌+◌, ◌-◌, ◌*◌, ◌/◌, ◌≤◌}
use native.Mathlib.Numerals.{add-one}
use native.Mathlib.Nat.{mul-add, add-mul, suc-mul, zero-mul}
use native.Mathlib.Omega.{arith}
use mathlib.Core.Path.{◌≡◌, refl, sym, ◌∙◌, ap}
use mathlib.Core.Bool.{Bool, true, false, cond}
use Rattle.std.specs.Prelude.{Option}
use mathlib.Core.List.{List}
use lib.Dec.{eqb}
use lib.Ieee.{Float}
use Rattle.rules.specs.declared.Projection.{Projection}
use Rattle.rules.specs.Jacobi.{Rotating, Swept, is_rotated, rotated, pair_done, row_done, rows_done, sweep, sweeps, JacobiOutcome}

-- ---- passes

pub row_none : (n : ℕ) (tol : Float) (i : ℕ) (m : Rotating) → row_done n tol i 0 m ≡ m
unfolding row_done
row_none n tol i m = refl

pub row_more : (n : ℕ) (tol : Float) (i k : ℕ) (m : Rotating) → row_done n tol i (k + 1) m ≡ pair_done n tol i (i + 1 + k) (row_done n tol i k m)
unfolding row_done
row_more n tol i k m = rw (add-one k)

pub rows_none : (n : ℕ) (tol : Float) (m : Rotating) → rows_done n tol 0 m ≡ m
unfolding rows_done
rows_none n tol m = refl

pub rows_more : (n : ℕ) (tol : Float) (i : ℕ) (m : Rotating) → rows_done n tol (i + 1) m ≡ row_done n tol i (n - (i + 1)) (rows_done n tol i m)
unfolding rows_done
rows_more n tol i m = go (i + 1) (add-one i)
  where
    go : (k : ℕ) → k ≡ suc i → rows_done n tol k m ≡ row_done n tol i (n - (i + 1)) (rows_done n tol i m)
    go k e = rw e

-- ---- how many rotations

pair_bounded : (n : ℕ) (tol : Float) (i j : ℕ) (m : Rotating) → (pair_done n tol i j m).rotations ≤ m.rotations + 1
unfolding pair_done rotated
pair_bounded n tol i j m = go (is_rotated n tol i j m.matrix)
  where
    go : (b : Bool) → (cond b (rotated n i j m) m).rotations ≤ m.rotations + 1
    go true = omega arith
    go false = omega arith

pub row_bounded : (n : ℕ) (tol : Float) (i k : ℕ) (m : Rotating) → (row_done n tol i k m).rotations ≤ m.rotations + k
unfolding row_done
row_bounded n tol i zero m = omega arith
row_bounded n tol i (suc k) m = omega (arith, row_bounded n tol i k m, pair_bounded n tol i (i + 1 + k) (row_done n tol i k m))

-- how many pairs i < j there are
abbrev pub pairs : ℕ → ℕ
pairs n = n * (n - 1) / 2

pub pairs_more : (k : ℕ) → pairs (suc k) ≡ pairs k + k
pairs_more zero = refl
pairs_more (suc k) =
    let e : suc (suc k) * (suc (suc k) - 1) ≡ suc k * (suc k - 1) + 2 * suc k = rw (add-two k, add_one' k) (omega (arith, mul-add (k + 1) k 1, mul-add (k + 1) k 2, add-mul 1 (k + 1) (k + 1), add-mul k 2 (k + 1), add-mul k 1 k, add-mul k 1 (k + 1), mul-add k k 1)) in
    omega (arith, e)
  where
    add-two : (k : ℕ) → suc (suc k) - 1 ≡ k + 1
    add-two k = omega arith

    add_one' : (k : ℕ) → suc k - 1 ≡ k
    add_one' k = omega arith

-- the rows from the kth on have pairs (n - k)
rows_bounded : (n : ℕ) (tol : Float) (k : ℕ) (m : Rotating) → k ≤ n → (rows_done n tol k m).rotations + pairs (n - k) ≤ m.rotations + pairs n
unfolding rows_done
rows_bounded n tol zero m h =
    let all : n - 0 ≡ n = omega arith in
    omega (arith, ap (λ (a : ℕ). pairs a) all)
rows_bounded n tol (suc k) m h =
    let left : n - k ≡ suc (n - suc k) = omega arith in
    let row : n - (k + 1) ≡ n - suc k = omega arith in
    omega (arith, rows_bounded n tol k m (omega arith), ap (λ (a : ℕ). pairs a) left, pairs_more (n - suc k), row, row_bounded n tol k (n - (k + 1)) (rows_done n tol k m))

pub sweep_bounded : (n : ℕ) (tol : Float) (m : Rotating) → (sweep n tol m).rotations ≤ m.rotations + pairs n
sweep_bounded n tol m = omega (arith, rows_bounded n tol n m (omega arith))

either : (b : Bool) (p q : Swept) (most : ℕ) → p.reached.rotations ≤ most → q.reached.rotations ≤ most → (cond b p q).reached.rotations ≤ most
either true p q most hp hq = hp
either false p q most hp hq = hq

-- "at most sweeps × d(d−1)/2"
pub rotations_bounded : (n : ℕ) (tol : Float) (most : ℕ) (m : Rotating) → (sweeps n tol most m).reached.rotations ≤ m.rotations + most * (n * (n - 1) / 2)
unfolding sweeps
rotations_bounded n tol zero m = omega (arith, zero-mul (pairs n))
rotations_bounded n tol (suc left) m =
    either (eqb (sweep n tol m).rotations m.rotations) (record { reached = sweep n tol m; succeeded = true }) (sweeps n tol left (sweep n tol m)) (m.rotations + suc left * pairs n)
    (omega (arith, sweep_bounded n tol m, suc-mul left (pairs n)))
    (omega (arith, rotations_bounded n tol left (sweep n tol m), sweep_bounded n tol m, suc-mul left (pairs n)))

-- Any two outcomes that the contract of Jacobi's method allows coincide: the answer, and each place of matrix and vectors.
pub jacobi_outcomes_coincide : {fits : Bool} {ruled : Swept} {matrix vectors : List Float} {a b : Option Projection} {x y v w : List Float}
    → JacobiOutcome fits ruled matrix vectors a x v → JacobiOutcome fits ruled matrix vectors b y w → (a ≡ b) × (x ≡ y) × (v ≡ w)
jacobi_outcomes_coincide p q = (p.answered ∙ sym q.answered, p.matrix_left ∙ sym q.matrix_left, p.vectors_left ∙ sym q.vectors_left)
