-- One rotation, and the loops over pairs, rows and sweeps: before the first pass, at a pass, after the last.
use Prim.Native.Nat.{ℕ, suc, ◌+◌, ◌-◌, ◌*◌, ◌<◌, ◌≤◌}
use native.Mathlib.Omega.{arith}
use native.Mathlib.Nat.{mul-le-mul, mul-le-mul_left, add-mul}
use mathlib.Core.Path.{◌≡◌, sym, ◌∙◌, ap}
use mathlib.Core.Bool.{Bool, true, false, cond}
use mathlib.Core.List.{List}
use borrow.Author.Tests.{eq-eqb, ne_eqb}
use lib.Dec.{eqb}
use lib.Ieee.{Float}
use Rattle.rules.specs.Arithmetic.{◌*ᶠ◌}
use Rattle.rules.specs.Limits.{limit, most_sweeps}
use Rattle.rules.specs.Jacobi.{Rotating, packed, square, in_packed, in_square, tangent, cosine, rotated_entry, rotated_vector, rotated, is_rotated, pair_done, row_done, rows_done, sweep, sweeps}
use Rattle.rules.proofs.Jacobi.{row_none, row_more, row_bounded, rows_none, rows_more, sweep_bounded, pairs}
use Rattle.jacobi.specs.Sizes.{IsPacked, IsSquare, most_rotations}
use Rattle.jacobi.specs.Loops.{state, swept}
use Rattle.rules.proofs.Matrices.{square_small}

-- ---- a pair

pub rotated_by : (n i j : ℕ) (x z x' z' : List Float) (t co : Float) → t ≡ tangent (in_packed n x i i) (in_packed n x j j) (in_packed n x i j) → co ≡ cosine t → x' ≡ packed n (rotated_entry (in_packed n x) i j co (co *ᶠ t)) → z' ≡ square n (rotated_vector (in_square n z) i j co (co *ᶠ t)) → state x' z' 1 ≡ rotated n i j (state x z 0)
unfolding rotated
rotated_by n i j x z x' z' t co is_t is_co is_x is_z = rw (is_x, is_z, is_co, is_t)

pub pair_on : (n : ℕ) (tol : Float) (i j : ℕ) (x z x' z' : List Float) (k : ℕ) → is_rotated n tol i j x ≡ true → state x' z' 1 ≡ rotated n i j (state x z 0) → state x' z' (k + 1) ≡ pair_done n tol i j (state x z k)
unfolding pair_done rotated
pair_on n tol i j x z x' z' k on e =
    ap (λ (m : Rotating). state m.matrix m.vectors (k + 1)) e ∙ sym (ap (λ (b : Bool). cond b (rotated n i j (state x z k)) (state x z k)) on)

pub pair_off : (n : ℕ) (tol : Float) (i j : ℕ) (x z : List Float) (k : ℕ) → is_rotated n tol i j x ≡ false → state x z k ≡ pair_done n tol i j (state x z k)
unfolding pair_done
pair_off n tol i j x z k off = sym (ap (λ (b : Bool). cond b (rotated n i j (state x z k)) (state x z k)) off)

-- ---- a row

pub record RowTo (n : ℕ) (tol : Float) (i j : ℕ) (m : Rotating) (x z : List Float) (made : ℕ) : Type 0 where
  pub is : state x z made ≡ row_done n tol i (j - (i + 1)) m
  pub packed : IsPacked n x
  pub square : IsSquare n z
  pub from : i < j
  pub to : j ≤ n

pub row_first : (n : ℕ) (tol : Float) (i : ℕ) (x z : List Float) (made : ℕ) → IsPacked n x → IsSquare n z → i < n → RowTo n tol i (i + 1) (state x z made) x z made
row_first n tol i x z made packed square h =
    let none : i + 1 - (i + 1) ≡ 0 = omega arith in
    record {
      is = sym (ap (λ (k : ℕ). row_done n tol i k (state x z made)) none ∙ row_none n tol i (state x z made));
      packed = packed;
      square = square;
      from = omega arith;
      to = omega arith;
    }

pub row_made : {n : ℕ} {tol : Float} {i j : ℕ} {m : Rotating} {x z : List Float} {made : ℕ} → RowTo n tol i j m x z made → made ≤ m.rotations + (j - (i + 1))
row_made {n} {tol} {i} {j} {m} r = omega (arith, ap (λ (t : Rotating). t.rotations) r.is, row_bounded n tol i (j - (i + 1)) m)

pub row_next : {n : ℕ} {tol : Float} {i j : ℕ} {m : Rotating} {x z : List Float} {made : ℕ} → RowTo n tol i j m x z made → (x' z' : List Float) (made' : ℕ) → state x' z' made' ≡ pair_done n tol i j (state x z made) → IsPacked n x' → IsSquare n z' → j < n → RowTo n tol i (j + 1) m x' z' made'
row_next {n} {tol} {i} {j} {m} {x} {z} {made} r x' z' made' e packed square h =
    let more : j + 1 - (i + 1) ≡ j - (i + 1) + 1 = omega (arith, r.from) in
    let here : i + 1 + (j - (i + 1)) ≡ j = omega (arith, r.from) in
    record {
      is =
          e
          ∙ ap (λ (t : Rotating). pair_done n tol i j t) r.is
          ∙ sym (ap (λ (k : ℕ). row_done n tol i k m) more ∙ row_more n tol i (j - (i + 1)) m ∙ ap (λ (k : ℕ). pair_done n tol i k (row_done n tol i (j - (i + 1)) m)) here);
      packed = packed;
      square = square;
      from = omega (arith, r.from);
      to = omega arith;
    }

pub row_last : {n : ℕ} {tol : Float} {i j : ℕ} {m : Rotating} {x z : List Float} {made : ℕ} → RowTo n tol i j m x z made → n ≤ j → state x z made ≡ row_done n tol i (n - (i + 1)) m
row_last {n} {tol} {i} {j} {m} r h =
    let all : j - (i + 1) ≡ n - (i + 1) = omega (arith, r.to) in
    r.is ∙ ap (λ (k : ℕ). row_done n tol i k m) all

-- ---- a sweep

pub record SweepTo (n : ℕ) (tol : Float) (i : ℕ) (m : Rotating) (x z : List Float) (made : ℕ) : Type 0 where
  pub is : state x z made ≡ rows_done n tol i m
  pub packed : IsPacked n x
  pub square : IsSquare n z
  pub to : i ≤ n
  pub made_most : made ≤ m.rotations + i * n

pub sweep_first : (n : ℕ) (tol : Float) (x z : List Float) (made : ℕ) → IsPacked n x → IsSquare n z → SweepTo n tol 0 (state x z made) x z made
sweep_first n tol x z made packed square =
    record { is = sym (rows_none n tol (state x z made)); packed = packed; square = square; to = omega arith; made_most = omega arith }

-- room for the row's rotations
pub sweep_room : {n : ℕ} {tol : Float} {i : ℕ} {m : Rotating} {x z : List Float} {made : ℕ} → SweepTo n tol i m x z made → i < n → m.rotations + n * n ≤ most_rotations → made + n ≤ most_rotations
sweep_room {n} {tol} {i} {m} r h room =
    let l : (i + 1) * n ≤ n * n = mul-le-mul (omega arith) (omega arith) in
    omega (arith, r.made_most, l, add-mul i 1 n)

pub sweep_next : {n : ℕ} {tol : Float} {i : ℕ} {m : Rotating} {x z : List Float} {made : ℕ} → SweepTo n tol i m x z made → (x' z' : List Float) (made' : ℕ) → state x' z' made' ≡ row_done n tol i (n - (i + 1)) (state x z made) → IsPacked n x' → IsSquare n z' → i < n → SweepTo n tol (i + 1) m x' z' made'
sweep_next {n} {tol} {i} {m} {x} {z} {made} r x' z' made' e packed square h =
    record {
      is = e ∙ ap (λ (t : Rotating). row_done n tol i (n - (i + 1)) t) r.is ∙ sym (rows_more n tol i m);
      packed = packed;
      square = square;
      to = omega arith;
      made_most = omega (arith, r.made_most, ap (λ (t : Rotating). t.rotations) e, row_bounded n tol i (n - (i + 1)) (state x z made), add-mul i 1 n);
    }

pub sweep_last : {n : ℕ} {tol : Float} {i : ℕ} {m : Rotating} {x z : List Float} {made : ℕ} → SweepTo n tol i m x z made → n ≤ i → state x z made ≡ sweep n tol m
sweep_last {n} {tol} {i} {m} r h =
    let all : i ≡ n = omega (arith, r.to) in
    r.is ∙ ap (λ (k : ℕ). rows_done n tol k m) all

-- ---- sweeps until one makes no rotation: what is left to do equals the whole

pub record SweepsTo (n : ℕ) (tol : Float) (most k : ℕ) (m : Rotating) (x z : List Float) (made : ℕ) : Type 0 where
  pub left : sweeps n tol (most - k) (state x z made) ≡ sweeps n tol most m
  pub packed : IsPacked n x
  pub square : IsSquare n z
  pub to : k ≤ most
  pub made_most : made ≤ k * (n * n)

pub sweeps_first : (n : ℕ) (tol : Float) (most : ℕ) (x z : List Float) → IsPacked n x → IsSquare n z → SweepsTo n tol most 0 (state x z 0) x z 0
sweeps_first n tol most x z packed square =
    let all : most - 0 ≡ most = omega arith in
    record {
      left = ap (λ (k : ℕ). sweeps n tol k (state x z 0)) all;
      packed = packed;
      square = square;
      to = omega arith;
      made_most = omega arith;
    }

-- room for a sweep's rotations
pub sweeps_room : {n : ℕ} {tol : Float} {most k : ℕ} {m : Rotating} {x z : List Float} {made : ℕ} → SweepsTo n tol most k m x z made → k < most → most ≤ most_sweeps → made + n * n ≤ most_rotations
sweeps_room {n} {tol} {most} {k} r h few =
    let passes : k + 1 ≤ most_sweeps = omega arith in
    let l : (k + 1) * (n * n) ≤ most_sweeps * (limit * limit) = mul-le-mul {n₂ = most_sweeps} {m₂ = limit * limit} passes (square_small n r.packed.order) in
    omega (arith, r.made_most, l, add-mul k 1 (n * n))

-- fewer pairs than entries
pairs_few : (n : ℕ) → pairs n ≤ n * n
pairs_few n =
    let less : n - 1 ≤ n = omega arith in
    omega (arith, mul-le-mul_left n less)

sweeps_by : (n : ℕ) (tol : Float) (most k : ℕ) (m : Rotating) (b : Bool) → k < most → eqb (sweep n tol m).rotations m.rotations ≡ b → sweeps n tol (most - k) m ≡ cond b (swept (sweep n tol m) true) (sweeps n tol (most - (k + 1)) (sweep n tol m))
unfolding sweeps
sweeps_by n tol most k m b h e =
    let more : most - k ≡ suc (most - (k + 1)) = omega arith in
    ap (λ (l : ℕ). sweeps n tol l m) more ∙ ap (λ (t : Bool). cond t (swept (sweep n tol m) true) (sweeps n tol (most - (k + 1)) (sweep n tol m))) e

module _ {n : ℕ} {tol : Float} {most k : ℕ} {m : Rotating} {x z : List Float} {made : ℕ} (r : SweepsTo n tol most k m x z made) (h : k < most) (x' z' : List Float) (made' : ℕ) (e : state x' z' made' ≡ sweep n tol (state x z made)) where
  count : made' ≡ (sweep n tol (state x z made)).rotations
  count = ap (λ (t : Rotating). t.rotations) e

  pub sweeps_stop : made' ≡ made → swept (state x' z' made') true ≡ sweeps n tol most m
  sweeps_stop same =
      ap (λ (t : Rotating). swept t true) e
      ∙ sym (sweeps_by n tol most k (state x z made) true h (eq-eqb (sweep n tol (state x z made)).rotations made (sym count ∙ same)))
      ∙ r.left

  pub sweeps_next : (made' ≡ made → ⊥) → IsPacked n x' → IsSquare n z' → SweepsTo n tol most (k + 1) m x' z' made'
  sweeps_next differ packed square =
      record {
        left =
            ap (λ (t : Rotating). sweeps n tol (most - (k + 1)) t) e
            ∙ sym (sweeps_by n tol most k (state x z made) false h (ne_eqb (sweep n tol (state x z made)).rotations made (λ u. differ (count ∙ u))))
            ∙ r.left;
        packed = packed;
        square = square;
        to = omega arith;
        made_most = omega (arith, r.made_most, count, sweep_bounded n tol (state x z made), add-mul k 1 (n * n), pairs_few n);
      }

pub sweeps_out : {n : ℕ} {tol : Float} {most k : ℕ} {m : Rotating} {x z : List Float} {made : ℕ} → SweepsTo n tol most k m x z made → most ≤ k → swept (state x z made) false ≡ sweeps n tol most m
unfolding sweeps
sweeps_out {n} {tol} {most} {k} {m} {x} {z} {made} r h =
    let none : most - k ≡ 0 = omega arith in
    sym (ap (λ (l : ℕ). sweeps n tol l (state x z made)) none) ∙ r.left
