-- Loops along the diagonal: before the first place, at a place, after the last.
use Prim.Native.Nat.{ℕ, ◌+◌, ◌*◌, ◌<◌, ◌≤◌}
use native.Mathlib.Omega.{arith}
use mathlib.Core.Path.{◌≡◌, refl, sym, ◌∙◌, ap}
use mathlib.Core.Bool.{cond}
use mathlib.Core.List.{List, [], ◌∷◌}
use borrow.Author.Tests.{lt-ltb, le-ltb, eq-eqb, ne_eqb}
use lib.Dec.{ltb, eqb}
use lib.Ieee.{Float}
use lib.ListN.{length, set, replicate, length-set}
use Rattle.rules.specs.Limits.{limit}
use Rattle.rules.specs.Helpers.{one}
use Rattle.rules.specs.Arithmetic.{◌*ᶠ◌, +0, at, each}
use Rattle.rules.specs.Matrices.{triangle}
use Rattle.rules.specs.Jacobi.{packed, square, in_packed}
use Rattle.rules.specs.Projections.{diagonal_times, unit}
use Rattle.rules.proofs.Arithmetic.{each-length, each_at}
use Rattle.rules.proofs.Columns.{by_less, by_same, packed_self, packed_same, packed-at, packed-set, square_is, square_same, square-set, square_inside}
use Rattle.rules.proofs.Matrices.{square_small}
use Rattle.rules.proofs.Triangle.{triangle_inside}
use Rattle.jacobi.specs.Sizes.{IsPacked}

-- The first k entries of the diagonal hold what f says, and the other entries what they held.
abbrev diagonal_to : (ℕ → ℕ → Float) → (ℕ → ℕ → Float) → ℕ → ℕ → ℕ → Float
diagonal_to new old k r c = cond (eqb r c) (cond (ltb c k) (new r c) (old r c)) (old r c)

diagonal_here : (new old : ℕ → ℕ → Float) (k : ℕ) → diagonal_to new old (k + 1) k k ≡ new k k
diagonal_here new old k = rw (eq-eqb k k refl, lt-ltb k (k + 1) (omega arith))

diagonal_yet : (new old : ℕ → ℕ → Float) (k : ℕ) → diagonal_to new old k k k ≡ old k k
diagonal_yet new old k = rw (eq-eqb k k refl, le-ltb k k (omega arith))

diagonal_elsewhere : (new old : ℕ → ℕ → Float) (k p q : ℕ) → (p ≡ k → q ≡ k → ⊥) → diagonal_to new old (k + 1) p q ≡ diagonal_to new old k p q
diagonal_elsewhere new old k p q apart =
    by_same p q
    (λ e.
    let ne : q ≡ k → ⊥ = λ u. apart (e ∙ u) u in
    by_less q k (λ l. rw (lt-ltb q k l, lt-ltb q (k + 1) (omega arith))) (λ l. rw (le-ltb q k l, le-ltb q (k + 1) (omega (arith, far q k l ne)))))
    (λ n. rw (ne_eqb p q n))
  where
    far : (q k : ℕ) → k ≤ q → (q ≡ k → ⊥) → k < q
    far q k l ne = by_less k q (λ m. m) (λ m. absurd (ne (omega arith)))

diagonal_first : (new old : ℕ → ℕ → Float) (r c : ℕ) → diagonal_to new old 0 r c ≡ old r c
diagonal_first new old r c =
    by_same r c (λ e. rw (eq-eqb r c e, le-ltb c 0 (omega arith))) (λ n. rw (ne_eqb r c n))

diagonal_last : (new old : ℕ → ℕ → Float) (n r c : ℕ) → c < n → diagonal_to new old n r c ≡ cond (eqb r c) (new r c) (old r c)
diagonal_last new old n r c h = rw (lt-ltb c n h)

-- ---- the diagonal of a packed triangle, times a number

abbrev times : Float → ℕ → List Float → ℕ → ℕ → Float
times by n x r c = in_packed n x r c *ᶠ by

pub record ScaledTo (by : Float) (n k : ℕ) (x x' : List Float) : Type 0 where
  pub is : x' ≡ packed n (diagonal_to (times by n x) (in_packed n x) k)
  pub same : length x' ≡ length x
  pub within : k ≤ n

pub scaled_none : (by : Float) (n : ℕ) (x : List Float) → length x ≡ triangle n → ScaledTo by n 0 x x
scaled_none by n x stored =
    record {
      is = packed_self n x stored ∙ packed_same n (in_packed n x) (diagonal_to (times by n x) (in_packed n x) 0) (λ r c hr hc. sym (diagonal_first (times by n x) (in_packed n x) r c));
      same = refl;
      within = omega arith;
    }

pub scaled_more : {by : Float} {n k p : ℕ} {x x' : List Float} → ScaledTo by n k x x' → k < n → p ≡ triangle k + k → ScaledTo by n (k + 1) x (set x' p (at x' p *ᶠ by))
scaled_more {by} {n} {k} {p} {x} {x'} r h e =
    let held : at x' (triangle k + k) ≡ in_packed n x k k = ap (λ (l : List Float). at l (triangle k + k)) r.is ∙ packed-at n (diagonal_to (times by n x) (in_packed n x) k) k k (omega arith) h ∙ diagonal_yet (times by n x) (in_packed n x) k in
    let stored : set x' (triangle k + k) (at x' (triangle k + k) *ᶠ by) ≡ packed n (diagonal_to (times by n x) (in_packed n x) (k + 1)) =
    packed-set (diagonal_to (times by n x) (in_packed n x) (k + 1)) k k (at x' (triangle k + k) *ᶠ by) r.is (omega arith) h
    (rw held (diagonal_here (times by n x) (in_packed n x) k))
    (λ p q hp hq apart. diagonal_elsewhere (times by n x) (in_packed n x) k p q apart) in
    record { is = rw e stored; same = length-set x' p (at x' p *ᶠ by) ∙ r.same; within = omega arith }

pub scaled_all : {by : Float} {n k : ℕ} {x x' : List Float} → ScaledTo by n k x x' → n ≤ k → x' ≡ diagonal_times by n x
unfolding diagonal_times
scaled_all {by} {n} {k} {x} {x'} r h =
    r.is ∙ packed_same n _ _ (λ p q hp hq. diagonal_last (times by n x) (in_packed n x) k p q (omega arith))

-- ---- the unit vectors

pub record UnitTo (n k : ℕ) (z : List Float) : Type 0 where
  pub is : z ≡ square n (diagonal_to (λ r c. one) (λ r c. +0) k)
  pub same : length z ≡ n * n
  pub within : k ≤ n

pub unit_none : (n : ℕ) (old z : List Float) → length old ≡ n * n → z ≡ each (λ k v. +0) old → UnitTo n 0 z
unit_none n old z stored e =
    let same : length z ≡ n * n = ap length e ∙ each-length (λ k v. +0) old ∙ stored in
    record {
      is =
          square_is n (diagonal_to (λ r c. one) (λ r c. +0) 0) z same
          (λ r c hr hc.
          ap (λ (l : List Float). at l (c * n + r)) e ∙ each_at (λ k v. +0) old (c * n + r) (omega (arith, square_inside n r c hr hc)) ∙ sym (diagonal_first (λ r c. one) (λ r c. +0) r c));
      same = same;
      within = omega arith;
    }

pub unit_inside : {n k : ℕ} {z : List Float} → UnitTo n k z → k < n → n ≤ limit → (k * n + k < length z) × (length z ≤ limit * limit)
unit_inside {n} {k} {z} r h small = omega (arith, square_inside n k k h h, square_small n small)

pub unit_more : {n k : ℕ} {z : List Float} → UnitTo n k z → k < n → UnitTo n (k + 1) (set z (k * n + k) one)
unit_more {n} {k} {z} r h =
    record {
      is =
          square-set (diagonal_to (λ r c. one) (λ r c. +0) (k + 1)) k k one r.is h h (diagonal_here (λ r c. one) (λ r c. +0) k)
          (λ p q hp hq apart. diagonal_elsewhere (λ r c. one) (λ r c. +0) k p q apart);
      same = length-set z (k * n + k) one ∙ r.same;
      within = omega arith;
    }

pub unit_all : {n k : ℕ} {z : List Float} → UnitTo n k z → n ≤ k → z ≡ unit n
unfolding unit
unit_all {n} {k} {z} r h =
    r.is ∙ square_same n _ _ (λ p q hp hq. diagonal_last (λ r c. one) (λ r c. +0) k p q (omega arith))

-- ---- places

pub diagonal_inside : {n : ℕ} {x : List Float} → IsPacked n x → (k : ℕ) → k < n → triangle k + k < length x
diagonal_inside {n} f k h = omega (arith, triangle_inside k n h, f.stored)

-- every place +0
filled : (x : List Float) → replicate (length x) +0 ≡ each (λ k v. +0) x
unfolding each
filled [] = refl
filled (v ∷ x) = ap (λ (l : List Float). +0 ∷ l) (filled x)

pub cleared : {x' : List Float} (x : List Float) → x' ≡ replicate (length x) +0 → x' ≡ each (λ k v. +0) x
cleared x e = e ∙ filled x
