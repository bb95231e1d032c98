-- The loop that rotates two columns of the vectors: before the first row, at a row, after the last.
use Prim.Native.Nat.{ℕ, ◌+◌, ◌*◌, ◌<◌, ◌≤◌}
use native.Mathlib.Omega.{arith}
use mathlib.Core.Path.{◌≡◌, refl, ◌∙◌, ap}
use mathlib.Core.Bool.{cond}
use mathlib.Core.List.{List}
use borrow.Author.Tests.{lt-ltb, le-ltb, eq-eqb, ne_eqb}
use lib.Dec.{ltb}
use lib.Ieee.{Float, nan}
use lib.ListN.{length, set, length-set}
use lib.Seq.{get_or-set_same, get_or-set_other}
use Rattle.rules.specs.Arithmetic.{at}
use Rattle.rules.specs.Jacobi.{square, in_square, rotated_first, rotated_second, rotated_vector}
use Rattle.rules.proofs.Columns.{by_less, by_same, square_self, square_same, square_is, square-at, square_inside, square_apart}
use Rattle.jacobi.specs.Sizes.{IsPair}
use Rattle.jacobi.specs.Loops.{two_rotated}

-- the first k rows are rotated
abbrev vectors_to : ℕ → ℕ → ℕ → ℕ → Float → Float → List Float → ℕ → ℕ → Float
vectors_to n k i j c s z r q = cond (ltb r k) (rotated_vector (in_square n z) i j c s r q) (in_square n z r q)

pub record VectorsTo (n k i j : ℕ) (c s : Float) (z z' : List Float) : Type 0 where
  pub is : z' ≡ square n (vectors_to n k i j c s z)
  pub same : length z' ≡ n * n
  pub within : k ≤ n

pub vectors_none : (n i j : ℕ) (c s : Float) (z : List Float) → length z ≡ n * n → VectorsTo n 0 i j c s z z
vectors_none n i j c s z stored =
    record {
      is = square_self n z stored ∙ square_same n (in_square n z) (vectors_to n 0 i j c s z) (λ r q hr hq. rw (le-ltb r 0 (omega arith)));
      same = stored;
      within = omega arith;
    }

-- the two entries of a row are inside
pub inside_i : {n k i j : ℕ} {c s : Float} {z z' : List Float} → VectorsTo n k i j c s z z' → IsPair n i j → k < n → i * n + k < length z'
inside_i {n} {k} {i} r pair h = omega (arith, r.same, square_inside n k i h (omega arith))

pub inside_j : {n k i j : ℕ} {c s : Float} {z z' : List Float} → VectorsTo n k i j c s z z' → IsPair n i j → k < n → j * n + k < length z'
inside_j {n} {k} {i} {j} r pair h = omega (arith, r.same, square_inside n k j h pair.inside)

module _ (n k i j : ℕ) (c s : Float) (z z' : List Float) (r : VectorsTo n k i j c s z z') (pair : IsPair n i j) (h : k < n) where
  old : (p q : ℕ) → p < n → q < n → k ≤ p → at z' (q * n + p) ≡ in_square n z p q
  old p q hp hq later =
      ap (λ (l : List Float). at l (q * n + p)) r.is ∙ square-at n (vectors_to n k i j c s z) p q hp hq ∙ rw (le-ltb p k later)

  first : Float
  first = rotated_first c s (at z' (i * n + k)) (at z' (j * n + k))

  second : Float
  second = rotated_second c s (at z' (i * n + k)) (at z' (j * n + k))

  once : List Float
  once = set z' (i * n + k) first

  twice : List Float
  twice = set once (j * n + k) second

  elsewhere : (p q : ℕ) → p < n → (p ≡ k → q ≡ i → ⊥) → (p ≡ k → q ≡ j → ⊥) → at twice (q * n + p) ≡ at z' (q * n + p)
  unfolding twice once
  elsewhere p q hp not_i not_j =
      get_or-set_other once (j * n + k) (q * n + p) second nan (λ e. let t = square_apart n p q k j hp h e in not_j t.0 t.1)
      ∙ get_or-set_other z' (i * n + k) (q * n + p) first nan (λ e. let t = square_apart n p q k i hp h e in not_i t.0 t.1)

  at_j : at twice (j * n + k) ≡ second
  unfolding twice once
  at_j = get_or-set_same once (j * n + k) second nan (omega (arith, length-set z' (i * n + k) first, r.same, square_inside n k j h pair.inside))

  at_i : at twice (i * n + k) ≡ first
  unfolding twice once
  at_i =
      get_or-set_other once (j * n + k) (i * n + k) second nan (λ e. let t = square_apart n k i k j h h e in omega (arith, t.1))
      ∙ get_or-set_same z' (i * n + k) first nan (omega (arith, r.same, square_inside n k i h (omega arith)))

  row_rotated : (q : ℕ) → q < n → at twice (q * n + k) ≡ rotated_vector (in_square n z) i j c s k q
  unfolding first second rotated_vector
  row_rotated q hq =
      by_same q i
      (λ e.
      rw (e, eq-eqb i i refl) (at_i ∙ rw (old k i h (omega arith) (omega arith), old k j h pair.inside (omega arith))))
      (λ ne.
      by_same q j
      (λ e.
      let apart : j ≡ i → ⊥ = λ u. omega arith in
      rw (e, ne_eqb j i apart, eq-eqb j j refl) (at_j ∙ rw (old k i h (omega arith) (omega arith), old k j h pair.inside (omega arith))))
      (λ ne'. rw (ne_eqb q i ne, ne_eqb q j ne') (elsewhere k q h (λ u v. ne v) (λ u v. ne' v) ∙ old k q h hq (omega arith))))

  done : (p q : ℕ) → p < n → q < n → at twice (q * n + p) ≡ vectors_to n (k + 1) i j c s z p q
  done p q hp hq =
      by_same p k (λ e. rw (e, lt-ltb k (k + 1) (omega arith)) (row_rotated q hq))
      (λ ne.
      elsewhere p q hp (λ u v. ne u) (λ u v. ne u)
      ∙ ap (λ (l : List Float). at l (q * n + p)) r.is
      ∙ square-at n (vectors_to n k i j c s z) p q hp hq
      ∙ by_less p k (λ l. rw (lt-ltb p k l, lt-ltb p (k + 1) (omega arith))) (λ l. rw (le-ltb p k l, le-ltb p (k + 1) (by_less k p (λ m. omega arith) (λ m. absurd (ne (omega arith)))))))

pub vectors_more : {n k i j : ℕ} {c s : Float} {z z' z'' : List Float} → VectorsTo n k i j c s z z' → IsPair n i j → k < n → z'' ≡ two_rotated (i * n + k) (j * n + k) c s z' → VectorsTo n (k + 1) i j c s z z''
unfolding first second once twice
vectors_more {n} {k} {i} {j} {c} {s} {z} {z'} r pair h is =
    let same : length (twice n k i j c s z z' r pair h) ≡ n * n = simp length-set r.same in
    rw is (record { is = square_is n (vectors_to n (k + 1) i j c s z) (twice n k i j c s z z' r pair h) same (done n k i j c s z z' r pair h); same = same; within = omega arith })

pub vectors_all : {n k i j : ℕ} {c s : Float} {z z' : List Float} → VectorsTo n k i j c s z z' → n ≤ k → z' ≡ square n (rotated_vector (in_square n z) i j c s)
vectors_all {n} {k} {i} {j} {c} {s} {z} {z'} r h =
    r.is ∙ square_same n (vectors_to n k i j c s z) (rotated_vector (in_square n z) i j c s) (λ p q hp hq. rw (lt-ltb p k (omega arith)))
