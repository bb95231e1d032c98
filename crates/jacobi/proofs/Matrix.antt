-- The loops that rotate two rows and columns of the matrix, and the three stores after them.
use Prim.Native.Nat.{ℕ, ◌+◌, ◌<◌, ◌≤◌}
use native.Mathlib.Omega.{arith}
use mathlib.Core.Path.{◌≡◌, refl, sym, ◌∙◌, ap}
use mathlib.Core.List.{List}
use borrow.Author.Tests.{eq-eqb, ne_eqb}
use lib.Ieee.{Float, nan}
use lib.ListN.{length, set, length-set}
use lib.Seq.{get_or-set_same, get_or-set_other}
use Rattle.rules.specs.Arithmetic.{◌+ᶠ◌, ◌-ᶠ◌, ◌*ᶠ◌, +0, at}
use Rattle.rules.specs.Matrices.{triangle, place, entry, packed_place}
use Rattle.rules.specs.Jacobi.{two, packed, in_packed, rotated_first, rotated_second, rotated_entry}
use Rattle.rules.proofs.Columns.{by_same, in_packed-place, packed_is, packed_place-le, packed_place_mirrored, packed_place_inside, packed_place_apart}
use Rattle.jacobi.specs.Sizes.{IsPacked, IsPair}
use Rattle.jacobi.specs.Loops.{cell, two_rotated, RowsRotated, CornersOf}

-- ---- the rows, one after another

rotated_none : (i j : ℕ) (c s : Float) (x : List Float) → RowsRotated 0 i j c s x x
rotated_none i j c s x =
    record {
      same = refl;
      first = λ m l. absurd (omega arith);
      second = λ m l. absurd (omega arith);
      first_later = λ m l u v. refl;
      second_later = λ m l u v. refl;
      others = λ p q t u v w. refl;
    }

-- an entry of neither row i nor column i is none that has an i
without : (p q k i : ℕ) → (p ≡ i → ⊥) → (q ≡ i → ⊥) → packed_place p q ≡ packed_place k i → ⊥
without p q k i u v e = omega (arith, packed_place_apart p q k i e)

cells_inside : (n r c : ℕ) (x : List Float) → IsPacked n x → r < n → c < n → packed_place r c < length x
cells_inside n r c x sized hr hc = omega (arith, packed_place_inside n r c hr hc, sized.stored)

module _ (n k i j : ℕ) (c s : Float) (x x' : List Float) (r : RowsRotated k i j c s x x') (sized : IsPacked n x) (pair : IsPair n i j) (h : k < n) where
  first : Float
  first = rotated_first c s (cell x' k i) (cell x' k j)

  second : Float
  second = rotated_second c s (cell x' k i) (cell x' k j)

  once : List Float
  once = set x' (packed_place k i) first

  twice : List Float
  twice = set once (packed_place k j) second

  kept : (p q : ℕ) → (packed_place p q ≡ packed_place k i → ⊥) → (packed_place p q ≡ packed_place k j → ⊥) → cell twice p q ≡ cell x' p q
  unfolding twice once
  kept p q not_i not_j =
      get_or-set_other once (packed_place k j) (packed_place p q) second nan not_j
      ∙ get_or-set_other x' (packed_place k i) (packed_place p q) first nan not_i

  at_j : cell twice k j ≡ second
  unfolding twice once
  at_j = get_or-set_same once (packed_place k j) second nan (omega (arith, length-set x' (packed_place k i) first, r.same, cells_inside n k j x sized h pair.inside))

  at_i : cell twice k i ≡ first
  unfolding twice once
  at_i =
      get_or-set_other once (packed_place k j) (packed_place k i) second nan (λ e. omega (arith, packed_place_apart k i k j e))
      ∙ get_or-set_same x' (packed_place k i) first nan (omega (arith, r.same, cells_inside n k i x sized h (omega arith)))

  first_kept : (m : ℕ) → (m ≡ k → ⊥) → (m ≡ j → ⊥) → cell twice m i ≡ cell x' m i
  first_kept m ne not_j = kept m i (λ e. ne (omega (arith, packed_place_apart m i k i e))) (λ e. omega (arith, packed_place_apart m i k j e))

  second_kept : (m : ℕ) → (m ≡ k → ⊥) → (m ≡ i → ⊥) → cell twice m j ≡ cell x' m j
  second_kept m ne not_i = kept m j (λ e. omega (arith, packed_place_apart m j k i e)) (λ e. ne (omega (arith, packed_place_apart m j k j e)))

  done : RowsRotated (k + 1) i j c s x twice
  unfolding twice once first second
  done =
      record {
        same = simp length-set r.same;
        first =
            λ m l u v.
            by_same m k (λ e. rw e (at_i ∙ rw (r.first_later k (omega arith) (rw e at u) (rw e at v), r.second_later k (omega arith) (rw e at u) (rw e at v))))
            (λ ne. first_kept m ne v ∙ r.first m (omega arith) u v);
        second =
            λ m l u v.
            by_same m k (λ e. rw e (at_j ∙ rw (r.first_later k (omega arith) (rw e at u) (rw e at v), r.second_later k (omega arith) (rw e at u) (rw e at v))))
            (λ ne. second_kept m ne u ∙ r.second m (omega arith) u v);
        first_later = λ m l u v. first_kept m (λ e. omega arith) v ∙ r.first_later m (omega arith) u v;
        second_later = λ m l u v. second_kept m (λ e. omega arith) u ∙ r.second_later m (omega arith) u v;
        others =
            λ p q t u v w.
            kept p q (without p q k i t v) (without p q k j u w)
            ∙ r.others p q t u v w;
      }

rotated_more : {n k i j : ℕ} {c s : Float} {x x' x'' : List Float} {p q : ℕ} → RowsRotated k i j c s x x' → IsPacked n x → IsPair n i j → k < n → p ≡ packed_place k i → q ≡ packed_place k j → x'' ≡ two_rotated p q c s x' → RowsRotated (k + 1) i j c s x x''
unfolding first second once twice
rotated_more {n} {k} {i} {j} {c} {s} {x} {x'} r sized pair h e e' is = rw (is, e, e') (done n k i j c s x x' r sized pair h)

-- Rows i and j have nothing to rotate: their entries of columns i and j are the three common ones.
rotated_past : {k i j : ℕ} {c s : Float} {x x' : List Float} → RowsRotated k i j c s x x' → ((k ≡ i → ⊥) → (k ≡ j → ⊥) → ⊥) → RowsRotated (k + 1) i j c s x x'
rotated_past {k} r common =
    record {
      same = r.same;
      first = λ m l u v. by_same m k (λ e. absurd (common (rw e at u) (rw e at v))) (λ ne. r.first m (omega arith) u v);
      second = λ m l u v. by_same m k (λ e. absurd (common (rw e at u) (rw e at v))) (λ ne. r.second m (omega arith) u v);
      first_later = λ m l u v. r.first_later m (omega arith) u v;
      second_later = λ m l u v. r.second_later m (omega arith) u v;
      others = r.others;
    }

-- ---- a loop over a span of rows

-- A loop that began at row k₀ with x₀ and is at row k with x': what had its first k₀ rows done at x₀ has its first k rows done at x'.
pub record SpanTo (n k₀ k i j : ℕ) (c s : Float) (x₀ x' : List Float) : Type 0 where
  pub packed : IsPacked n x'
  pub rows : (x : List Float) → RowsRotated k₀ i j c s x x₀ → RowsRotated k i j c s x x'

pub span_none : {n k i j : ℕ} {c s : Float} {x : List Float} → IsPacked n x → SpanTo n k k i j c s x x
span_none sized = record { packed = sized; rows = λ x r. r }

-- the places of a row's two entries are inside
pub span_inside : {n k₀ k i j : ℕ} {c s : Float} {x₀ x' : List Float} {p q : ℕ} → SpanTo n k₀ k i j c s x₀ x' → IsPair n i j → k < n → p ≡ packed_place k i → q ≡ packed_place k j → record { p_in_bounds : p < length x'; q_in_bounds : q < length x' }
span_inside {n} {k = k} {i} {j} {x' = x'} g pair h e e' =
    record { p_in_bounds = rw e (cells_inside n k i x' g.packed h (omega arith)); q_in_bounds = rw e' (cells_inside n k j x' g.packed h pair.inside) }

pub span_more : {n k₀ k i j : ℕ} {c s : Float} {x₀ x' x'' : List Float} {p q : ℕ} → SpanTo n k₀ k i j c s x₀ x' → IsPair n i j → k < n → p ≡ packed_place k i → q ≡ packed_place k j → x'' ≡ two_rotated p q c s x' → SpanTo n k₀ (k + 1) i j c s x₀ x''
span_more g pair h e e' is =
    record {
      packed = record { order = g.packed.order; stored = rw is (simp length-set g.packed.stored) };
      rows =
          λ x r.
          let r' = g.rows x r in
          rotated_more r' (record { order = g.packed.order; stored = sym r'.same ∙ g.packed.stored }) pair h e e' is;
    }

-- the three spans: before i, between i and j, after j
pub span_all : {n i j k₁ k₂ k₃ : ℕ} {c s : Float} {x x₁ x₂ x₃ : List Float} → SpanTo n 0 k₁ i j c s x x₁ → k₁ ≡ i → SpanTo n (i + 1) k₂ i j c s x₁ x₂ → k₂ ≡ j → SpanTo n (j + 1) k₃ i j c s x₂ x₃ → k₃ ≡ n → RowsRotated n i j c s x x₃
span_all {i = i} {j} {c = c} {s} {x} before before_all between between_all after after_all =
    let to_i : RowsRotated i i j c s x _ = rw before_all at (before.rows x (rotated_none i j c s x)) in
    let to_j : RowsRotated j i j c s x _ = rw between_all at (between.rows x (rotated_past to_i (λ u v. u refl))) in
    rw after_all at (after.rows x (rotated_past to_j (λ u v. v refl)))

-- ---- the three stores

module _ (n i j : ℕ) (c s : Float) (x x' : List Float) (r : RowsRotated n i j c s x x') (sized : IsPacked n x) (pair : IsPair n i j) where
  corner_i : Float
  corner_i = c *ᶠ c *ᶠ cell x i i +ᶠ s *ᶠ s *ᶠ cell x j j -ᶠ two *ᶠ c *ᶠ s *ᶠ cell x i j

  corner_j : Float
  corner_j = s *ᶠ s *ᶠ cell x i i +ᶠ c *ᶠ c *ᶠ cell x j j +ᶠ two *ᶠ c *ᶠ s *ᶠ cell x i j

  x₁ : List Float
  x₁ = set x' (packed_place i i) corner_i

  x₂ : List Float
  x₂ = set x₁ (packed_place j j) corner_j

  x₃ : List Float
  x₃ = set x₂ (packed_place i j) +0

  clear_of : (p q : ℕ) → (packed_place p q ≡ packed_place i i → ⊥) → (packed_place p q ≡ packed_place j j → ⊥) → (packed_place p q ≡ packed_place i j → ⊥) → cell x₃ p q ≡ cell x' p q
  unfolding x₁ x₂ x₃
  clear_of p q not_ii not_jj not_ij =
      get_or-set_other x₂ (packed_place i j) (packed_place p q) +0 nan not_ij
      ∙ get_or-set_other x₁ (packed_place j j) (packed_place p q) corner_j nan not_jj
      ∙ get_or-set_other x' (packed_place i i) (packed_place p q) corner_i nan not_ii

  at_ij : cell x₃ i j ≡ +0
  unfolding x₁ x₂ x₃
  at_ij = get_or-set_same x₂ (packed_place i j) +0 nan (simp length-set (omega (arith, r.same, cells_inside n i j x sized (omega arith) pair.inside)))

  at_jj : cell x₃ j j ≡ corner_j
  unfolding x₁ x₂ x₃
  at_jj =
      get_or-set_other x₂ (packed_place i j) (packed_place j j) +0 nan (λ e. omega (arith, packed_place_apart j j i j e))
      ∙ get_or-set_same x₁ (packed_place j j) corner_j nan (simp length-set (omega (arith, r.same, cells_inside n j j x sized pair.inside pair.inside)))

  at_ii : cell x₃ i i ≡ corner_i
  unfolding x₁ x₂ x₃
  at_ii =
      get_or-set_other x₂ (packed_place i j) (packed_place i i) +0 nan (λ e. omega (arith, packed_place_apart i i i j e))
      ∙ get_or-set_other x₁ (packed_place j j) (packed_place i i) corner_j nan (λ e. omega (arith, packed_place_apart i i j j e))
      ∙ get_or-set_same x' (packed_place i i) corner_i nan (omega (arith, r.same, cells_inside n i i x sized (omega arith) (omega arith)))

  mirrored : (p q : ℕ) → cell x' p q ≡ cell x' q p
  mirrored p q = ap (λ (a : ℕ). at x' a) (packed_place_mirrored q p)

  rotated-at : (p q : ℕ) → p ≤ q → q < n → cell x₃ p q ≡ rotated_entry (in_packed n x) i j c s p q
  unfolding rotated_entry corner_i corner_j entry place packed_place
  rotated-at p q l hq =
      by_same p i
      (λ pi.
      by_same q i (λ qi. rw (pi, qi, eq-eqb i i refl) at_ii)
      (λ qi.
      by_same q j (λ qj. rw (pi, qj, eq-eqb i i refl, ne_eqb j i (λ e. omega arith), ne_eqb i j (λ e. omega arith), eq-eqb j j refl) at_ij)
      (λ qj.
      rw (pi, eq-eqb i i refl, ne_eqb q i qi, ne_eqb i j (λ e. omega arith), ne_eqb q j qj)
      (clear_of i q (λ e. omega (arith, packed_place_apart i q i i e)) (λ e. omega (arith, packed_place_apart i q j j e)) (λ e. omega (arith, packed_place_apart i q i j e)) ∙ mirrored i q ∙ r.first q hq qi qj))))
      (λ pi.
      by_same q i
      (λ qi.
      rw (qi, ne_eqb p i pi, ne_eqb p j (λ e. omega arith), eq-eqb i i refl)
      (clear_of p i (λ e. pi (omega (arith, packed_place_apart p i i i e))) (λ e. omega (arith, packed_place_apart p i j j e)) (λ e. omega (arith, packed_place_apart p i i j e)) ∙ r.first p (omega arith) pi (λ e. omega arith)))
      (λ qi.
      by_same p j
      (λ pj.
      by_same q j (λ qj. rw (pj, qj, ne_eqb j i (λ e. omega arith), eq-eqb j j refl) at_jj)
      (λ qj.
      rw (pj, ne_eqb j i (λ e. omega arith), eq-eqb j j refl, ne_eqb q j qj, ne_eqb q i qi)
      (clear_of j q (without j q i i (λ e. omega arith) qi) (λ e. qj (omega (arith, packed_place_apart j q j j e))) (λ e. qi (omega (arith, packed_place_apart j q i j e))) ∙ mirrored j q ∙ r.second q hq qi qj)))
      (λ pj.
      by_same q j
      (λ qj.
      rw (qj, ne_eqb p i pi, ne_eqb p j pj, ne_eqb j i (λ e. omega arith), eq-eqb j j refl)
      (clear_of p j (without p j i i pi (λ e. omega arith)) (λ e. pj (omega (arith, packed_place_apart p j j j e))) (λ e. pi (omega (arith, packed_place_apart p j i j e))) ∙ r.second p (omega arith) pi pj))
      (λ qj.
      rw (ne_eqb p i pi, ne_eqb p j pj, ne_eqb q i qi, ne_eqb q j qj)
      (clear_of p q (without p q i i pi qi) (without p q j j pj qj) (without p q i j pj qj) ∙ r.others p q pi pj qi qj)))))

  stored : length x₃ ≡ triangle n
  unfolding x₁ x₂ x₃
  stored = simp length-set (r.same ∙ sized.stored)

  rotated_is : x₃ ≡ packed n (rotated_entry (in_packed n x) i j c s)
  rotated_is = packed_is n (rotated_entry (in_packed n x) i j c s) x₃ stored (λ p q hp hq. rw (packed_place-le p q hp) at (rotated-at p q hp hq))

pub rotated_stores : {n i j : ℕ} {c s : Float} {x x' : List Float} {a b d : Float} {ii jj ij : ℕ} → RowsRotated n i j c s x x' → IsPacked n x → IsPair n i j → CornersOf n i j x a b d → ii ≡ packed_place i i → jj ≡ packed_place j j → ij ≡ packed_place i j → set (set (set x' ii (c *ᶠ c *ᶠ a +ᶠ s *ᶠ s *ᶠ b -ᶠ two *ᶠ c *ᶠ s *ᶠ d)) jj (s *ᶠ s *ᶠ a +ᶠ c *ᶠ c *ᶠ b +ᶠ two *ᶠ c *ᶠ s *ᶠ d)) ij +0 ≡ packed n (rotated_entry (in_packed n x) i j c s)
unfolding x₁ x₂ x₃ corner_i corner_j
rotated_stores {n} {i} {j} {c} {s} {x} {x'} {a} {b} {d} r sized pair corners ii jj ij =
    let a_is : a ≡ cell x i i = corners.first ∙ in_packed-place n x i i in
    let b_is : b ≡ cell x j j = corners.second ∙ in_packed-place n x j j in
    let d_is : d ≡ cell x i j = corners.shared ∙ in_packed-place n x i j in
    rw (a_is, b_is, d_is, ii, jj, ij) (rotated_is n i j c s x x' r sized pair)

pub corners_inside : {n i j : ℕ} {x : List Float} {ii jj ij : ℕ} → IsPacked n x → IsPair n i j → ii ≡ packed_place i i → jj ≡ packed_place j j → ij ≡ packed_place i j → (ii < length x) × (jj < length x) × (ij < length x)
corners_inside {n} {i} {j} {x} sized pair ii jj ij =
    (rw ii (cells_inside n i i x sized (omega arith) (omega arith)), rw jj (cells_inside n j j x sized pair.inside pair.inside), rw ij (cells_inside n i j x sized (omega arith) pair.inside))

-- the three entries, read where they are stored
pub corners_read : {n i j : ℕ} {x : List Float} {ii jj ij : ℕ} → ii ≡ packed_place i i → jj ≡ packed_place j j → ij ≡ packed_place i j → CornersOf n i j x (at x ii) (at x jj) (at x ij)
corners_read {n} {i} {j} {x} ii jj ij =
    record {
      first = ap (at x) ii ∙ sym (in_packed-place n x i i);
      second = ap (at x) jj ∙ sym (in_packed-place n x j j);
      shared = ap (at x) ij ∙ sym (in_packed-place n x i j);
    }
