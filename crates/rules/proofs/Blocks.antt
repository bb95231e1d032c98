-- Laws of the cone list: what a word says, and what the words from the i-th on come to.
use Prim.Native.Nat.{ℕ, zero, suc, ◌+◌, ◌-◌, ◌*◌, ◌/◌, ◌≤◌, ◌<◌}
use native.Mathlib.Nat.{mul-add, mul-one, mul-le-mul}
use native.Mathlib.Numerals.{add-one}
use native.Mathlib.Omega.{arith}
use mathlib.Core.Path.{◌≡◌, refl, ◌∙◌, ap}
use mathlib.Core.Bool.{Bool, true, false, cond, not, ◌||◌}
use mathlib.Core.List.{List, [], ◌∷◌}
use borrow.Author.Tests.{eqb-true, eqb-false, eq-eqb, ne_eqb, le-leb, lt-leb}
use lib.Dec.{leb, eqb, eqb-zero-suc, eqb-suc-zero}
use lib.ListN.{length, get_or, drop, drop_of_length-le}
use lib.Seq.{drop-cons}
use Rattle.rules.specs.declared.Cone.{Cone}
use Rattle.rules.specs.declared.Cone.TheVariants.{PSD}
use Rattle.rules.specs.Matrices.{triangle}
use Rattle.rules.specs.Blocks.{Word, Block, Bad, kind_of, size_of, order_up_to, order_of, read_kind, read_word, places, is_bad, with_block, blocks_of, has_bad_word, total_places, is_bad_cone}

-- ---- the order of a triangle

-- a triangle has at least as many places as a square has beside its diagonal, halved
pub twice_triangle : (n : ℕ) → n * (n + 1) ≡ n * n + n
twice_triangle n = mul-add n n 1 ∙ ap (λ (k : ℕ). n * n + k) (mul-one n)

pub order_in_triangle : (n : ℕ) → n ≤ n * (n + 1) / 2
order_in_triangle zero = omega arith
order_in_triangle (suc n) =
    let one : 1 ≤ suc n = omega arith in
    let same : suc n ≤ suc n = omega arith in
    omega (arith, mul-le-mul one same, twice_triangle (suc n))

pub order_within : (n size : ℕ) → order_up_to n size ≤ n
unfolding order_up_to
order_within zero size = omega arith
order_within (suc n) size = go (leb (triangle (suc n)) size) (order_within n size)
  where
    go : (t : Bool) → order_up_to n size ≤ n → cond t (suc n) (order_up_to n size) ≤ suc n
    go true h = omega arith
    go false h = omega arith

pub order_most : (size : ℕ) → order_of size ≤ 127
unfolding order_of
order_most size = order_within 127 size

-- the search from above: it stops at an order that is small enough, and goes on at one that is not
pub order_found : (n size : ℕ) → 0 < n → n * (n + 1) / 2 ≤ size → order_up_to n size ≡ n
unfolding order_up_to
order_found zero size h l = absurd (omega arith)
order_found (suc n) size h l = rw (le-leb (triangle (suc n)) size l)

pub order_less : (n size : ℕ) → 0 < n → size < n * (n + 1) / 2 → order_up_to n size ≡ order_up_to (n - 1) size
unfolding order_up_to
order_less zero size h l = absurd (omega arith)
order_less (suc n) size h l = rw (lt-leb (triangle (suc n)) size l) (let e : n ≡ suc n - 1 = omega arith in rw (← e))

-- ---- a word

pub reserved : (kind size : ℕ) → 5 ≤ kind → read_kind kind size ≡ Bad
unfolding read_kind
reserved zero size h = absurd (omega arith)
reserved (suc zero) size h = absurd (omega arith)
reserved (suc (suc zero)) size h = absurd (omega arith)
reserved (suc (suc (suc zero))) size h = absurd (omega arith)
reserved (suc (suc (suc (suc zero)))) size h = absurd (omega arith)
reserved (suc (suc (suc (suc (suc kind))))) size h = refl

abbrev size_in : Word → ℕ → ℕ
size_in (Block b) size = places b
size_in Bad size = size

kind_size : (kind size : ℕ) → size_in (read_kind kind size) size ≡ size
unfolding read_kind
kind_size zero size = refl
kind_size (suc zero) size = refl
kind_size (suc (suc zero)) size = refl
kind_size (suc (suc (suc zero))) size = refl
kind_size (suc (suc (suc (suc zero)))) size = go (eqb (triangle (order_of size)) size) refl
  where
    go : (t : Bool) → eqb (triangle (order_of size)) size ≡ t → size_in (cond t (Block (PSD (order_of size))) Bad) size ≡ size
    go true e = eqb-true (triangle (order_of size)) size e
    go false e = refl
kind_size (suc (suc (suc (suc (suc kind))))) size = refl

-- a block has as many places as its word says
pub word_size : (word : ℕ) (b : Cone) → read_word word ≡ Block b → places b ≡ size_of word
unfolding read_word
word_size word b e = rw e at (kind_size (kind_of word) (size_of word))

pub word_most : (word : ℕ) (b : Cone) → read_word word ≡ Block b → places b ≤ 8191
word_most word b e = omega (arith, word_size word b e)

-- ---- a list, from word i on

sum_less : (p t m : ℕ) → p ≤ m → eqb (p + t) m ≡ eqb t (m - p)
sum_less p t m h = go (eqb t (m - p)) refl
  where
    go : (s : Bool) → eqb t (m - p) ≡ s → eqb (p + t) m ≡ s
    go true q =
        let same : t ≡ m - p = eqb-true t (m - p) q in
        eq-eqb (p + t) m (omega arith)
    go false q = ne_eqb (p + t) m (λ same. eqb-false t (m - p) q (omega arith))

module _ (words : List ℕ) (i : ℕ) (h : i < length words) where
  blocks_split : blocks_of (drop i words) ≡ with_block (read_word (get_or words i 0)) (blocks_of (drop (i + 1) words))
  unfolding blocks_of
  blocks_split = rw (add-one, drop-cons words i 0)

  pub blocks_bad : read_word (get_or words i 0) ≡ Bad → blocks_of (drop i words) ≡ blocks_of (drop (i + 1) words)
  blocks_bad e = rw e at blocks_split

  pub blocks_block : (b : Cone) → read_word (get_or words i 0) ≡ Block b → blocks_of (drop i words) ≡ b ∷ blocks_of (drop (i + 1) words)
  blocks_block b e = rw e at blocks_split

  has_split : has_bad_word (drop i words) ≡ (is_bad (read_word (get_or words i 0)) || has_bad_word (drop (i + 1) words))
  unfolding has_bad_word
  has_split = rw (add-one, drop-cons words i 0)

  pub bad_word : (m : ℕ) → read_word (get_or words i 0) ≡ Bad → is_bad_cone (drop i words) m ≡ true
  unfolding is_bad_cone
  bad_word m e = rw (has_split, e)

  bad_split : (m : ℕ) (b : Cone) → read_word (get_or words i 0) ≡ Block b
      → is_bad_cone (drop i words) m ≡ (has_bad_word (drop (i + 1) words) || not (eqb (places b + total_places (blocks_of (drop (i + 1) words))) m))
  unfolding is_bad_cone total_places
  bad_split m b e = rw (blocks_block b e, has_split, e)

  pub bad_long : (m : ℕ) (b : Cone) → read_word (get_or words i 0) ≡ Block b → m < places b → is_bad_cone (drop i words) m ≡ true
  bad_long m b e l =
      bad_split m b e ∙ rw (ne_eqb (places b + total_places (blocks_of (drop (i + 1) words))) m (λ q. omega arith)) (or_true (has_bad_word (drop (i + 1) words)))
    where
      or_true : (t : Bool) → (t || true) ≡ true
      or_true true = refl
      or_true false = refl

  pub bad_more : (m : ℕ) (b : Cone) → read_word (get_or words i 0) ≡ Block b → places b ≤ m → is_bad_cone (drop i words) m ≡ is_bad_cone (drop (i + 1) words) (m - places b)
  unfolding is_bad_cone
  bad_more m b e l =
      bad_split m b e ∙ ap (λ (t : Bool). has_bad_word (drop (i + 1) words) || not t) (sum_less (places b) (total_places (blocks_of (drop (i + 1) words))) m l)

-- after the last word
pub bad_end : (words : List ℕ) (i m : ℕ) → length words ≤ i → is_bad_cone (drop i words) m ≡ not (eqb m 0)
unfolding is_bad_cone has_bad_word blocks_of total_places
bad_end words i zero h = rw (drop_of_length-le words h)
bad_end words i (suc m) h = rw (drop_of_length-le words h, eqb-zero-suc m, eqb-suc-zero m)

pub blocks_end : (words : List ℕ) (i : ℕ) → length words ≤ i → blocks_of (drop i words) ≡ []
unfolding blocks_of
blocks_end words i h = rw (drop_of_length-le words h)
