-- Which bit stands at a place of a card: the fields one after another, each front with its length.
use Prim.Native.Nat.{ℕ, ◌+◌, ◌-◌, ◌*◌, ◌/◌, ◌%◌, ◌≤◌, ◌<◌}
use native.Mathlib.Omega.{arith}
use mathlib.Core.Path.{◌≡◌, refl, sym, ap, ◌∙◌}
use mathlib.Core.Bool.{cond}
use mathlib.Core.List.{List, ◌++◌}
use lib.ListN.{length, get_or, length-append, get_or-append, get_or-eq_default}
use lib.Seq.{get_or-append-add}
use Rattle.card.specs.Card.{Card, bits_of, bits_of_all, card_bits}
use Rattle.bits.proofs.Bits.{bits_of-length, all_length, bit_of, all_bit}

in_front : (xs ys : List ℕ) (at n : ℕ) → length xs ≡ n → at < n → get_or (xs ++ ys) at 0 ≡ get_or xs at 0
in_front xs ys at n e h = get_or-append xs ys 0 at (rw e h)

in_back : (xs ys : List ℕ) (at n : ℕ) → length xs ≡ n → n ≤ at → get_or (xs ++ ys) at 0 ≡ get_or ys (at - n) 0
in_back xs ys at n e h =
    let i : length xs + (at - n) ≡ at = rw e (omega arith) in
    ap (λ (j : ℕ). get_or (xs ++ ys) j 0) (sym i) ∙ get_or-append-add xs ys (at - n) 0

word_bit : (vs : List ℕ) (k : ℕ) → k < 16 * length vs → get_or (bits_of_all 16 vs) k 0 ≡ get_or (bits_of 16 (get_or vs (k / 16) 0)) (k % 16) 0
word_bit vs k h =
    let e : 16 * (k / 16) + k % 16 ≡ k = omega arith in
    ap (λ (j : ℕ). get_or (bits_of_all 16 vs) j 0) (sym e)
    ∙ all_bit 16 vs (k / 16) (k % 16) (omega arith) (omega arith)
    ∙ sym (bit_of 16 (get_or vs (k / 16) 0) (k % 16) (omega arith))

number_bit : (vs : List ℕ) (k : ℕ) → k < 64 * length vs → get_or (bits_of_all 64 vs) k 0 ≡ get_or (bits_of 64 (get_or vs (k / 64) 0)) (k % 64) 0
number_bit vs k h =
    let e : 64 * (k / 64) + k % 64 ≡ k = omega arith in
    ap (λ (j : ℕ). get_or (bits_of_all 64 vs) j 0) (sym e)
    ∙ all_bit 64 vs (k / 64) (k % 64) (omega arith) (omega arith)
    ∙ sym (bit_of 64 (get_or vs (k / 64) 0) (k % 64) (omega arith))

-- ---- the fronts of a card

unfoldable pub front1 : Card → List ℕ
front1 k = bits_of 4 1

unfoldable pub front2 : Card → List ℕ
front2 k = front1 k ++ bits_of 1 (cond k.packed 1 0)

unfoldable pub front3 : Card → List ℕ
front3 k = front2 k ++ bits_of 6 k.n

unfoldable pub front4 : Card → List ℕ
front4 k = front3 k ++ bits_of 6 k.m

unfoldable pub front5 : Card → List ℕ
front5 k = front4 k ++ bits_of 6 (length k.words)

unfoldable pub front6 : Card → List ℕ
front6 k = front5 k ++ bits_of_all 16 k.words

unfoldable pub front7 : Card → List ℕ
front7 k = front6 k ++ bits_of 20 k.max_iter

unfoldable pub front8 : Card → List ℕ
front8 k = front7 k ++ bits_of 7 k.sweep_limit

unfoldable pub front9 : Card → List ℕ
front9 k = front8 k ++ bits_of_all 64 k.numbers

length1 : (k : Card) → length (front1 k) ≡ 4
unfolding front1
length1 k = bits_of-length 4 1

length2 : (k : Card) → length (front2 k) ≡ 5
unfolding front2
length2 k = rw (length-append (front1 k) (bits_of 1 (cond k.packed 1 0)), length1 k, bits_of-length 1 (cond k.packed 1 0))

length3 : (k : Card) → length (front3 k) ≡ 11
unfolding front3
length3 k = rw (length-append (front2 k) (bits_of 6 k.n), length2 k, bits_of-length 6 k.n)

length4 : (k : Card) → length (front4 k) ≡ 17
unfolding front4
length4 k = rw (length-append (front3 k) (bits_of 6 k.m), length3 k, bits_of-length 6 k.m)

length5 : (k : Card) → length (front5 k) ≡ 23
unfolding front5
length5 k = rw (length-append (front4 k) (bits_of 6 (length k.words)), length4 k, bits_of-length 6 (length k.words))

length6 : (k : Card) → length (front6 k) ≡ 23 + 16 * length k.words
unfolding front6
length6 k = rw (length-append (front5 k) (bits_of_all 16 k.words), length5 k, all_length 16 k.words)

length7 : (k : Card) → length (front7 k) ≡ 23 + 16 * length k.words + 20
unfolding front7
length7 k = rw (length-append (front6 k) (bits_of 20 k.max_iter), length6 k, bits_of-length 20 k.max_iter)

length8 : (k : Card) → length (front8 k) ≡ 23 + 16 * length k.words + 20 + 7
unfolding front8
length8 k = rw (length-append (front7 k) (bits_of 7 k.sweep_limit), length7 k, bits_of-length 7 k.sweep_limit)

length9 : (k : Card) → length (front9 k) ≡ 23 + 16 * length k.words + 20 + 7 + 64 * length k.numbers
unfolding front9
length9 k = rw (length-append (front8 k) (bits_of_all 64 k.numbers), length8 k, all_length 64 k.numbers)

pub card_is : (k : Card) → card_bits k ≡ front9 k
unfolding card_bits front1 front2 front3 front4 front5 front6 front7 front8 front9
card_is k = refl

pub card-length : (k : Card) → length (card_bits k) ≡ 23 + 16 * length k.words + 20 + 7 + 64 * length k.numbers
card-length k = rw (card_is k) (length9 k)

-- ---- the bit at a place

module _ (k : Card) (at : ℕ) where
  place9 : get_or (card_bits k) at 0 ≡ get_or (front9 k) at 0
  place9 = rw (card_is k)

  place8 : at < 23 + 16 * length k.words + 20 + 7 → get_or (card_bits k) at 0 ≡ get_or (front8 k) at 0
  unfolding front9
  place8 h = place9 ∙ in_front (front8 k) (bits_of_all 64 k.numbers) at (23 + 16 * length k.words + 20 + 7) (length8 k) h

  place7 : at < 23 + 16 * length k.words + 20 → get_or (card_bits k) at 0 ≡ get_or (front7 k) at 0
  unfolding front8
  place7 h = place8 (omega arith) ∙ in_front (front7 k) (bits_of 7 k.sweep_limit) at (23 + 16 * length k.words + 20) (length7 k) h

  place6 : at < 23 + 16 * length k.words → get_or (card_bits k) at 0 ≡ get_or (front6 k) at 0
  unfolding front7
  place6 h = place7 (omega arith) ∙ in_front (front6 k) (bits_of 20 k.max_iter) at (23 + 16 * length k.words) (length6 k) h

  place5 : at < 23 → get_or (card_bits k) at 0 ≡ get_or (front5 k) at 0
  unfolding front6
  place5 h = place6 (omega arith) ∙ in_front (front5 k) (bits_of_all 16 k.words) at 23 (length5 k) h

  place4 : at < 17 → get_or (card_bits k) at 0 ≡ get_or (front4 k) at 0
  unfolding front5
  place4 h = place5 (omega arith) ∙ in_front (front4 k) (bits_of 6 (length k.words)) at 17 (length4 k) h

  place3 : at < 11 → get_or (card_bits k) at 0 ≡ get_or (front3 k) at 0
  unfolding front4
  place3 h = place4 (omega arith) ∙ in_front (front3 k) (bits_of 6 k.m) at 11 (length3 k) h

  place2 : at < 5 → get_or (card_bits k) at 0 ≡ get_or (front2 k) at 0
  unfolding front3
  place2 h = place3 (omega arith) ∙ in_front (front2 k) (bits_of 6 k.n) at 5 (length2 k) h

  place1 : at < 4 → get_or (card_bits k) at 0 ≡ get_or (front1 k) at 0
  unfolding front2
  place1 h = place2 (omega arith) ∙ in_front (front1 k) (bits_of 1 (cond k.packed 1 0)) at 4 (length1 k) h

  pub edition_bit : at < 4 → get_or (card_bits k) at 0 ≡ get_or (bits_of 4 1) at 0
  unfolding front1
  edition_bit h = place1 h

  pub flag_bit : 4 ≤ at → at < 5 → get_or (card_bits k) at 0 ≡ get_or (bits_of 1 (cond k.packed 1 0)) (at - 4) 0
  unfolding front2
  flag_bit g h = place2 h ∙ in_back (front1 k) (bits_of 1 (cond k.packed 1 0)) at 4 (length1 k) g

  pub n_bit : 5 ≤ at → at < 11 → get_or (card_bits k) at 0 ≡ get_or (bits_of 6 k.n) (at - 5) 0
  unfolding front3
  n_bit g h = place3 h ∙ in_back (front2 k) (bits_of 6 k.n) at 5 (length2 k) g

  pub m_bit : 11 ≤ at → at < 17 → get_or (card_bits k) at 0 ≡ get_or (bits_of 6 k.m) (at - 11) 0
  unfolding front4
  m_bit g h = place4 h ∙ in_back (front3 k) (bits_of 6 k.m) at 11 (length3 k) g

  pub count_bit : 17 ≤ at → at < 23 → get_or (card_bits k) at 0 ≡ get_or (bits_of 6 (length k.words)) (at - 17) 0
  unfolding front5
  count_bit g h = place5 h ∙ in_back (front4 k) (bits_of 6 (length k.words)) at 17 (length4 k) g

  pub words_bit : 23 ≤ at → at < 23 + 16 * length k.words → get_or (card_bits k) at 0 ≡ get_or (bits_of 16 (get_or k.words ((at - 23) / 16) 0)) ((at - 23) % 16) 0
  unfolding front6
  words_bit g h = place6 h ∙ in_back (front5 k) (bits_of_all 16 k.words) at 23 (length5 k) g ∙ word_bit k.words (at - 23) (omega arith)

  pub max_iter_bit : 23 + 16 * length k.words ≤ at → at < 23 + 16 * length k.words + 20 → get_or (card_bits k) at 0 ≡ get_or (bits_of 20 k.max_iter) (at - (23 + 16 * length k.words)) 0
  unfolding front7
  max_iter_bit g h = place7 h ∙ in_back (front6 k) (bits_of 20 k.max_iter) at (23 + 16 * length k.words) (length6 k) g

  pub sweep_limit_bit : 23 + 16 * length k.words + 20 ≤ at → at < 23 + 16 * length k.words + 20 + 7 → get_or (card_bits k) at 0 ≡ get_or (bits_of 7 k.sweep_limit) (at - (23 + 16 * length k.words + 20)) 0
  unfolding front8
  sweep_limit_bit g h = place8 h ∙ in_back (front7 k) (bits_of 7 k.sweep_limit) at (23 + 16 * length k.words + 20) (length7 k) g

  pub numbers_bit : 23 + 16 * length k.words + 20 + 7 ≤ at → at < 23 + 16 * length k.words + 20 + 7 + 64 * length k.numbers → get_or (card_bits k) at 0 ≡ get_or (bits_of 64 (get_or k.numbers ((at - (23 + 16 * length k.words + 20 + 7)) / 64) 0)) ((at - (23 + 16 * length k.words + 20 + 7)) % 64) 0
  unfolding front9
  numbers_bit g h = place9 ∙ in_back (front8 k) (bits_of_all 64 k.numbers) at (23 + 16 * length k.words + 20 + 7) (length8 k) g ∙ number_bit k.numbers (at - (23 + 16 * length k.words + 20 + 7)) (omega arith)

  pub past_bit : 23 + 16 * length k.words + 20 + 7 + 64 * length k.numbers ≤ at → get_or (card_bits k) at 0 ≡ 0
  past_bit h = get_or-eq_default (card_bits k) 0 {n = at} (rw (card-length k) h)
