-- A card that is read, written back: its bits are the bits that were read, and they give the same bytes.
use Prim.Native.Nat.{ℕ, zero, suc, ◌+◌, ◌-◌, ◌*◌, ◌%◌, ◌≤◌, ◌<◌}
use native.Mathlib.Nat.{zero-add}
use native.Mathlib.Omega.{arith}
use mathlib.Core.Path.{◌≡◌, refl, sym, ap, ◌∙◌}
use mathlib.Core.Bool.{Bool, true, false, cond}
use mathlib.Core.List.{List, [], ◌∷◌, ◌++◌}
use lib.Dec.{ltb, eqb}
use lib.ListN.{length, take, drop, get_or, replicate, length-drop, get_or-eq_default}
use lib.Seq.{take-add, take-length, length-take-le, get_or-take, get_or-drop, ext_get_or}
use borrow.Author.Tests.{ltb-true, ltb-false, eqb-true, ne_eqb}
use Rattle.card.specs.Card.{bits_of, bits_of_all, bits_of_bytes, value, all_zero, Card, bytes_for, bytes_of, card_bits}
use Rattle.card.specs.Fields.{field_at, fields_at}
use Rattle.card_writer.specs.RoundTrip.{AreBytes}
use Rattle.card.proofs.Binary.{Binary}
use Rattle.card_writer.proofs.Fronts.{front1, front2, front3, front4, front5, front6, front7, front8, front9, card_is}
use Rattle.card_writer.proofs.Bytes.{padded_bit, padded_length}
use Rattle.card_writer.proofs.Values.{value-of_bits, bits_of_field, bits_of_fields}

-- ---- the bits

-- what it means that bits say a card
pub record Says (bits : List ℕ) (k : Card) : Type 0 where
  pub edition : 1 ≡ field_at 0 4 bits
  pub flag : cond k.packed 1 0 ≡ field_at 4 1 bits
  pub n_said : k.n ≡ field_at 5 6 bits
  pub m_said : k.m ≡ field_at 11 6 bits
  pub count_said : length k.words ≡ field_at 17 6 bits
  pub words_said : k.words ≡ fields_at (length k.words) 23 16 bits
  pub max_iter_said : k.max_iter ≡ field_at (23 + 16 * length k.words) 20 bits
  pub sweep_limit_said : k.sweep_limit ≡ field_at (23 + 16 * length k.words + 20) 7 bits
  pub numbers_said : k.numbers ≡ fields_at (length k.numbers) (23 + 16 * length k.words + 20 + 7) 64 bits
  pub inside : 23 + 16 * length k.words + 20 + 7 + 64 * length k.numbers ≤ length bits

joined : (a w : ℕ) (bits xs ys : List ℕ) → xs ≡ take a bits → ys ≡ take w (drop a bits) → xs ++ ys ≡ take (a + w) bits
joined a w bits xs ys p q = rw (p, q) (sym (take-add a w bits))

module _ (bits : List ℕ) (k : Card) (b : Binary bits) (s : Says bits k) where
  taken1 : front1 k ≡ take 4 bits
  unfolding front1
  taken1 = ap (bits_of 4) s.edition ∙ bits_of_field 0 4 bits b (omega (arith, s.inside))

  taken2 : front2 k ≡ take 5 bits
  unfolding front2
  taken2 = joined 4 1 bits (front1 k) (bits_of 1 (cond k.packed 1 0)) taken1 (ap (bits_of 1) s.flag ∙ bits_of_field 4 1 bits b (omega (arith, s.inside)))

  taken3 : front3 k ≡ take 11 bits
  unfolding front3
  taken3 = joined 5 6 bits (front2 k) (bits_of 6 k.n) taken2 (ap (bits_of 6) s.n_said ∙ bits_of_field 5 6 bits b (omega (arith, s.inside)))

  taken4 : front4 k ≡ take 17 bits
  unfolding front4
  taken4 = joined 11 6 bits (front3 k) (bits_of 6 k.m) taken3 (ap (bits_of 6) s.m_said ∙ bits_of_field 11 6 bits b (omega (arith, s.inside)))

  taken5 : front5 k ≡ take 23 bits
  unfolding front5
  taken5 = joined 17 6 bits (front4 k) (bits_of 6 (length k.words)) taken4 (ap (bits_of 6) s.count_said ∙ bits_of_field 17 6 bits b (omega (arith, s.inside)))

  taken6 : front6 k ≡ take (23 + 16 * length k.words) bits
  unfolding front6
  taken6 = joined 23 (16 * length k.words) bits (front5 k) (bits_of_all 16 k.words) taken5 (ap (bits_of_all 16) s.words_said ∙ bits_of_fields (length k.words) 23 16 bits b (omega (arith, s.inside)))

  taken7 : front7 k ≡ take (23 + 16 * length k.words + 20) bits
  unfolding front7
  taken7 = joined (23 + 16 * length k.words) 20 bits (front6 k) (bits_of 20 k.max_iter) taken6 (ap (bits_of 20) s.max_iter_said ∙ bits_of_field (23 + 16 * length k.words) 20 bits b (omega (arith, s.inside)))

  taken8 : front8 k ≡ take (23 + 16 * length k.words + 20 + 7) bits
  unfolding front8
  taken8 = joined (23 + 16 * length k.words + 20) 7 bits (front7 k) (bits_of 7 k.sweep_limit) taken7 (ap (bits_of 7) s.sweep_limit_said ∙ bits_of_field (23 + 16 * length k.words + 20) 7 bits b (omega (arith, s.inside)))

  taken9 : front9 k ≡ take (23 + 16 * length k.words + 20 + 7 + 64 * length k.numbers) bits
  unfolding front9
  taken9 = joined (23 + 16 * length k.words + 20 + 7) (64 * length k.numbers) bits (front8 k) (bits_of_all 64 k.numbers) taken8 (ap (bits_of_all 64) s.numbers_said ∙ bits_of_fields (length k.numbers) (23 + 16 * length k.words + 20 + 7) 64 bits b (omega (arith, s.inside)))

  pub bits_said : card_bits k ≡ take (23 + 16 * length k.words + 20 + 7 + 64 * length k.numbers) bits
  bits_said = card_is k ∙ taken9

-- ---- the bytes

-- bytes are told by which bits stand where
same_eight : (xs ys : List ℕ) → ((i : ℕ) → get_or xs i 0 ≡ get_or ys i 0) → take 8 (xs ++ replicate 8 0) ≡ take 8 (ys ++ replicate 8 0)
same_eight xs ys same =
    let lx : length (take 8 (xs ++ replicate 8 0)) ≡ 8 = length-take-le 8 (xs ++ replicate 8 0) (padded_length xs 0) in
    let ly : length (take 8 (ys ++ replicate 8 0)) ≡ 8 = length-take-le 8 (ys ++ replicate 8 0) (padded_length ys 0) in
    ext_get_or 0 (take 8 (xs ++ replicate 8 0)) (take 8 (ys ++ replicate 8 0)) (lx ∙ sym ly) (λ i h. at_place i (rw lx at h))
  where
    at_place : (i : ℕ) → i < 8 → get_or (take 8 (xs ++ replicate 8 0)) i 0 ≡ get_or (take 8 (ys ++ replicate 8 0)) i 0
    at_place i h =
        let x : get_or (take 8 (xs ++ replicate 8 0)) i 0 ≡ get_or xs i 0 = get_or-take 8 (xs ++ replicate 8 0) i 0 h ∙ (rw (zero-add i) at (padded_bit xs 0 i h)) in
        let y : get_or (take 8 (ys ++ replicate 8 0)) i 0 ≡ get_or ys i 0 = get_or-take 8 (ys ++ replicate 8 0) i 0 h ∙ (rw (zero-add i) at (padded_bit ys 0 i h)) in
        x ∙ same i ∙ sym y

pub same_bytes : (c : ℕ) (xs ys : List ℕ) → ((i : ℕ) → get_or xs i 0 ≡ get_or ys i 0) → bytes_of c xs ≡ bytes_of c ys
unfolding bytes_of
same_bytes zero xs ys same = refl
same_bytes (suc c) xs ys same =
    rw (same_eight xs ys same, same_bytes c (drop 8 xs) (drop 8 ys) (λ i. get_or-drop 8 xs i 0 ∙ same (8 + i) ∙ sym (get_or-drop 8 ys i 0)))

pub bytes_back : (bytes : List ℕ) → AreBytes bytes → bytes_of (length bytes) (bits_of_bytes bytes) ≡ bytes
unfolding bytes_of bits_of_bytes
bytes_back [] below = refl
bytes_back (b ∷ bytes) below =
    let first : value (bits_of 8 b) ≡ b = value-of_bits 8 b (below 0) in
    rw (first, bytes_back bytes (λ i. below (suc i)))

-- ---- the padding

pub zero_bits : (bits : List ℕ) → all_zero bits ≡ true → (i : ℕ) → get_or bits i 0 ≡ 0
unfolding all_zero
zero_bits [] e i = refl
zero_bits (zero ∷ bits) e zero = refl
zero_bits (zero ∷ bits) e (suc i) = zero_bits bits e i
zero_bits (suc x ∷ bits) e i = let z : ◌≡◌ {A = ℕ} 0 1 = cc (ne_eqb (suc x) 0 (λ q. omega arith)) in absurd (omega arith)

module _ (bits : List ℕ) (total : ℕ) (inside : total ≤ length bits) (zeros : all_zero (take (length (drop total bits) % 8) (drop total bits)) ≡ true) (none_left : eqb (length (drop total bits)) (length (drop total bits) % 8) ≡ true) where
  tail_zero : (i : ℕ) → get_or (drop total bits) i 0 ≡ 0
  tail_zero =
      let e : length (drop total bits) ≡ length (drop total bits) % 8 = eqb-true (length (drop total bits)) (length (drop total bits) % 8) none_left in
      zero_bits (drop total bits) (rw (← e, take-length (drop total bits)) at zeros)

  pub cut_same : (i : ℕ) → get_or (take total bits) i 0 ≡ get_or bits i 0
  cut_same i = go (ltb i total) refl
    where
      go : (t : Bool) → ltb i total ≡ t → get_or (take total bits) i 0 ≡ get_or bits i 0
      go true e = get_or-take total bits i 0 (ltb-true i total e)
      go false e =
          let h : total ≤ i = ltb-false i total e in
          let at : total + (i - total) ≡ i = omega arith in
          let l : length (take total bits) ≤ i = rw (length-take-le total bits inside) h in
          get_or-eq_default (take total bits) 0 {n = i} l ∙ sym (ap (λ (j : ℕ). get_or bits j 0) (sym at) ∙ sym (get_or-drop total bits (i - total) 0) ∙ tail_zero (i - total))

  pub bytes_needed : (len : ℕ) → length bits ≡ 8 * len → bytes_for total ≡ len
  bytes_needed len whole =
      let e : length (drop total bits) ≡ length (drop total bits) % 8 = eqb-true (length (drop total bits)) (length (drop total bits) % 8) none_left in
      let l : length (drop total bits) ≡ 8 * len - total = rw (length-drop total bits, whole) in
      omega (arith, rw l at e)
