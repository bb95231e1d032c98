-- What is known of a card that is read: every test was met, and the card is what stands at the places of its fields.
use Prim.Native.Nat.{ℕ, ◌+◌, ◌*◌, ◌%◌, ◌≤◌}
use native.Mathlib.Omega.{arith}
use mathlib.Core.Path.{◌≡◌, refl, sym, ap, ◌∙◌}
use mathlib.Core.Bool.{Bool, true, false, cond}
use mathlib.Core.List.{List, ◌++◌}
use lib.Dec.{leb, eqb}
use lib.ListN.{length, take, drop}
use borrow.Author.Tests.{leb-true, eqb-true}
use Rattle.std.specs.Prelude.{Result, Ok, Err, IfOk}
use Rattle.rules.specs.Refusals.{is_packed}
use Rattle.card.specs.Card.{bits_of_bytes, all_zero, Card, Reading, fault, read, number_count, closed, read_card}
use Rattle.card.specs.Fields.{field_at, fields_at, bit_count, card_at, rest_at}
use Rattle.card.specs.Outcome.{head_of, Bounds, answer_of, words_after, numbers_after}
use Rattle.card.specs.declared.CardHead.{CardHead}
use Rattle.card.specs.declared.Fault.{Fault}
use Rattle.card.specs.declared.Fault.TheVariants.{Short, Edition, Large, Padding, LeftOver}
use Rattle.bits.proofs.Bits.{bits_length}
use Rattle.card.proofs.Bits.{fields_length}
use Rattle.card.proofs.Binary.{bytes_binary, field_below}
use Rattle.card.proofs.Places.{card_by_places}
use Rattle.card.proofs.Rest.{flag_of_storage}

module _ (head : CardHead) where
  abbrev pub IsRead : Reading → Type 0
  IsRead r = answer_of r ≡ Ok head

  -- a judgement that did not end the reading was met
  pub record Met (test : Bool) (next : Reading) (f : Fault) : Type 0 where
    pub holds : test ≡ true
    pub same : cond test next (fault f) ≡ next
    pub goes_on : IsRead next

  pub met : (test : Bool) (next : Reading) (f : Fault) → IsRead (cond test next (fault f)) → Met test next f
  met true next f e = record { holds = refl; same = refl; goes_on = e }
  met false next f e = let z : ◌≡◌ {A = ℕ} 0 1 = cc in absurd (omega arith)

pub record Found (bytes : List ℕ) (n m : ℕ) : Type 0 where
  pub edition : field_at 0 4 (bits_of_bytes bytes) ≡ 1
  pub n_is : n ≡ field_at 5 6 (bits_of_bytes bytes)
  pub n_most : n ≤ 32
  pub m_is : m ≡ field_at 11 6 (bits_of_bytes bytes)
  pub m_most : m ≤ 32
  pub inside : bit_count n m (bits_of_bytes bytes) ≤ length (bits_of_bytes bytes)
  pub zeros : all_zero (take (length (drop (bit_count n m (bits_of_bytes bytes)) (bits_of_bytes bytes)) % 8) (drop (bit_count n m (bits_of_bytes bytes)) (bits_of_bytes bytes))) ≡ true
  pub none_left : eqb (length (drop (bit_count n m (bits_of_bytes bytes)) (bits_of_bytes bytes))) (length (drop (bit_count n m (bits_of_bytes bytes)) (bits_of_bytes bytes)) % 8) ≡ true
  pub is : read_card bytes ≡ read (card_at n m (bits_of_bytes bytes))

pub rest_opened : (n m : ℕ) (bits : List ℕ) → rest_at n m bits ≡ cond (leb (bit_count n m bits) (length bits)) (closed (card_at n m bits) (drop (bit_count n m bits) bits)) (fault Short)
unfolding rest_at
rest_opened n m bits = refl

pub closed_opened : (k : Card) (bits : List ℕ) → closed k bits ≡ cond (all_zero (take (length bits % 8) bits)) (cond (eqb (length bits) (length bits % 8)) (read k) (fault LeftOver)) (fault Padding)
unfolding closed
closed_opened k bits = refl

module _ (bytes : List ℕ) (head : CardHead) (e : answer_of (read_card bytes) ≡ Ok head) where
  pub found_at : Found bytes (field_at 5 6 (bits_of_bytes bytes)) (field_at 11 6 (bits_of_bytes bytes))
  found_at =
      let bits = bits_of_bytes bytes in
      let n' = field_at 5 6 bits in
      let m' = field_at 11 6 bits in
      let total = bit_count n' m' bits in
      let s1 = met head (leb 4 (length bits)) _ Short (rw (card_by_places bytes) at e) in
      let s2 = met head (eqb (field_at 0 4 bits) 1) _ Edition s1.goes_on in
      let s3 = met head (leb 11 (length bits)) _ Short s2.goes_on in
      let s4 = met head (leb n' 32) _ Large s3.goes_on in
      let s5 = met head (leb 17 (length bits)) _ Short s4.goes_on in
      let s6 = met head (leb m' 32) _ Large s5.goes_on in
      let s7 = met head (leb total (length bits)) _ Short (rw (rest_opened n' m' bits) at s6.goes_on) in
      let s8 = met head (all_zero (take (length (drop total bits) % 8) (drop total bits))) _ Padding (rw (closed_opened (card_at n' m' bits) (drop total bits)) at s7.goes_on) in
      let s9 = met head (eqb (length (drop total bits)) (length (drop total bits) % 8)) (read (card_at n' m' bits)) LeftOver s8.goes_on in
      record {
        edition = eqb-true (field_at 0 4 bits) 1 s2.holds;
        n_is = refl;
        n_most = leb-true n' 32 s4.holds;
        m_is = refl;
        m_most = leb-true m' 32 s6.holds;
        inside = leb-true total (length bits) s7.holds;
        zeros = s8.holds;
        none_left = s9.holds;
        is = card_by_places bytes ∙ s1.same ∙ s2.same ∙ s3.same ∙ s4.same ∙ s5.same ∙ s6.same ∙ rest_opened n' m' bits ∙ s7.same ∙ closed_opened (card_at n' m' bits) (drop total bits) ∙ s8.same ∙ s9.same;
      }

  -- the head is that of the card that stands there
  pub head_is : head ≡ head_of (card_at (field_at 5 6 (bits_of_bytes bytes)) (field_at 11 6 (bits_of_bytes bytes)) (bits_of_bytes bytes))
  head_is = let s = rw found_at.is at e in cc

  pub flag_is : eqb (field_at 4 1 (bits_of_bytes bytes)) 1 ≡ is_packed head.storage
  unfolding card_at
  flag_is = sym (flag_of_storage head.storage (eqb (field_at 4 1 (bits_of_bytes bytes)) 1) (ap (λ (h : CardHead). h.storage) head_is))

  pub n_is : field_at 5 6 (bits_of_bytes bytes) ≡ head.cols.0
  unfolding card_at
  n_is = sym (ap (λ (h : CardHead). h.cols.0) head_is)

  pub m_is : field_at 11 6 (bits_of_bytes bytes) ≡ head.rows.0
  unfolding card_at
  m_is = sym (ap (λ (h : CardHead). h.rows.0) head_is)

  pub count_is : field_at 17 6 (bits_of_bytes bytes) ≡ head.words
  unfolding card_at
  count_is = sym (ap (λ (h : CardHead). h.words) head_is ∙ fields_length (field_at 17 6 (bits_of_bytes bytes)) 23 16 (bits_of_bytes bytes))

  pub bounds : Bounds bytes head
  unfolding bit_count
  bounds =
      record {
        words_most = omega (arith, count_is, field_below 17 6 (bits_of_bytes bytes) (bytes_binary bytes));
        rows_most = omega (arith, m_is, found_at.m_most);
        cols_most = omega (arith, n_is, found_at.n_most);
        inside = rw (← count_is, ← flag_is, ← n_is, ← m_is, ← bits_length bytes) found_at.inside;
      }

  pub words_are : (words : List ℕ) → words_after (read_card bytes) words ≡ fields_at head.words 23 16 (bits_of_bytes bytes) ++ drop head.words words
  unfolding card_at
  words_are words = rw (found_at.is, fields_length (field_at 17 6 (bits_of_bytes bytes)) 23 16 (bits_of_bytes bytes), count_is)

  pub numbers_are : (numbers : List ℕ)
      → numbers_after (read_card bytes) numbers
      ≡ fields_at (number_count (is_packed head.storage) head.cols.0 head.rows.0) (23 + 16 * head.words + 20 + 7) 64 (bits_of_bytes bytes) ++ drop (number_count (is_packed head.storage) head.cols.0 head.rows.0) numbers
  unfolding card_at
  numbers_are numbers =
      rw (found_at.is, flag_is, n_is, m_is, count_is, fields_length (number_count (is_packed head.storage) head.cols.0 head.rows.0) (23 + 16 * head.words + 20 + 7) 64 (bits_of_bytes bytes))

pub bounds_if_read : (bytes : List ℕ) (r : Result CardHead Fault) → r ≡ answer_of (read_card bytes) → IfOk r (λ head. Bounds bytes head)
bounds_if_read bytes (Ok head) e = bounds bytes head (sym e)
bounds_if_read bytes (Err f) e = tt
