-- What a reader and a writer promise each other, and that the writer's outcome is one thing.
use Prim.Native.Nat.{ℕ, ◌+◌, ◌*◌, ◌<◌}
use native.Mathlib.Omega.{arith}
use mathlib.Core.Path.{◌≡◌, refl, sym, ap, subst, ◌∙◌}
use mathlib.Core.Bool.{Bool, true, false, cond}
use mathlib.Core.List.{List}
use lib.Dec.{leb, eqb}
use lib.ListN.{length, take}
use lib.Seq.{length-take-le}
use borrow.Author.Tests.{eqb-true, eqb-false, le-leb, lt-ltb, eq-eqb}
use Rattle.std.specs.Prelude.{Option}
use Rattle.card.specs.Card.{bits_of_bytes, Card, read, read_card, number_count, bytes_for, card_bits, written_card}
use Rattle.card.specs.Fields.{field_at, fields_at, bit_count, card_at}
use Rattle.card.specs.Outcome.{answer_of, head_of}
use Rattle.card_writer.specs.Outcome.{is_written, WriteOutcome}
use Rattle.card_writer.specs.RoundTrip.{AreBytes, Fits}
use Rattle.bits.proofs.Bits.{bits_length}
use Rattle.card.proofs.Bits.{fields_length}
use Rattle.card.proofs.Binary.{bytes_binary, field_below, fields_below}
use Rattle.card.proofs.Found.{Found, found_at}
use Rattle.card_writer.proofs.Back.{Says, bits_said, same_bytes, bytes_back, cut_same, bytes_needed}
use Rattle.card_writer.proofs.Forth.{read_again}
use Rattle.card_writer.proofs.Writing.{written_is, written_length}

-- ---- any two outcomes that a contract allows coincide

pub any_two_writings_coincide : {k : Card} {bytes : List ℕ} {a b : Option ℕ} {x y : List ℕ} → WriteOutcome k bytes a x → WriteOutcome k bytes b y → (a ≡ b) × (x ≡ y)
any_two_writings_coincide p q = (p.answered ∙ sym q.answered, p.bytes_left ∙ sym q.bytes_left)

-- ---- "Any card that is read, written back by a writer you add, gives the same bytes."

-- a flag of one bit
one_bit : (f : ℕ) → f < 2 → cond (eqb f 1) 1 0 ≡ f
one_bit f h = go (eqb f 1) refl
  where
    go : (t : Bool) → eqb f 1 ≡ t → cond (eqb f 1) 1 0 ≡ f
    go true e = rw e (sym (eqb-true f 1 e))
    go false e = rw e (zero_is (eqb-false f 1 e))
      where
        zero_is : (f ≡ 1 → ⊥) → 0 ≡ f
        zero_is g = omega arith

module _ (bytes : List ℕ) (n m : ℕ) (found : Found bytes n m) where
  said : Says (bits_of_bytes bytes) (card_at n m (bits_of_bytes bytes))
  unfolding card_at bit_count
  said =
      let bits = bits_of_bytes bytes in
      let count : length (fields_at (field_at 17 6 bits) 23 16 bits) ≡ field_at 17 6 bits = fields_length (field_at 17 6 bits) 23 16 bits in
      let numbers = fields_length (number_count (eqb (field_at 4 1 bits) 1) n m) (23 + 16 * field_at 17 6 bits + 20 + 7) 64 bits in
      record {
        edition = sym found.edition;
        flag = one_bit (field_at 4 1 bits) (field_below 4 1 bits (bytes_binary bytes));
        n_said = found.n_is;
        m_said = found.m_is;
        count_said = count;
        words_said = rw count;
        max_iter_said = rw count;
        sweep_limit_said = rw count;
        numbers_said = rw (count, numbers);
        inside = rw (count, numbers) found.inside;
      }

  total_is : 23 + 16 * length (card_at n m (bits_of_bytes bytes)).words + 20 + 7 + 64 * length (card_at n m (bits_of_bytes bytes)).numbers ≡ bit_count n m (bits_of_bytes bytes)
  unfolding card_at bit_count
  total_is =
      let bits = bits_of_bytes bytes in
      rw (fields_length (field_at 17 6 bits) 23 16 bits, fields_length (number_count (eqb (field_at 4 1 bits) 1) n m) (23 + 16 * field_at 17 6 bits + 20 + 7) 64 bits)

  bits_are : card_bits (card_at n m (bits_of_bytes bytes)) ≡ take (bit_count n m (bits_of_bytes bytes)) (bits_of_bytes bytes)
  bits_are = rw total_is at (bits_said (bits_of_bytes bytes) (card_at n m (bits_of_bytes bytes)) (bytes_binary bytes) said)

  same_card : AreBytes bytes → written_card (card_at n m (bits_of_bytes bytes)) ≡ bytes
  same_card below =
      let bits = bits_of_bytes bytes in
      let total = bit_count n m bits in
      let needed : bytes_for total ≡ length bytes = bytes_needed bits total found.inside found.zeros found.none_left (length bytes) (bits_length bytes) in
      written_is (card_at n m bits)
      ∙ rw (bits_are, length-take-le total bits found.inside, needed) (same_bytes (length bytes) (take total bits) bits (cut_same bits total found.inside found.zeros found.none_left))
      ∙ bytes_back bytes below

pub read_then_written_is_the_same : (bytes : List ℕ) (k : Card) → AreBytes bytes → read_card bytes ≡ read k → written_card k ≡ bytes
read_then_written_is_the_same bytes k below e =
    let found = found_at bytes (head_of k) (ap answer_of e) in
    let n = field_at 5 6 (bits_of_bytes bytes) in
    let m = field_at 11 6 (bits_of_bytes bytes) in
    let is : k ≡ card_at n m (bits_of_bytes bytes) = cc found.is in
    ap written_card is ∙ same_card bytes n m found below

-- ---- and the other way

pub written_then_read_is_the_same : (k : Card) → Fits k → read_card (written_card k) ≡ read k
written_then_read_is_the_same k fits = read_again k fits

-- ---- The writer takes every card that is read, if its buffer is as long as the file.

fits_found : (bytes : List ℕ) (n m : ℕ) → Found bytes n m → Fits (card_at n m (bits_of_bytes bytes))
unfolding card_at
fits_found bytes n m found =
    let bits = bits_of_bytes bytes in
    let b = bytes_binary bytes in
    record {
      n_fits = found.n_most;
      m_fits = found.m_most;
      few_words = rw (fields_length (field_at 17 6 bits) 23 16 bits) (omega (arith, field_below 17 6 bits b));
      words_fit = fields_below (field_at 17 6 bits) 23 16 bits b;
      max_iter_fits = field_below (23 + 16 * field_at 17 6 bits) 20 bits b;
      sweep_limit_fits = field_below (23 + 16 * field_at 17 6 bits + 20) 7 bits b;
      as_many_numbers = fields_length (number_count (eqb (field_at 4 1 bits) 1) n m) (23 + 16 * field_at 17 6 bits + 20 + 7) 64 bits;
      numbers_fit = fields_below (number_count (eqb (field_at 4 1 bits) 1) n m) (23 + 16 * field_at 17 6 bits + 20 + 7) 64 bits b;
    }

pub what_is_read_fits : (bytes : List ℕ) (k : Card) → read_card bytes ≡ read k → Fits k
what_is_read_fits bytes k e =
    let found = found_at bytes (head_of k) (ap answer_of e) in
    let n = field_at 5 6 (bits_of_bytes bytes) in
    let m = field_at 11 6 (bits_of_bytes bytes) in
    let is : k ≡ card_at n m (bits_of_bytes bytes) = cc found.is in
    subst (λ (c : Card). Fits c) (sym is) (fits_found bytes n m found)

pub what_fits_is_written : (k : Card) (space : ℕ) → Fits k → is_written k space ≡ leb (length (written_card k)) space
what_fits_is_written k space fits =
    rw (le-leb k.n 32 fits.n_fits, le-leb k.m 32 fits.m_fits, le-leb (length k.words) 63 fits.few_words, lt-ltb k.max_iter 1048576 fits.max_iter_fits, lt-ltb k.sweep_limit 128 fits.sweep_limit_fits, eq-eqb (length k.numbers) (number_count k.packed k.n k.m) fits.as_many_numbers, written_length k)

pub what_is_read_is_written : (bytes : List ℕ) (k : Card) (space : ℕ) → AreBytes bytes → read_card bytes ≡ read k → is_written k space ≡ leb (length bytes) space
what_is_read_is_written bytes k space below e =
    what_fits_is_written k space (what_is_read_fits bytes k e) ∙ ap (λ (l : List ℕ). leb (length l) space) (read_then_written_is_the_same bytes k below e)
