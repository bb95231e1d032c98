-- The last judgements: whether all fields are whole, the padding, bytes left over.
use Prim.Native.Nat.{ℕ, ◌+◌, ◌-◌, ◌*◌, ◌%◌, ◌≤◌, ◌<◌}
use native.Mathlib.Omega.{arith}
use mathlib.Core.Path.{◌≡◌, ◌∙◌}
use mathlib.Core.Bool.{Bool, true, false}
use mathlib.Core.List.{List}
use Rattle.std.specs.Prelude.{Ok}
use Rattle.rules.specs.Refusals.{is_packed}
use lib.Dec.{eqb}
use lib.ListN.{length, take, drop, length-drop}
use borrow.Author.Tests.{le-leb, lt-leb, eq-eqb, ne_eqb}
use Rattle.card.specs.Card.{all_zero, Card, fault, read, closed, bytes_for, number_count}
use Rattle.card.specs.Fields.{field_at, bit_count, card_at, rest_at}
use Rattle.rules.specs.declared.Storage.{Storage}
use Rattle.card.specs.Outcome.{storage_of, answer_of}
use Rattle.card.specs.declared.Fault.TheVariants.{Short, Padding, LeftOver}
use Rattle.card.proofs.Bits.{fields_length}
use Rattle.card.proofs.Binary.{zero-value}

-- how wide the padding is after so many bits
abbrev pub padding : ℕ → ℕ
padding total = bytes_for total * 8 - total

-- the padding of a card is a field
module _ (k : Card) (bits : List ℕ) (len total : ℕ) (whole : length bits ≡ 8 * len) (inside : bytes_for total ≤ len) where
  left : length (drop total bits) ≡ 8 * len - total
  left = rw (length-drop total bits, whole)

  width : length (drop total bits) % 8 ≡ padding total
  width = rw left (omega arith)

  pub padding_is : all_zero (take (length (drop total bits) % 8) (drop total bits)) ≡ eqb (field_at total (padding total) bits) 0
  unfolding field_at
  padding_is = rw width (zero-value (take (padding total) (drop total bits)))

  pub none_left : len ≡ bytes_for total → eqb (length (drop total bits)) (length (drop total bits) % 8) ≡ true
  none_left e = eq-eqb (length (drop total bits)) (length (drop total bits) % 8) (rw left (omega arith))

  pub some_left : bytes_for total < len → eqb (length (drop total bits)) (length (drop total bits) % 8) ≡ false
  some_left h = ne_eqb (length (drop total bits)) (length (drop total bits) % 8) (λ e. differs (rw left at e))
    where
      differs : 8 * len - total ≡ (8 * len - total) % 8 → ⊥
      differs e = omega arith

  pub closed_padding : (field_at total (padding total) bits ≡ 0 → ⊥) → closed k (drop total bits) ≡ fault Padding
  unfolding closed
  closed_padding f = rw (padding_is, ne_eqb (field_at total (padding total) bits) 0 f)

  pub closed_more : field_at total (padding total) bits ≡ 0 → bytes_for total < len → closed k (drop total bits) ≡ fault LeftOver
  unfolding closed
  closed_more e f = rw (padding_is, eq-eqb (field_at total (padding total) bits) 0 e, some_left f)

  pub closed-whole : field_at total (padding total) bits ≡ 0 → len ≡ bytes_for total → closed k (drop total bits) ≡ read k
  unfolding closed
  closed-whole e f = rw (padding_is, eq-eqb (field_at total (padding total) bits) 0 e, none_left f)

module _ (n m : ℕ) (bits : List ℕ) (len total : ℕ) (whole : length bits ≡ 8 * len) (is : total ≡ bit_count n m bits) where
  pub rest_short : len < bytes_for total → rest_at n m bits ≡ fault Short
  unfolding rest_at
  rest_short h = rw (← is, lt-leb total (length bits) (rw whole (omega arith)))

  fits : bytes_for total ≤ len → rest_at n m bits ≡ closed (card_at n m bits) (drop total bits)
  unfolding rest_at
  fits h = rw (← is, le-leb total (length bits) (rw whole (omega arith)))

  pub rest_padding : bytes_for total ≤ len → (field_at total (padding total) bits ≡ 0 → ⊥) → rest_at n m bits ≡ fault Padding
  rest_padding h f = fits h ∙ closed_padding (card_at n m bits) bits len total whole h f

  pub rest_more : field_at total (padding total) bits ≡ 0 → bytes_for total < len → rest_at n m bits ≡ fault LeftOver
  rest_more e f = fits (omega arith) ∙ closed_more (card_at n m bits) bits len total whole (omega arith) e f

  pub rest_whole : field_at total (padding total) bits ≡ 0 → len ≡ bytes_for total → rest_at n m bits ≡ read (card_at n m bits)
  rest_whole e f = fits (omega arith) ∙ closed-whole (card_at n m bits) bits len total whole (omega arith) e f

-- ---- what the code has read

pub flag_of_storage : (storage : Storage) (flag : Bool) → storage ≡ storage_of flag → is_packed storage ≡ flag
flag_of_storage storage true e = rw e
flag_of_storage storage false e = rw e

pub total_is : (n m : ℕ) (bits : List ℕ) (flag count numbers : ℕ) → flag ≡ field_at 4 1 bits → count ≡ field_at 17 6 bits → numbers ≡ number_count (eqb flag 1) n m
    → 23 + 16 * count + 20 + 7 + 64 * numbers ≡ bit_count n m bits
unfolding bit_count
total_is n m bits flag count numbers f c k = rw (k, f, c)

pub total_by_storage : (n m : ℕ) (bits : List ℕ) (storage : Storage) (flag count numbers : ℕ) → flag ≡ field_at 4 1 bits → storage ≡ storage_of (eqb flag 1) → count ≡ field_at 17 6 bits
    → numbers ≡ number_count (is_packed storage) n m → 23 + 16 * count + 20 + 7 + 64 * numbers ≡ bit_count n m bits
total_by_storage n m bits storage flag count numbers f s c k = total_is n m bits flag count numbers f c (rw (flag_of_storage storage (eqb flag 1) s) at k)

pub answer_is : (n m : ℕ) (bits : List ℕ) (storage : Storage) (flag count max_iter sweep_limit : ℕ) → flag ≡ field_at 4 1 bits → storage ≡ storage_of (eqb flag 1) → count ≡ field_at 17 6 bits
    → max_iter ≡ field_at (23 + 16 * count) 20 bits → sweep_limit ≡ field_at (23 + 16 * count + 20) 7 bits
    → Ok (record { storage = storage; rows = record { 0 = m }; cols = record { 0 = n }; words = count; max_iter = max_iter; sweep_limit = sweep_limit }) ≡ answer_of (read (card_at n m bits))
unfolding card_at
answer_is n m bits storage flag count max_iter sweep_limit f a c i s = rw (i, s, a, c, f, fields_length (field_at 17 6 bits) 23 16 bits)
