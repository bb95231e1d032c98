-- The reading of a card by the places of its fields.
use Prim.Native.Nat.{ℕ, zero, suc, ◌+◌, ◌-◌, ◌*◌, ◌≤◌, ◌<◌}
use native.Mathlib.Nat.{mul-zero, mul-suc}
use native.Mathlib.Omega.{arith}
use mathlib.Core.Path.{◌≡◌, refl, sym, ◌∙◌}
use mathlib.Core.Bool.{Bool, true, false, cond}
use mathlib.Core.List.{List, ◌∷◌}
use lib.Dec.{leb, eqb}
use lib.ListN.{length, drop, length-drop}
use lib.Seq.{drop-drop}
use borrow.Author.Tests.{leb-true, leb-false, le-leb, lt-leb}
use Rattle.card.specs.declared.Fault.TheVariants.{Short, Edition, Large}
use Rattle.card.specs.Card.{bits_of_bytes, Reading, fault, number_count, taken, taken_all, judged, closed, read_bits, read_card}
use Rattle.card.specs.Fields.{field_at, fields_at, rest_at}

-- ---- a field at a place

same_test : (p q r s : ℕ) → (p ≤ q → r ≤ s) → (q < p → s < r) → leb p q ≡ leb r s
same_test p q r s f g = go (leb p q) refl
  where
    go : (t : Bool) → leb p q ≡ t → leb p q ≡ leb r s
    go true e = e ∙ sym (le-leb r s (f (leb-true p q e)))
    go false e = e ∙ sym (lt-leb r s (g (leb-false p q e)))

pub taken_at : (a w : ℕ) (bits : List ℕ) (next : ℕ → List ℕ → Reading) → 0 < w
    → taken w (drop a bits) next ≡ cond (leb (a + w) (length bits)) (next (field_at a w bits) (drop (a + w) bits)) (fault Short)
unfolding taken field_at
taken_at a w bits next pos =
    let t : leb w (length (drop a bits)) ≡ leb (a + w) (length bits) = rw (length-drop a bits) (same_test w (length bits - a) (a + w) (length bits) (λ h. omega arith) (λ h. omega arith)) in
    rw (t, drop-drop w a bits)

-- the same after a test that the place is inside
pub taken_inside : (a w : ℕ) (bits : List ℕ) (next : ℕ → List ℕ → Reading) → 0 < w
    → cond (leb a (length bits)) (taken w (drop a bits) next) (fault Short) ≡ cond (leb (a + w) (length bits)) (next (field_at a w bits) (drop (a + w) bits)) (fault Short)
taken_inside a w bits next pos = go (leb a (length bits)) refl
  where
    go : (t : Bool) → leb a (length bits) ≡ t → cond (leb a (length bits)) (taken w (drop a bits) next) (fault Short) ≡ cond (leb (a + w) (length bits)) (next (field_at a w bits) (drop (a + w) bits)) (fault Short)
    go true e = rw e (taken_at a w bits next pos)
    go false e =
        let h : length bits < a = leb-false a (length bits) e in
        rw (e, lt-leb (a + w) (length bits) (omega arith))

pub all_inside : (a k w : ℕ) (bits : List ℕ) (next : List ℕ → List ℕ → Reading) → 0 < w
    → cond (leb a (length bits)) (taken_all k w (drop a bits) next) (fault Short) ≡ cond (leb (a + w * k) (length bits)) (next (fields_at k a w bits) (drop (a + w * k) bits)) (fault Short)
unfolding taken_all fields_at
all_inside a zero w bits next pos =
    let e : a + w * 0 ≡ a = omega (arith, mul-zero w) in
    rw e
all_inside a (suc k) w bits next pos =
    let e : a + w * suc k ≡ a + w + w * k = rw (mul-suc w k) (omega arith) in
    rw e
    (taken_inside a w bits (λ v rest. taken_all k w rest (λ vs after. next (v ∷ vs) after)) pos
    ∙ all_inside (a + w) k w bits (λ vs after. next (field_at a w bits ∷ vs) after) pos)

-- ---- what follows each field

abbrev pub after_numbers : ℕ → ℕ → ℕ → List ℕ → ℕ → ℕ → List ℕ → List ℕ → Reading
after_numbers flag n m words max_iter sweep_limit numbers bits =
    closed (record { packed = eqb flag 1; n = n; m = m; words = words; max_iter = max_iter; sweep_limit = sweep_limit; numbers = numbers }) bits

abbrev pub after_sweep_limit : ℕ → ℕ → ℕ → List ℕ → ℕ → ℕ → List ℕ → Reading
after_sweep_limit flag n m words max_iter sweep_limit bits = taken_all (number_count (eqb flag 1) n m) 64 bits (after_numbers flag n m words max_iter sweep_limit)

abbrev pub after_max_iter : ℕ → ℕ → ℕ → List ℕ → ℕ → List ℕ → Reading
after_max_iter flag n m words max_iter bits = taken 7 bits (after_sweep_limit flag n m words max_iter)

abbrev pub after_words : ℕ → ℕ → ℕ → List ℕ → List ℕ → Reading
after_words flag n m words bits = taken 20 bits (after_max_iter flag n m words)

abbrev pub after_count : ℕ → ℕ → ℕ → ℕ → List ℕ → Reading
after_count flag n m count bits = taken_all count 16 bits (after_words flag n m)

abbrev pub after_m : ℕ → ℕ → ℕ → List ℕ → Reading
after_m flag n m bits = judged (leb m 32) Large (taken 6 bits (after_count flag n m))

abbrev pub after_n : ℕ → ℕ → List ℕ → Reading
after_n flag n bits = judged (leb n 32) Large (taken 6 bits (after_m flag n))

abbrev pub after_flag : ℕ → List ℕ → Reading
after_flag flag bits = taken 6 bits (after_n flag)

abbrev pub after_edition : ℕ → List ℕ → Reading
after_edition edition bits = judged (eqb edition 1) Edition (taken 1 bits after_flag)

pub read_from_front : (bits : List ℕ) → read_bits bits ≡ taken 4 bits after_edition
unfolding read_bits
read_from_front bits = refl

-- ---- the whole reading

rest_is : (n m : ℕ) (bits : List ℕ) → taken 6 (drop 17 bits) (after_count (field_at 4 1 bits) n m) ≡ rest_at n m bits
unfolding rest_at
rest_is n m bits =
    let flag = field_at 4 1 bits in
    let count = field_at 17 6 bits in
    let at = 23 + 16 * count in
    let words = fields_at count 23 16 bits in
    taken_at 17 6 bits (after_count flag n m) (omega arith)
    ∙ all_inside 23 count 16 bits (after_words flag n m) (omega arith)
    ∙ taken_inside at 20 bits (after_max_iter flag n m words) (omega arith)
    ∙ taken_inside (at + 20) 7 bits (after_sweep_limit flag n m words (field_at at 20 bits)) (omega arith)
    ∙ all_inside (at + 20 + 7) (number_count (eqb flag 1) n m) 64 bits (after_numbers flag n m words (field_at at 20 bits) (field_at (at + 20) 7 bits)) (omega arith)

abbrev pub by_places : List ℕ → Reading
by_places bits =
    cond (leb 4 (length bits))
    (cond (eqb (field_at 0 4 bits) 1)
    (cond (leb 11 (length bits))
    (cond (leb (field_at 5 6 bits) 32)
    (cond (leb 17 (length bits))
    (cond (leb (field_at 11 6 bits) 32) (rest_at (field_at 5 6 bits) (field_at 11 6 bits) bits) (fault Large))
    (fault Short))
    (fault Large))
    (fault Short))
    (fault Edition))
    (fault Short)

flag_and_n : (bits : List ℕ) → taken 1 (drop 4 bits) after_flag ≡ cond (leb 11 (length bits)) (after_n (field_at 4 1 bits) (field_at 5 6 bits) (drop 11 bits)) (fault Short)
flag_and_n bits = taken_at 4 1 bits after_flag (omega arith) ∙ taken_inside 5 6 bits (after_n (field_at 4 1 bits)) (omega arith)

pub reads_by_places : (bits : List ℕ) → read_bits bits ≡ by_places bits
reads_by_places bits =
    let flag = field_at 4 1 bits in
    let n = field_at 5 6 bits in
    read_from_front bits
    ∙ taken_at 0 4 bits after_edition (omega arith)
    ∙ rw (flag_and_n bits, taken_at 11 6 bits (after_m flag n) (omega arith), rest_is n (field_at 11 6 bits) bits)

pub card_is : (bytes : List ℕ) → read_card bytes ≡ read_bits (bits_of_bytes bytes)
unfolding read_card
card_is bytes = refl

pub card_by_places : (bytes : List ℕ) → read_card bytes ≡ by_places (bits_of_bytes bytes)
card_by_places bytes = card_is bytes ∙ reads_by_places (bits_of_bytes bytes)
