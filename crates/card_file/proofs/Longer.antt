-- A file that is longer than any card has the fault that its first bytes have, of which there are enough.
use Prim.Native.Nat.{ℕ, zero, suc, ◌+◌, ◌*◌, ◌≤◌}
use native.Mathlib.Nat.{mul-suc}
use native.Mathlib.Omega.{arith}
use mathlib.Core.Path.{◌≡◌, refl, sym, ap, ◌∙◌}
use mathlib.Core.Bool.{Bool, true, false, cond}
use mathlib.Core.List.{List, [], ◌∷◌, ◌++◌}
use lib.Dec.{leb, eqb}
use lib.ListN.{length, take, drop, length-drop, take-append-drop}
use lib.Seq.{length-take-le, take-nil, take-append-le, take-append-add, drop-append-le}
use borrow.Author.Tests.{leb-true, le-leb, eqb-true, eqb-false}
use Rattle.card.specs.declared.Fault.{Fault}
use Rattle.card.specs.declared.Fault.TheVariants.{Edition, Large, Padding, LeftOver}
use Rattle.card.specs.Card.{bits_of, bits_of_bytes, Card, Reading, fault, read, read_card, number_count, enough}
use Rattle.card.specs.Fields.{field_at, bit_count, rest_at}
use Rattle.bits.proofs.Bits.{bits_of-length, bits_length}
use Rattle.card.proofs.Binary.{Binary, bytes_binary, take_binary, field_below}
use Rattle.card.proofs.Counts.{number_most}
use Rattle.card.proofs.Places.{by_places, card_by_places}
use Rattle.card.proofs.Rest.{padding, rest_padding, rest_more, total_is}

-- ---- the front of a file

cut_bytes : (n : ℕ) (bytes : List ℕ) → bits_of_bytes (take n bytes) ≡ take (8 * n) (bits_of_bytes bytes)
unfolding bits_of_bytes
cut_bytes zero bytes = refl
cut_bytes (suc n) [] = sym (take-nil (8 * suc n))
cut_bytes (suc n) (b ∷ bytes) =
    let e : 8 * suc n ≡ length (bits_of 8 b) + 8 * n = rw (bits_of-length 8 b, mul-suc 8 n) (omega arith) in
    rw (cut_bytes n bytes) (sym (ap (λ (k : ℕ). take k (bits_of 8 b ++ bits_of_bytes bytes)) e ∙ take-append-add (bits_of 8 b) (bits_of_bytes bytes) (8 * n)))

cut_field : (a w n : ℕ) (bits : List ℕ) → n ≤ length bits → a + w ≤ n → field_at a w (take n bits) ≡ field_at a w bits
unfolding field_at
cut_field a w n bits h g =
    let front : length (take n bits) ≡ n = length-take-le n bits h in
    let inside : w ≤ length (drop a (take n bits)) = rw (length-drop a (take n bits), front) (omega arith) in
    let whole : take w (drop a (take n bits ++ drop n bits)) ≡ take w (drop a (take n bits)) =
    ap (take w) (drop-append-le a (take n bits) (drop n bits) (rw front (omega arith))) ∙ take-append-le w (drop a (take n bits)) (drop n bits) inside in
    let same : take w (drop a bits) ≡ take w (drop a (take n bits)) = rw (take-append-drop n bits) at whole in
    rw same

-- ---- more bytes than any card: the padding, or bytes left over

total_most : (n m : ℕ) (bits : List ℕ) → Binary bits → n ≤ 32 → m ≤ 32 → bit_count n m bits ≤ 70882
total_most n m bits b g h =
    omega (arith, total_is n m bits (field_at 4 1 bits) (field_at 17 6 bits) (number_count (eqb (field_at 4 1 bits) 1) n m) refl refl refl, field_below 17 6 bits b, number_most (eqb (field_at 4 1 bits) 1) n m g h)

rest_long : (n m : ℕ) (bits : List ℕ) (len : ℕ) → Binary bits → length bits ≡ 8 * len → 8862 ≤ len → n ≤ 32 → m ≤ 32
    → rest_at n m bits ≡ cond (eqb (field_at (bit_count n m bits) (padding (bit_count n m bits)) bits) 0) (fault LeftOver) (fault Padding)
rest_long n m bits len b whole long g h = go (eqb (field_at (bit_count n m bits) (padding (bit_count n m bits)) bits) 0) refl (total_most n m bits b g h)
  where
    go : (t : Bool) → eqb (field_at (bit_count n m bits) (padding (bit_count n m bits)) bits) 0 ≡ t → bit_count n m bits ≤ 70882
        → rest_at n m bits ≡ cond (eqb (field_at (bit_count n m bits) (padding (bit_count n m bits)) bits) 0) (fault LeftOver) (fault Padding)
    go true e most = rw e (rest_more n m bits len (bit_count n m bits) whole refl (eqb-true (field_at (bit_count n m bits) (padding (bit_count n m bits)) bits) 0 e) (omega arith))
    go false e most = rw e (rest_padding n m bits len (bit_count n m bits) whole refl (omega arith) (eqb-false (field_at (bit_count n m bits) (padding (bit_count n m bits)) bits) 0 e))

-- ---- both readings

if_small : (n m : ℕ) (x y : Reading) → (n ≤ 32 → m ≤ 32 → x ≡ y) → cond (leb n 32) (cond (leb m 32) x (fault Large)) (fault Large) ≡ cond (leb n 32) (cond (leb m 32) y (fault Large)) (fault Large)
if_small n m x y same = go (leb n 32) (leb m 32) refl refl
  where
    go : (s t : Bool) → leb n 32 ≡ s → leb m 32 ≡ t → cond (leb n 32) (cond (leb m 32) x (fault Large)) (fault Large) ≡ cond (leb n 32) (cond (leb m 32) y (fault Large)) (fault Large)
    go true true d e = rw (d, e) (same (leb-true n 32 d) (leb-true m 32 e))
    go true false d e = rw (d, e)
    go false t d e = rw d

sizes_inside : (bits : List ℕ) → 17 ≤ length bits
    → by_places bits ≡ cond (eqb (field_at 0 4 bits) 1) (cond (leb (field_at 5 6 bits) 32) (cond (leb (field_at 11 6 bits) 32) (rest_at (field_at 5 6 bits) (field_at 11 6 bits) bits) (fault Large)) (fault Large)) (fault Edition)
sizes_inside bits h = rw (le-leb 4 (length bits) (omega arith), le-leb 11 (length bits) (omega arith), le-leb 17 (length bits) h)

module _ (bits : List ℕ) (len : ℕ) (b : Binary bits) (whole : length bits ≡ 8 * len) (long : 8862 ≤ len) (cut_binary : Binary (take 70896 bits)) where
  inside : 70896 ≤ length bits
  inside = rw whole (omega arith)

  front_length : length (take 70896 bits) ≡ 8 * 8862
  front_length = length-take-le 70896 bits inside

  same_field : (a w : ℕ) → a + w ≤ 70896 → field_at a w (take 70896 bits) ≡ field_at a w bits
  same_field a w h = cut_field a w 70896 bits inside h

  same_total : (n m : ℕ) → bit_count n m (take 70896 bits) ≡ bit_count n m bits
  same_total n m =
      sym (total_is n m (take 70896 bits) (field_at 4 1 bits) (field_at 17 6 bits) (number_count (eqb (field_at 4 1 bits) 1) n m) (sym (same_field 4 1 (omega arith))) (sym (same_field 17 6 (omega arith))) refl)
      ∙ total_is n m bits (field_at 4 1 bits) (field_at 17 6 bits) (number_count (eqb (field_at 4 1 bits) 1) n m) refl refl refl

  same_rest : (n m : ℕ) → n ≤ 32 → m ≤ 32 → rest_at n m (take 70896 bits) ≡ rest_at n m bits
  same_rest n m g h =
      let most : bit_count n m bits ≤ 70882 = total_most n m bits b g h in
      let pad : field_at (bit_count n m bits) (padding (bit_count n m bits)) (take 70896 bits) ≡ field_at (bit_count n m bits) (padding (bit_count n m bits)) bits = same_field (bit_count n m bits) (padding (bit_count n m bits)) (omega arith) in
      rest_long n m (take 70896 bits) 8862 cut_binary front_length (omega arith) g h
      ∙ rw (same_total n m, pad) (sym (rest_long n m bits len b whole long g h))

  pub same_reading : by_places (take 70896 bits) ≡ by_places bits
  same_reading =
      let n = field_at 5 6 bits in
      let m = field_at 11 6 bits in
      sizes_inside (take 70896 bits) (rw front_length (omega arith))
      ∙ rw (same_field 0 4 (omega arith), same_field 5 6 (omega arith), same_field 11 6 (omega arith), if_small n m (rest_at n m (take 70896 bits)) (rest_at n m bits) (same_rest n m)) (sym (sizes_inside bits (omega (arith, inside))))

pub read_short_of : (bytes : List ℕ) → enough ≤ length bytes → read_card (take enough bytes) ≡ read_card bytes
read_short_of bytes h =
    let cut : bits_of_bytes (take enough bytes) ≡ take 70896 (bits_of_bytes bytes) = cut_bytes enough bytes in
    let binary : Binary (take 70896 (bits_of_bytes bytes)) = take_binary 70896 (bits_of_bytes bytes) (bytes_binary bytes) in
    card_by_places (take enough bytes)
    ∙ ap (λ (l : List ℕ). by_places l) cut
    ∙ same_reading (bits_of_bytes bytes) (length bytes) (bytes_binary bytes) (bits_length bytes) h binary
    ∙ sym (card_by_places bytes)

-- ---- such a file has a fault

no_card : (f : Fault) (k : Card) → fault f ≡ read k → {A : Type 0} → A
no_card f k e = let z : ◌≡◌ {A = ℕ} 0 1 = cc in absurd (omega arith)

only_faults : (k : Card) (a b c d : Bool) → cond a (cond b (cond c (cond d (fault LeftOver) (fault Padding)) (fault Large)) (fault Large)) (fault Edition) ≡ read k → {A : Type 0} → A
only_faults k true true true true e = no_card LeftOver k e
only_faults k true true true false e = no_card Padding k e
only_faults k true true false d e = no_card Large k e
only_faults k true false c d e = no_card Large k e
only_faults k false b c d e = no_card Edition k e

pub too_long : (bytes : List ℕ) (k : Card) → enough ≤ length bytes → read_card bytes ≡ read k → {A : Type 0} → A
too_long bytes k h e =
    let bits = bits_of_bytes bytes in
    let n = field_at 5 6 bits in
    let m = field_at 11 6 bits in
    let total = bit_count n m bits in
    let told = cond (eqb (field_at total (padding total) bits) 0) (fault LeftOver) (fault Padding) in
    let long : 17 ≤ length bits = rw (bits_length bytes) (omega arith) in
    let rest : cond (leb n 32) (cond (leb m 32) (rest_at n m bits) (fault Large)) (fault Large) ≡ cond (leb n 32) (cond (leb m 32) told (fault Large)) (fault Large) =
    if_small n m (rest_at n m bits) told (rest_long n m bits (length bytes) (bytes_binary bytes) (bits_length bytes) h) in
    only_faults k (eqb (field_at 0 4 bits) 1) (leb n 32) (leb m 32) (eqb (field_at total (padding total) bits) 0) (sym (card_by_places bytes ∙ sizes_inside bits long ∙ rw rest) ∙ e)
