-- A card that is written, read again: the bytes have its bits and a padding of zeros, and each field is read as it was.
use Prim.Native.Nat.{ℕ, zero, suc, ◌+◌, ◌-◌, ◌*◌, ◌/◌, ◌%◌, ◌^◌, ◌≤◌, ◌<◌}
use native.Mathlib.Nat.{mul-suc, mod-eq_of_lt}
use native.Mathlib.Omega.{arith}
use mathlib.Core.Path.{◌≡◌, refl, sym, ap, ◌∙◌}
use mathlib.Core.Bool.{Bool, true, false, cond}
use mathlib.Core.List.{List, [], ◌∷◌, ◌++◌, append_assoc}
use lib.Dec.{ltb, eqb}
use lib.ListN.{length, take, drop, get_or, replicate, length-append, length-replicate, get_or-append, get_or-eq_default}
use lib.Seq.{take_all, take_at, drop_at, drop-drop, get_or-take, get_or-append-add, ext_get_or}
use borrow.Author.Tests.{ltb-true, ltb-false, le-leb, eq-eqb}
use Rattle.card.specs.Card.{bits_of, bits_of_all, bits_of_bytes, all_zero, Card, Reading, fault, read, number_count, taken, taken_all, closed, read_bits, read_card, bytes_for, bytes_of, card_bits, written_card}
use Rattle.card.specs.declared.Fault.TheVariants.{Large}
use Rattle.card.specs.Fields.{field_at}
use Rattle.card_writer.specs.Bytes.{byte_at}
use Rattle.card_writer.specs.RoundTrip.{Fits}
use Rattle.bits.proofs.Bits.{bits_of-length, bits_length, bit_of, byte_bit}
use Rattle.card.proofs.Binary.{Binary, drop_binary}
use Rattle.card_writer.proofs.Bytes.{padded_bit, padded_length, bytes_of-length}
use Rattle.card_writer.proofs.Fronts.{front1, front2, front3, front4, front5, front6, front7, front8, front9, card_is}
use Rattle.card.proofs.Places.{after_edition, after_flag, after_n, after_m, after_count, after_words, after_max_iter, after_sweep_limit, after_numbers, read_from_front, card_is as reading_is}
use Rattle.card_writer.proofs.Values.{value-of_bits, bits_of_field}
use Rattle.card_writer.proofs.Writing.{written_is}

-- ---- a card's bits are bits

append_binary : (xs ys : List ℕ) → Binary xs → Binary ys → Binary (xs ++ ys)
append_binary xs ys p q i = go (ltb i (length xs)) refl
  where
    go : (t : Bool) → ltb i (length xs) ≡ t → get_or (xs ++ ys) i 0 < 2
    go true e = rw (get_or-append xs ys 0 i (ltb-true i (length xs) e)) (p i)
    go false e =
        let h : length xs ≤ i = ltb-false i (length xs) e in
        let at : length xs + (i - length xs) ≡ i = omega arith in
        let same : get_or (xs ++ ys) i 0 ≡ get_or ys (i - length xs) 0 = ap (λ (j : ℕ). get_or (xs ++ ys) j 0) (sym at) ∙ get_or-append-add xs ys (i - length xs) 0 in
        rw same (q (i - length xs))

zeros-at : (n i : ℕ) → ◌≡◌ {A = ℕ} (get_or (replicate n 0) i 0) 0
zeros-at zero i = refl
zeros-at (suc n) zero = refl
zeros-at (suc n) (suc i) = zeros-at n i

zeros_binary : (n : ℕ) → Binary (replicate n 0)
zeros_binary n i = rw (zeros-at n i) (omega arith)

field_binary : (w v : ℕ) → Binary (bits_of w v)
field_binary w v i = go (ltb i w) refl
  where
    go : (t : Bool) → ltb i w ≡ t → get_or (bits_of w v) i 0 < 2
    go true e = rw (bit_of w v i (ltb-true i w e)) (omega arith)
    go false e =
        let h : w ≤ i = ltb-false i w e in
        rw (get_or-eq_default (bits_of w v) 0 {n = i} (rw (bits_of-length w v) h)) (omega arith)

fields_binary : (w : ℕ) (vs : List ℕ) → Binary (bits_of_all w vs)
unfolding bits_of_all
fields_binary w [] = λ i. omega arith
fields_binary w (v ∷ vs) = append_binary (bits_of w v) (bits_of_all w vs) (field_binary w v) (fields_binary w vs)

card_binary : (k : Card) → Binary (card_bits k)
unfolding front1 front2 front3 front4 front5 front6 front7 front8 front9
card_binary k =
    rw (card_is k)
    (append_binary (front8 k) (bits_of_all 64 k.numbers)
    (append_binary (front7 k) (bits_of 7 k.sweep_limit)
    (append_binary (front6 k) (bits_of 20 k.max_iter)
    (append_binary (front5 k) (bits_of_all 16 k.words)
    (append_binary (front4 k) (bits_of 6 (length k.words))
    (append_binary (front3 k) (bits_of 6 k.m)
    (append_binary (front2 k) (bits_of 6 k.n) (append_binary (front1 k) (bits_of 1 (cond k.packed 1 0)) (field_binary 4 1) (field_binary 1 (cond k.packed 1 0))) (field_binary 6 k.n))
    (field_binary 6 k.m))
    (field_binary 6 (length k.words)))
    (fields_binary 16 k.words))
    (field_binary 20 k.max_iter))
    (field_binary 7 k.sweep_limit))
    (fields_binary 64 k.numbers))

-- ---- the bits of the bytes

byte_is : (c : ℕ) (bits : List ℕ) (j : ℕ) → j < c → get_or (bytes_of c bits) j 0 ≡ byte_at bits j
unfolding bytes_of byte_at
byte_is zero bits j h = absurd (omega arith)
byte_is (suc c) bits zero h = refl
byte_is (suc c) bits (suc j) h =
    let e : 8 + 8 * j ≡ 8 * suc j = rw (mul-suc 8 j) (omega arith) in
    let d : drop (8 * j) (drop 8 bits) ≡ drop (8 * suc j) bits = drop-drop (8 * j) 8 bits ∙ ap (λ (n : ℕ). drop n bits) e in
    byte_is c (drop 8 bits) j (omega arith) ∙ ap (λ (l : List ℕ). field_at 0 8 (l ++ replicate 8 0)) d

bit_of_byte : (bits : List ℕ) (j p : ℕ) → Binary bits → p < 8 → byte_at bits j / 2 ^ (7 - p) % 2 ≡ get_or bits (8 * j + p) 0
unfolding byte_at
bit_of_byte bits j p b h =
    let P = drop (8 * j) bits ++ replicate 8 0 in
    let binary : Binary P = append_binary (drop (8 * j) bits) (replicate 8 0) (drop_binary (8 * j) bits b) (zeros_binary 8) in
    let eight : bits_of 8 (field_at 0 8 P) ≡ take 8 P = bits_of_field 0 8 P binary (padded_length bits (8 * j)) in
    sym (bit_of 8 (field_at 0 8 P) p h) ∙ ap (λ (l : List ℕ). get_or l p 0) eight ∙ get_or-take 8 P p 0 h ∙ padded_bit bits (8 * j) p h

module _ (c : ℕ) (bits : List ℕ) (b : Binary bits) (enough : length bits ≤ 8 * c) where
  bytes_length : length (bits_of_bytes (bytes_of c bits)) ≡ 8 * c
  bytes_length = bits_length (bytes_of c bits) ∙ ap (λ (n : ℕ). 8 * n) (bytes_of-length c bits)

  padded : length (bits ++ replicate (8 * c - length bits) 0) ≡ 8 * c
  padded = rw (length-append bits (replicate (8 * c - length bits) 0), length-replicate {A = ℕ} (8 * c - length bits) 0) (omega arith)

  bit_at : (i : ℕ) → i < 8 * c → get_or (bits_of_bytes (bytes_of c bits)) i 0 ≡ get_or bits i 0
  bit_at i h =
      let l : i / 8 < length (bytes_of c bits) = rw (bytes_of-length c bits) (omega arith) in
      let e : 8 * (i / 8) + i % 8 ≡ i = omega arith in
      byte_bit (bytes_of c bits) i l
      ∙ ap (λ (v : ℕ). v / 2 ^ (7 - i % 8) % 2) (byte_is c bits (i / 8) (omega arith))
      ∙ bit_of_byte bits (i / 8) (i % 8) b (omega arith)
      ∙ ap (λ (j : ℕ). get_or bits j 0) e

  pad_at : (i : ℕ) → get_or (bits ++ replicate (8 * c - length bits) 0) i 0 ≡ get_or bits i 0
  pad_at i = go (ltb i (length bits)) refl
    where
      go : (t : Bool) → ltb i (length bits) ≡ t → get_or (bits ++ replicate (8 * c - length bits) 0) i 0 ≡ get_or bits i 0
      go true e = get_or-append bits (replicate (8 * c - length bits) 0) 0 i (ltb-true i (length bits) e)
      go false e =
          let h : length bits ≤ i = ltb-false i (length bits) e in
          let at : length bits + (i - length bits) ≡ i = omega arith in
          ap (λ (j : ℕ). get_or (bits ++ replicate (8 * c - length bits) 0) j 0) (sym at)
          ∙ get_or-append-add bits (replicate (8 * c - length bits) 0) (i - length bits) 0
          ∙ zeros-at (8 * c - length bits) (i - length bits)
          ∙ sym (get_or-eq_default bits 0 {n = i} h)

  bits_of_written : bits_of_bytes (bytes_of c bits) ≡ bits ++ replicate (8 * c - length bits) 0
  bits_of_written =
      ext_get_or 0 (bits_of_bytes (bytes_of c bits)) (bits ++ replicate (8 * c - length bits) 0) (bytes_length ∙ sym padded) (λ i h. bit_at i (rw bytes_length at h) ∙ sym (pad_at i))

-- ---- the reading

taken_on : (w v : ℕ) (rest : List ℕ) (next : ℕ → List ℕ → Reading) → v < 2 ^ w → taken w (bits_of w v ++ rest) next ≡ next v rest
unfolding taken
taken_on w v rest next h =
    let l : w ≤ length (bits_of w v ++ rest) = rw (length-append (bits_of w v) rest, bits_of-length w v) (omega arith) in
    rw (le-leb w (length (bits_of w v ++ rest)) l, take_at (bits_of w v) rest w (bits_of-length w v), drop_at (bits_of w v) rest w (bits_of-length w v), value-of_bits w v h)

all_on : (w : ℕ) (vs rest : List ℕ) (next : List ℕ → List ℕ → Reading) → ((i : ℕ) → get_or vs i 0 < 2 ^ w) → taken_all (length vs) w (bits_of_all w vs ++ rest) next ≡ next vs rest
unfolding taken_all bits_of_all
all_on w [] rest next below = refl
all_on w (v ∷ vs) rest next below =
    ap (λ (l : List ℕ). taken w l (λ u after. taken_all (length vs) w after (λ us end. next (u ∷ us) end))) (append_assoc (bits_of w v) (bits_of_all w vs) rest)
    ∙ taken_on w v (bits_of_all w vs ++ rest) (λ u after. taken_all (length vs) w after (λ us end. next (u ∷ us) end)) (below 0)
    ∙ all_on w vs rest (λ us end. next (v ∷ us) end) (λ i. below (suc i))

zeros_are : (n : ℕ) → all_zero (replicate n 0) ≡ true
unfolding all_zero
zeros_are zero = refl
zeros_are (suc n) = zeros_are n

closed-zeros : (k : Card) (n : ℕ) → n < 8 → closed k (replicate n 0) ≡ read k
unfolding closed
closed-zeros k n h =
    let l : length {A = ℕ} (replicate n 0) ≡ n = length-replicate {A = ℕ} n 0 in
    let short : n % 8 ≡ n = mod-eq_of_lt {n = n} {m = 8} h in
    let all : take {A = ℕ} n (replicate n 0) ≡ replicate n 0 = take_all n (replicate n 0) (rw l (omega arith)) in
    rw (l, short, all, zeros_are n, eq-eqb n n refl)

-- ---- the whole card

one_field : (k : Card) (pad : List ℕ) → card_bits k ++ pad ≡ bits_of 4 1 ++ (bits_of 1 (cond k.packed 1 0) ++ (bits_of 6 k.n ++ (bits_of 6 k.m ++ (bits_of 6 (length k.words) ++ (bits_of_all 16 k.words ++ (bits_of 20 k.max_iter ++ (bits_of 7 k.sweep_limit ++ (bits_of_all 64 k.numbers ++ pad))))))))
unfolding front1 front2 front3 front4 front5 front6 front7 front8 front9
one_field k pad = rw (card_is k) (simp append_assoc)

flag_said : (packed : Bool) → eqb (cond packed 1 0) 1 ≡ packed
flag_said true = refl
flag_said false = refl

flag_below : (packed : Bool) → cond packed 1 0 < 2 ^ 1
flag_below true = omega arith
flag_below false = omega arith

module _ (k : Card) (fits : Fits k) (pad : List ℕ) where
  reads_on : read_bits (card_bits k ++ pad) ≡ closed k pad
  reads_on =
      let f = cond {A = ℕ} k.packed 1 0 in
      let n = k.n in
      let m = k.m in
      let count = length k.words in
      let r8 = bits_of_all 64 k.numbers ++ pad in
      let r7 = bits_of 7 k.sweep_limit ++ r8 in
      let r6 = bits_of 20 k.max_iter ++ r7 in
      let r5 = bits_of_all 16 k.words ++ r6 in
      let r4 = bits_of 6 count ++ r5 in
      let r3 = bits_of 6 m ++ r4 in
      let r2 = bits_of 6 n ++ r3 in
      let r1 = bits_of 1 f ++ r2 in
      let as_many : number_count (eqb f 1) n m ≡ length k.numbers = rw (flag_said k.packed) (sym fits.as_many_numbers) in
      ap read_bits (one_field k pad)
      ∙ read_from_front (bits_of 4 1 ++ r1)
      ∙ taken_on 4 1 r1 after_edition (omega arith)
      ∙ taken_on 1 f r2 after_flag (flag_below k.packed)
      ∙ taken_on 6 n r3 (after_n f) (omega (arith, fits.n_fits))
      ∙ ap (λ (t : Bool). cond t (taken 6 r3 (after_m f n)) (fault Large)) (le-leb n 32 fits.n_fits)
      ∙ taken_on 6 m r4 (after_m f n) (omega (arith, fits.m_fits))
      ∙ ap (λ (t : Bool). cond t (taken 6 r4 (after_count f n m)) (fault Large)) (le-leb m 32 fits.m_fits)
      ∙ taken_on 6 count r5 (after_count f n m) (omega (arith, fits.few_words))
      ∙ all_on 16 k.words r6 (after_words f n m) fits.words_fit
      ∙ taken_on 20 k.max_iter r7 (after_max_iter f n m k.words) fits.max_iter_fits
      ∙ taken_on 7 k.sweep_limit r8 (after_sweep_limit f n m k.words k.max_iter) fits.sweep_limit_fits
      ∙ ap (λ (c : ℕ). taken_all c 64 r8 (after_numbers f n m k.words k.max_iter k.sweep_limit)) as_many
      ∙ all_on 64 k.numbers pad (after_numbers f n m k.words k.max_iter k.sweep_limit) fits.numbers_fit
      ∙ ap (λ (p : Bool). closed (record { packed = p; n = n; m = m; words = k.words; max_iter = k.max_iter; sweep_limit = k.sweep_limit; numbers = k.numbers }) pad) (flag_said k.packed)

pub read_again : (k : Card) → Fits k → read_card (written_card k) ≡ read k
read_again k fits =
    let bits = card_bits k in
    let c = bytes_for (length bits) in
    let pad = 8 * c - length bits in
    ap read_card (written_is k)
    ∙ reading_is (bytes_of c bits)
    ∙ ap read_bits (bits_of_written c bits (card_binary k) (omega arith))
    ∙ reads_on k fits (replicate pad 0)
    ∙ closed-zeros k pad (omega arith)
