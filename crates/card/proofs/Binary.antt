-- Laws of lists of bits, each 0 or 1: what they say is below a power of two.
use Prim.Native.Nat.{ℕ, zero, suc, ◌+◌, ◌*◌, ◌/◌, ◌^◌, ◌≤◌, ◌<◌}
use native.Mathlib.Nat.{pow-suc, pow-le-pow_right, mul-le-mul_right, mul_assoc, one-mul, mul-one}
use native.Mathlib.Omega.{arith}
use mathlib.Core.Path.{◌≡◌, refl, ap}
use mathlib.Core.Bool.{Bool, true, false}
use mathlib.Core.List.{List, [], ◌∷◌}
use lib.Dec.{eqb, ltb}
use lib.ListN.{length, take, drop, get_or, length-take, get_or-eq_default}
use lib.Pow.{pow_pos}
use lib.Seq.{get_or-drop, get_or-take}
use borrow.Author.Tests.{ltb-true, ltb-false, ne_eqb}
use Rattle.card.specs.Card.{bits_of_bytes, value_from, value, all_zero}
use Rattle.card.specs.Fields.{field_at, fields_at}
use Rattle.bits.proofs.Bits.{bits_length, byte_bit}

abbrev pub Binary : List ℕ → Type 0
Binary bits = (i : ℕ) → get_or bits i 0 < 2

pub bytes_binary : (bytes : List ℕ) → Binary (bits_of_bytes bytes)
bytes_binary bytes i = go (ltb (i / 8) (length bytes)) refl
  where
    go : (t : Bool) → ltb (i / 8) (length bytes) ≡ t → get_or (bits_of_bytes bytes) i 0 < 2
    go true e = rw (byte_bit bytes i (ltb-true (i / 8) (length bytes) e)) (omega arith)
    go false e =
        let h : length bytes ≤ i / 8 = ltb-false (i / 8) (length bytes) e in
        rw (get_or-eq_default (bits_of_bytes bytes) 0 {n = i} (rw (bits_length bytes) (omega arith))) (omega arith)

pub drop_binary : (at : ℕ) (bits : List ℕ) → Binary bits → Binary (drop at bits)
drop_binary at bits b i = rw (get_or-drop at bits i 0) (b (at + i))

pub take_binary : (w : ℕ) (bits : List ℕ) → Binary bits → Binary (take w bits)
take_binary w bits b i = go (ltb i w) refl
  where
    go : (t : Bool) → ltb i w ≡ t → get_or (take w bits) i 0 < 2
    go true e = rw (get_or-take w bits i 0 (ltb-true i w e)) (b i)
    go false e =
        let h : w ≤ i = ltb-false i w e in
        let l : length (take w bits) ≤ i = rw (length-take w bits) (omega arith) in
        rw (get_or-eq_default (take w bits) 0 {n = i} l) (omega arith)

pub value_below : (v : ℕ) (bits : List ℕ) → Binary bits → value_from v bits < (v + 1) * 2 ^ length bits
unfolding value_from
value_below v [] b = rw (mul-one (v + 1)) (omega arith)
value_below v (x ∷ bits) b =
    let x_below : x < 2 = b 0 in
    let more : (2 * v + x + 1) * 2 ^ length bits ≤ ((v + 1) * 2) * 2 ^ length bits = mul-le-mul_right (2 ^ length bits) (omega arith) in
    let rest : value_from (2 * v + x) bits < (2 * v + x + 1) * 2 ^ length bits = value_below (2 * v + x) bits (λ i. b (suc i)) in
    let whole : ((v + 1) * 2) * 2 ^ length bits ≡ (v + 1) * 2 ^ suc (length bits) = rw (pow-suc 2 (length bits)) (regrouped (v + 1) (2 ^ length bits)) in
    rw whole at (below rest more)
  where
    regrouped : (a p : ℕ) → a * 2 * p ≡ a * (p * 2)
    regrouped a p = rw (mul_assoc a 2 p) (ap (λ (q : ℕ). a * q) (omega arith))

    below : {a b c : ℕ} → a < b → b ≤ c → a < c
    below p q = omega arith

pub field_below : (at w : ℕ) (bits : List ℕ) → Binary bits → field_at at w bits < 2 ^ w
unfolding field_at
field_below at w bits b =
    let l : length (take w (drop at bits)) ≤ w = rw (length-take w (drop at bits)) (omega arith) in
    let v : value (take w (drop at bits)) < 1 * 2 ^ length (take w (drop at bits)) = value_below 0 (take w (drop at bits)) (take_binary w (drop at bits) (drop_binary at bits b)) in
    omega (arith, one-mul (2 ^ length (take w (drop at bits))), pow-le-pow_right {n = 2} (omega arith) {i = length (take w (drop at bits))} {j = w} l)

pub fields_below : (k at w : ℕ) (bits : List ℕ) → Binary bits → (i : ℕ) → get_or (fields_at k at w bits) i 0 < 2 ^ w
unfolding fields_at
fields_below zero at w bits b i = pow_pos w
fields_below (suc k) at w bits b zero = field_below at w bits b
fields_below (suc k) at w bits b (suc i) = fields_below k (at + w) w bits b i

-- ---- all zero, told by the value

pub value_from_lem : (v : ℕ) (bits : List ℕ) → v ≤ value_from v bits
unfolding value_from
value_from_lem v [] = omega arith
value_from_lem v (x ∷ bits) = omega (arith, value_from_lem (2 * v + x) bits)

pub zero-value : (bits : List ℕ) → all_zero bits ≡ eqb (value_from 0 bits) 0
unfolding value_from all_zero
zero-value [] = refl
zero-value (zero ∷ bits) = zero-value bits
zero-value (suc x ∷ bits) =
    let f : eqb (suc x) 0 ≡ false = ne_eqb (suc x) 0 (λ e. omega arith) in
    let g : eqb (value_from (2 * 0 + suc x) bits) 0 ≡ false = ne_eqb (value_from (2 * 0 + suc x) bits) 0 (λ e. omega (arith, value_from_lem (2 * 0 + suc x) bits)) in
    rw (f, g)
