-- A number and its bits: each says the other.
use Prim.Native.Nat.{ℕ, zero, suc, ◌+◌, ◌*◌, ◌/◌, ◌%◌, ◌^◌, ◌≤◌, ◌<◌}
use native.Mathlib.Nat.{pow-suc, add-mul, mul_assoc, mul-one, one-mul, mul-zero, mul-suc, mod-one, mod-eq_of_lt}
use native.Mathlib.Omega.{arith}
use mathlib.Core.Path.{◌≡◌, refl, sym, ap, ◌∙◌}
use mathlib.Core.List.{List, [], ◌∷◌}
use lib.ListN.{length, take, drop, length-drop}
use lib.Pow.{high, mod-pow-add}
use lib.Seq.{length-take-le, take-add, drop-drop}
use Rattle.card.specs.Card.{bits_of, bits_of_all, value_from, value}
use Rattle.card.specs.Fields.{field_at, fields_at}
use Rattle.card.proofs.Binary.{Binary, value_below, take_binary, drop_binary}

gather : (u d p r : ℕ) → (2 * u + d) * p + r ≡ u * (p * 2) + (d * p + r)
gather u d p r = rw (add-mul (2 * u) d p, mul_assoc 2 u p, ← mul_assoc u p 2) (omega arith)

-- ---- from a number to its bits and back

pub value_of_low_bits : (u w v : ℕ) → value_from u (bits_of w v) ≡ u * 2 ^ w + v % 2 ^ w
unfolding value_from bits_of
value_of_low_bits u zero v = rw (mul-one u, mod-one v) (omega arith)
value_of_low_bits u (suc w) v =
    let e : suc w ≡ 1 + w = omega arith in
    let split : v % 2 ^ suc w ≡ v / 2 ^ w % 2 * 2 ^ w + v % 2 ^ w = ap (λ (k : ℕ). v % 2 ^ k) e ∙ mod-pow-add v 1 w in
    value_of_low_bits (2 * u + v / 2 ^ w % 2) w v ∙ rw (split, pow-suc 2 w) (gather u (v / 2 ^ w % 2) (2 ^ w) (v % 2 ^ w))

pub value-of_bits : (w v : ℕ) → v < 2 ^ w → value (bits_of w v) ≡ v
value-of_bits w v h = value_of_low_bits 0 w v ∙ rw (mod-eq_of_lt {n = v} {m = 2 ^ w} h) (omega arith)

-- ---- from bits to their number and back

value_split : (v : ℕ) (bits : List ℕ) → value_from v bits ≡ v * 2 ^ length bits + value_from 0 bits
unfolding value_from
value_split v [] = rw (mul-one v) (omega arith)
value_split v (x ∷ bits) =
    let p = 2 ^ length bits in
    let r = value_from 0 bits in
    let short : 2 * 0 + x ≡ x = omega arith in
    let rest : value_from (2 * 0 + x) bits ≡ x * p + r = ap (λ (y : ℕ). value_from y bits) short ∙ value_split x bits in
    value_split (2 * v + x) bits ∙ rw (rest, pow-suc 2 (length bits)) (gather v x p r)

pub bits_of_value : (v : ℕ) (bits : List ℕ) → Binary bits → bits_of (length bits) (value_from v bits) ≡ bits
unfolding value_from bits_of
bits_of_value v [] b = refl
bits_of_value v (x ∷ bits) b =
    let x_below : x < 2 = b 0 in
    let below : value_from 0 bits < 2 ^ length bits = rw (one-mul (2 ^ length bits)) at (value_below 0 bits (λ i. b (suc i))) in
    let top : value_from (2 * v + x) bits / 2 ^ length bits ≡ 2 * v + x = rw (value_split (2 * v + x) bits) (high (2 * v + x) (length bits) below) in
    let first : value_from (2 * v + x) bits / 2 ^ length bits % 2 ≡ x = rw top (omega arith) in
    rw (first, bits_of_value (2 * v + x) bits (λ i. b (suc i)))

-- ---- a field, and fields, as bits

pub bits_of_field : (a w : ℕ) (bits : List ℕ) → Binary bits → a + w ≤ length bits → bits_of w (field_at a w bits) ≡ take w (drop a bits)
unfolding field_at
bits_of_field a w bits b h =
    let l : length (take w (drop a bits)) ≡ w = length-take-le w (drop a bits) (rw (length-drop a bits) (omega arith)) in
    ap (λ (k : ℕ). bits_of k (value (take w (drop a bits)))) (sym l) ∙ bits_of_value 0 (take w (drop a bits)) (take_binary w (drop a bits) (drop_binary a bits b))

pub bits_of_fields : (k a w : ℕ) (bits : List ℕ) → Binary bits → a + w * k ≤ length bits → bits_of_all w (fields_at k a w bits) ≡ take (w * k) (drop a bits)
unfolding bits_of_all fields_at
bits_of_fields zero a w bits b h = rw (mul-zero w)
bits_of_fields (suc k) a w bits b h =
    let e : w * suc k ≡ w + w * k = rw (mul-suc w k) (omega arith) in
    let rest : a + w + w * k ≤ length bits = omega arith in
    let first : bits_of w (field_at a w bits) ≡ take w (drop a bits) = bits_of_field a w bits b (omega arith) in
    let others : bits_of_all w (fields_at k (a + w) w bits) ≡ take (w * k) (drop (a + w) bits) = bits_of_fields k (a + w) w bits b rest in
    rw (first, others, e, take-add w (w * k) (drop a bits), drop-drop w a bits)
