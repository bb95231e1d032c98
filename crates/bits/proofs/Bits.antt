-- Laws of bits: how many there are, and which one stands at a place.
use Prim.Native.Nat.{ℕ, zero, suc, ◌+◌, ◌-◌, ◌*◌, ◌/◌, ◌%◌, ◌^◌, ◌≤◌, ◌<◌}
use native.Mathlib.Nat.{mul-zero, mul-suc, pow-le-pow_right, div-eq_of_lt}
use native.Mathlib.Omega.{arith}
use mathlib.Core.Path.{◌≡◌, refl, sym, ap, ◌∙◌}
use mathlib.Core.List.{List, [], ◌∷◌, ◌++◌}
use lib.ListN.{length, get_or, length-append, get_or-append, get_or-eq_default}
use lib.Seq.{get_or-append-add}
use Rattle.bits.specs.Bits.{bits_of, bits_of_bytes, bits_of_all}

pub bits_of-length : (w v : ℕ) → length (bits_of w v) ≡ w
unfolding bits_of
bits_of-length zero v = refl
bits_of-length (suc w) v = ap suc (bits_of-length w v)

-- bytes are fields of eight bits
pub bytes_are_fields : (bytes : List ℕ) → bits_of_bytes bytes ≡ bits_of_all 8 bytes
unfolding bits_of_bytes bits_of_all
bytes_are_fields [] = refl
bytes_are_fields (b ∷ bytes) = ap (λ (l : List ℕ). bits_of 8 b ++ l) (bytes_are_fields bytes)

pub all_length : (w : ℕ) (vs : List ℕ) → length (bits_of_all w vs) ≡ w * length vs
unfolding bits_of_all
all_length w [] = sym (mul-zero w)
all_length w (v ∷ vs) = rw (length-append (bits_of w v) (bits_of_all w vs), bits_of-length w v, all_length w vs, mul-suc w (length vs)) (omega arith)

pub bits_length : (bytes : List ℕ) → length (bits_of_bytes bytes) ≡ 8 * length bytes
bits_length bytes = rw (bytes_are_fields bytes) (all_length 8 bytes)

pub bit_of : (w v k : ℕ) → k < w → get_or (bits_of w v) k 0 ≡ v / 2 ^ (w - 1 - k) % 2
unfolding bits_of
bit_of zero v k h = absurd (omega arith)
bit_of (suc w) v zero h =
    let e : suc w - 1 - 0 ≡ w = omega arith in
    rw e
bit_of (suc w) v (suc k) h =
    let e : suc w - 1 - suc k ≡ w - 1 - k = omega arith in
    rw e (bit_of w v k (omega arith))

-- a number below 2 ^ 64 has no bit above its 64th, and no number one past its width
pub bit_of_high : (w v k : ℕ) → k < w → v < 2 ^ 64 → 64 ≤ w - 1 - k → get_or (bits_of w v) k 0 ≡ 0
bit_of_high w v k h below high =
    let most : 2 ^ 64 ≤ 2 ^ (w - 1 - k) = pow-le-pow_right {n = 2} (omega arith) {i = 64} {j = w - 1 - k} high in
    let none : v / 2 ^ (w - 1 - k) ≡ 0 = div-eq_of_lt (omega arith) in
    rw (bit_of w v k h, none)

pub bit_of_past : (w v k : ℕ) → w ≤ k → get_or (bits_of w v) k 0 ≡ 0
bit_of_past w v k h = get_or-eq_default (bits_of w v) 0 {n = k} (rw (bits_of-length w v) h)

pub all_bit : (w : ℕ) (vs : List ℕ) (i p : ℕ) → i < length vs → p < w → get_or (bits_of_all w vs) (w * i + p) 0 ≡ get_or vs i 0 / 2 ^ (w - 1 - p) % 2
unfolding bits_of_all
all_bit w [] i p h b = absurd (omega arith)
all_bit w (v ∷ vs) zero p h b =
    let e : w * 0 + p ≡ p = omega (arith, mul-zero w) in
    rw (e, get_or-append (bits_of w v) (bits_of_all w vs) 0 p (rw (bits_of-length w v) b)) (bit_of w v p b)
all_bit w (v ∷ vs) (suc i) p h b =
    let e : w * suc i + p ≡ length (bits_of w v) + (w * i + p) = rw (bits_of-length w v, mul-suc w i) (omega arith) in
    rw (e, get_or-append-add (bits_of w v) (bits_of_all w vs) (w * i + p) 0) (all_bit w vs i p (omega arith) b)

pub byte_bit : (bytes : List ℕ) (at : ℕ) → at / 8 < length bytes → get_or (bits_of_bytes bytes) at 0 ≡ get_or bytes (at / 8) 0 / 2 ^ (7 - at % 8) % 2
byte_bit bytes at h =
    let e : 8 * (at / 8) + at % 8 ≡ at = omega arith in
    let l : get_or (bits_of_all 8 bytes) (8 * (at / 8) + at % 8) 0 ≡ get_or bytes (at / 8) 0 / 2 ^ (7 - at % 8) % 2 = all_bit 8 bytes (at / 8) (at % 8) h (omega arith) in
    rw (bytes_are_fields bytes) (ap (λ (k : ℕ). get_or (bits_of_all 8 bytes) k 0) (sym e) ∙ l)

pub bit_past : (bytes : List ℕ) (at : ℕ) → length bytes ≤ at / 8 → get_or (bits_of_bytes bytes) at 0 ≡ 0
bit_past bytes at h = get_or-eq_default (bits_of_bytes bytes) 0 {n = at} (rw (bits_length bytes) (omega arith))
