-- The root by bit patterns: what a pattern's root is in whole numbers, and which pattern the answer has. Assumes nothing.
use Prim.Native.Nat.{ℕ, zero, suc, ◌+◌, ◌-◌, ◌*◌, ◌/◌, ◌%◌, ◌^◌, ◌≤◌, ◌<◌}
use native.Mathlib.Nat.{lt_of_not-le, not-le_of_lt, lt_of_le_of_lt, mul-le-mul_right, le_trans, le_of_eq, lt_of_lt_of_le, lt_irrefl, mul-one, one-mul, zero-mul, mul_assoc, mul_right_comm, mul-pos, mul-div_cancel, div-lt_iff_lt-mul, pow-suc, zero-lt-suc}
use native.Mathlib.Omega.{arith}
use mathlib.Core.Path.{◌≡◌, refl, sym, ap, ◌∙◌, subst}
use mathlib.Core.Bool.{Bool, true, false, not, cond}
use borrow.Author.Tests.{lt-leb, ne_eqb, lt-ltb}
use lib.Dec.{T, leb, eqb, nltb→le}
use lib.Arith.{le→nltb}
use lib.Count.{count_trailing_zeros, under}
use lib.Pow.{pow_pos, pow_mono, pow-add, shl_lt}
use lib.Ieee as Ieee
use lib.Ieee.{Float, is_nan, nan_bits, to_bits, fits, nan, inf, fin, binary64, up, down, minus, odd, units, of_fields, of_bits}
use lib.Ieee.Bits.{of_bits-to_bits, nan_bits_is, nan_bits_above}
use lib.Ieee.Exact.{HasValue, odd_sign}
use lib.Ieee.Fits.{down_pos}
use Rattle.rules.specs.Root.{root_of_units, root}
use Rattle.rules.proofs.Root.{NearestRoot, root_of_shifted}

-- ---- which patterns are a NaN's

pub no_nan_pattern : (b : ℕ) → b % 2 ^ 63 ≤ 2047 * 2 ^ 52 → T (not (nan_bits binary64 b))
no_nan_pattern b h = subst (λ (t : Bool). T (not t)) (sym (nan_bits_above binary64 b)) (le→nltb (2047 * 2 ^ 52) (b % 2 ^ 63) h)

pub pattern_of_no_nan : (x : Float) → T (fits binary64 x) → T (not (is_nan x)) → to_bits binary64 x % 2 ^ 63 ≤ 2047 * 2 ^ 52
pattern_of_no_nan x good h =
    let b = to_bits binary64 x in
    nltb→le (2047 * 2 ^ 52) (b % 2 ^ 63) (subst (λ (t : Bool). T (not t)) (sym (ap is_nan (of_bits-to_bits binary64 x good)) ∙ sym (nan_bits_is binary64 b) ∙ nan_bits_above binary64 b) h)

pub equal_to_itself : (x : Float) → Ieee.eq x x ≡ true → T (not (is_nan x))
unfolding Ieee.eq is_nan
equal_to_itself nan e = subst T (sym e) tt
equal_to_itself (inf s) e = tt
equal_to_itself (fin s m d) e = tt

-- ---- a pattern's value

fields_normal : (x t : ℕ) → suc x < 2047 → of_fields binary64 false (suc x) t ≡ odd 53 false (2 ^ 52 + t) x 1074
unfolding of_fields
fields_normal x t h = ap (λ (b : Bool). cond b (cond (eqb t 0) (inf false) nan) (odd 53 false (2 ^ 52 + t) x 1074)) (ne_eqb (suc x) 2047 (λ e. omega arith))

fields_low : (t : ℕ) → of_fields binary64 false 0 t ≡ odd 53 false t 0 1074
unfolding of_fields
fields_low t = refl

of_bits_is : (b : ℕ) → of_bits binary64 b ≡ of_fields binary64 (leb (2 ^ 63) b) (b % 2 ^ 63 / 2 ^ 52) (b % 2 ^ 52)
unfolding of_bits
of_bits_is b = refl

fields_are : (b j : ℕ) → b < 2 ^ 63 → b / 2 ^ 52 ≡ j → of_bits binary64 b ≡ of_fields binary64 false j (b % 2 ^ 52)
fields_are b j h e =
    of_bits_is b
    ∙ ap (λ (s : Bool). of_fields binary64 s (b % 2 ^ 63 / 2 ^ 52) (b % 2 ^ 52)) (lt-leb (2 ^ 63) b h)
    ∙ ap (λ (x : ℕ). of_fields binary64 false x (b % 2 ^ 52)) (field b h ∙ e)
  where
    field : (b : ℕ) → b < 2 ^ 63 → b % 2 ^ 63 / 2 ^ 52 ≡ b / 2 ^ 52
    field b h = omega arith

normal_value : (b : ℕ) → 2 ^ 52 ≤ b → b < 2047 * 2 ^ 52 → of_bits binary64 b ≡ odd 53 false (2 ^ 52 + b % 2 ^ 52) (b / 2 ^ 52 - 1) 1074
normal_value b lo hi = fields_are b (suc (b / 2 ^ 52 - 1)) (omega arith) (omega arith) ∙ fields_normal (b / 2 ^ 52 - 1) (b % 2 ^ 52) (omega arith)

low_value : (b : ℕ) → b < 2 ^ 52 → of_bits binary64 b ≡ odd 53 false b 0 1074
low_value b h = fields_are b 0 (omega arith) (omega arith) ∙ fields_low (b % 2 ^ 52) ∙ ap (λ (t : ℕ). odd 53 false t 0 1074) (small b h)
  where
    small : (b : ℕ) → b < 2 ^ 52 → b % 2 ^ 52 ≡ b
    small b h = omega arith

-- ---- the answer's pattern

-- a number below 2 ^ d has its lowest set digit among the d lowest
trailing_more : (d q : ℕ) → 0 < q → q < 2 ^ d → count_trailing_zeros (suc d) q ≡ count_trailing_zeros d q
unfolding count_trailing_zeros
trailing_more zero q p h = absurd (lt_irrefl 0 (lt_of_lt_of_le p (below_one q h)))
  where
    below_one : (q : ℕ) → q < 1 → q ≤ 0
    below_one q h = omega arith
trailing_more (suc d) q p h = go (q % 2) refl (trailing_more d (q / 2))
  where
    half_lt : q / 2 < 2 ^ d
    half_lt = (div-lt_iff_lt-mul (zero-lt-suc 1)).1 (subst (λ (x : ℕ). q < x) (pow-suc 2 d) h)

    half_pos : q % 2 ≡ 0 → 0 < q / 2
    half_pos e = omega arith

    go : (r : ℕ) → q % 2 ≡ r → (0 < q / 2 → q / 2 < 2 ^ d → count_trailing_zeros (suc d) (q / 2) ≡ count_trailing_zeros d (q / 2))
        → under r (count_trailing_zeros (suc d) (q / 2)) ≡ under r (count_trailing_zeros d (q / 2))
    go zero e ih = ap suc (ih (half_pos e) half_lt)
    go (suc r) e ih = refl

odd_more : (q k : ℕ) → 0 < q → q < 2 ^ 53 → odd 54 false q k 1074 ≡ odd 53 false q k 1074
unfolding odd
odd_more zero k p h = absurd (lt_irrefl 0 p)
odd_more (suc q) k p h = ap (λ (t : ℕ). fin false (suc q / 2 ^ t) (minus (k + t) 1074)) (trailing_more 53 (suc q) p h)

units_odd : (q k : ℕ) → q * 2 ^ k < 2 ^ 2098 → units binary64 false q k ≡ odd 54 false q k 1074
unfolding units
units_odd q k h = ap (λ (b : Bool). cond b (odd 54 false q k 1074) (inf false)) (lt-ltb (q * 2 ^ k) (2 ^ 2098) h)

-- q of the format's digits, k places above the least value: the exponent's field is k + 1, and the digits are those below the leading one
units_pattern : (q k : ℕ) → 2 ^ 52 ≤ q → q < 2 ^ 53 → k ≤ 2045 → units binary64 false q k ≡ of_bits binary64 (k * 2 ^ 52 + q)
units_pattern q k lo hi le =
    let b = k * 2 ^ 52 + q in
    units_odd q k (lt_of_lt_of_le (shl_lt 53 k hi) (pow_mono (room k le)))
    ∙ odd_more q k (le_trans (pow_pos 52) lo) hi
    ∙ ap (λ (x : ℕ). odd 53 false x k 1074) (digits q k lo hi)
    ∙ ap (λ (x : ℕ). odd 53 false (2 ^ 52 + b % 2 ^ 52) x 1074) (place q k lo hi)
    ∙ sym (normal_value b (omega arith) (omega arith))
  where
    room : (k : ℕ) → k ≤ 2045 → 53 + k ≤ 2098
    room k h = omega arith

    digits : (q k : ℕ) → 2 ^ 52 ≤ q → q < 2 ^ 53 → q ≡ 2 ^ 52 + (k * 2 ^ 52 + q) % 2 ^ 52
    digits q k lo hi = omega arith

    place : (q k : ℕ) → 2 ^ 52 ≤ q → q < 2 ^ 53 → k ≡ (k * 2 ^ 52 + q) / 2 ^ 52 - 1
    place q k lo hi = omega arith

-- The root of m * 2 ^ 52 * 4 ^ k squares of the least value has the pattern k * 2 ^ 52 + q, for the q that is nearest to √(m * 2 ^ 52).
pub root-pattern : (q m k : ℕ) → 2 ^ 52 ≤ q → q < 2 ^ 53 → k ≤ 2045 → 2 ^ 52 ≤ m → m < 2 ^ 54 → NearestRoot q (m * 2 ^ 52)
    → root_of_units binary64 (m * 2 ^ 52 * (2 ^ k * 2 ^ k)) ≡ of_bits binary64 (k * 2 ^ 52 + q)
root-pattern q m k lo hi le m_lo m_hi near = root_of_shifted q (m * 2 ^ 52) k (omega arith) (omega arith) near ∙ units_pattern q k lo hi le

-- ---- the root of a pattern

pub root_of_value : (x : Float) (a : ℕ) → 0 < a → HasValue x false a (2 ^ 1074) → root binary64 x ≡ root_of_units binary64 (a * 2 ^ 1074)
unfolding root
root_of_value nan a p h = absurd h
root_of_value (inf s) a p h = absurd h
root_of_value (fin s zero e) a p h =
    absurd (lt_irrefl 0 (subst (λ (x : ℕ). 0 < x) (sym h.1 ∙ ap (λ (x : ℕ). x * 2 ^ 1074) (zero-mul (up e)) ∙ zero-mul (2 ^ 1074)) (mul-pos p (down_pos e))))
root_of_value (fin true (suc m) e) a p h = absurd (subst T h.0 tt)
root_of_value (fin false (suc m) e) a p h =
    ap (root_of_units binary64) (ap (λ (x : ℕ). x / down e) (sym (mul_assoc (suc m * up e) (2 ^ 1074) (2 ^ 1074)) ∙ ap (λ (x : ℕ). x * 2 ^ 1074) h.1 ∙ mul_right_comm a (down e) (2 ^ 1074)) ∙ mul-div_cancel (a * 2 ^ 1074) (down_pos e))

pub root_of_low : (b : ℕ) → 0 < b → b < 2 ^ 52 → root binary64 (of_bits binary64 b) ≡ root_of_units binary64 (b * 2 ^ 1074)
root_of_low b p h =
    ap (root binary64) (low_value b h)
    ∙ root_of_value (odd 53 false b 0 1074) b p (subst (λ (a : ℕ). HasValue (odd 53 false b 0 1074) false a (2 ^ 1074)) (mul-one b) (odd_sign 53 false b 0 1074))

pub root_of_normal : (b : ℕ) → 2 ^ 52 ≤ b → b < 2047 * 2 ^ 52 → root binary64 (of_bits binary64 b) ≡ root_of_units binary64 ((2 ^ 52 + b % 2 ^ 52) * 2 ^ (b / 2 ^ 52 + 1073))
root_of_normal b lo hi =
    let m = 2 ^ 52 + b % 2 ^ 52 in
    let j = b / 2 ^ 52 - 1 in
    ap (root binary64) (normal_value b lo hi)
    ∙ root_of_value (odd 53 false m j 1074) (m * 2 ^ j) (mul-pos (above (b % 2 ^ 52)) (pow_pos j)) (odd_sign 53 false m j 1074)
    ∙ ap (root_of_units binary64) (mul_assoc m (2 ^ j) (2 ^ 1074) ∙ ap (λ (x : ℕ). m * x) (sym (pow-add 2 j 1074) ∙ ap (λ (x : ℕ). 2 ^ x) (place b lo)))
  where
    above : (t : ℕ) → 0 < 2 ^ 52 + t
    above t = omega arith

    place : (b : ℕ) → 2 ^ 52 ≤ b → b / 2 ^ 52 - 1 + 1074 ≡ b / 2 ^ 52 + 1073
    place b lo = omega arith

-- an even number of places is left for the root: of e places one goes to the digits where e is odd, 52 make the root's digits, and 2 * k are left
one_or_two : (r : ℕ) → r < 2 → 2 ^ r ≡ 1 + r
one_or_two zero h = refl
one_or_two (suc zero) h = refl
one_or_two (suc (suc r)) h = absurd (no r h)
  where
    no : (r : ℕ) → suc (suc r) < 2 → ⊥
    no r h = omega arith

pub even_places : (m e : ℕ) → 52 ≤ e → m * 2 ^ e ≡ m * (1 + e % 2) * 2 ^ 52 * (2 ^ (e / 2 - 26) * 2 ^ (e / 2 - 26))
even_places m e h =
    let k = e / 2 - 26 in
    let r = e % 2 in
    ap (λ (x : ℕ). m * 2 ^ x) (parts e h)
    ∙ ap (λ (x : ℕ). m * x) (pow-add 2 (r + 52) (k + k) ∙ ap (λ (x : ℕ). x * 2 ^ (k + k)) (pow-add 2 r 52) ∙ ap (λ (x : ℕ). 2 ^ r * 2 ^ 52 * x) (pow-add 2 k k))
    ∙ sym (mul_assoc m (2 ^ r * 2 ^ 52) (2 ^ k * 2 ^ k))
    ∙ ap (λ (x : ℕ). x * (2 ^ k * 2 ^ k)) (sym (mul_assoc m (2 ^ r) (2 ^ 52)) ∙ ap (λ (x : ℕ). m * x * 2 ^ 52) (one_or_two r (below_two e)))
  where
    parts : (e : ℕ) → 52 ≤ e → e ≡ e % 2 + 52 + (e / 2 - 26 + (e / 2 - 26))
    parts e h = omega arith

    below_two : (e : ℕ) → e % 2 < 2
    below_two e = omega arith

-- the digits moved up by one place or none: an even number where they are 54
pub moved : (m e : ℕ) → 2 ^ 52 ≤ m → m < 2 ^ 53 → (2 ^ 52 ≤ m * (1 + e % 2)) × (m * (1 + e % 2) + 1 < 2 ^ 54)
moved m e lo hi = go (e % 2) (below_two e)
  where
    below_two : (e : ℕ) → e % 2 < 2
    below_two e = omega arith

    no : (r : ℕ) → suc (suc r) < 2 → ⊥
    no r h = omega arith

    go : (r : ℕ) → r < 2 → (2 ^ 52 ≤ m * (1 + r)) × (m * (1 + r) + 1 < 2 ^ 54)
    go zero h = (omega arith, omega arith)
    go (suc zero) h = (omega arith, omega arith)
    go (suc (suc r)) h = absurd (no r h)

-- how far digits of which there are at most 53 can have been moved up from the least value
pub places_left : (b t e : ℕ) → 0 < b → t < 2 ^ 53 → t * 2 ^ e ≡ b * 2 ^ 1074 → 1022 ≤ e
places_left b t e p h same = back e (lt_of_not-le (λ (g : 53 + e ≤ 1074). not-le_of_lt short (pow_mono g)))
  where
    short : 2 ^ 1074 < 2 ^ (53 + e)
    short = lt_of_le_of_lt (le_trans (le_of_eq (sym (one-mul (2 ^ 1074)))) (mul-le-mul_right (2 ^ 1074) p)) (subst (λ (x : ℕ). x < 2 ^ (53 + e)) same (shl_lt 53 e h))

    back : (e : ℕ) → 1074 < 53 + e → 1022 ≤ e
    back e h = omega arith
