-- Laws of the float helpers, in the form of code that tests floats.
use Prim.Native.Nat.{ℕ, zero, suc, ◌+◌, ◌*◌, ◌^◌, ◌<◌}
use native.Mathlib.Nat.{mul-pos, zero-mul}
use native.Mathlib.Omega.{arith}
use lib.IntN.{ℤ, pos, negsuc}
use lib.Pow.{pow-lt}
use borrow.Author.Tests.{lt-ltb, le-ltb, ne_eqb}
use mathlib.Core.Path.{◌≡◌, refl, sym, ◌∙◌, ap}
use mathlib.Core.Bool.{Bool, true, false, not, cond, ◌&&◌, ◌||◌, true≢false, false≢true}
use mathlib.Core.Logic.{◌⊎◌, inl, inr}
use lib.Dec.{T, eqb, eqb_refl, eqb→eq, eqb-suc-zero}
use lib.Ieee.{Float, nan, inf, fin, is_nan, lt, eq, neg, fits, of_bits, binary64, up, down}
use lib.Ieee.Bits.{is_true}
use lib.Ieee.Fits.{up_pos}
use Rattle.rules.specs.Helpers.{is_zero, less, larger, smaller, magnitude}

-- a number, and nothing else, equals itself
pub equals_itself : (x : Float) → eq x x ≡ not (is_nan x)
unfolding eq is_nan
equals_itself nan = refl
equals_itself (inf true) = refl
equals_itself (inf false) = refl
equals_itself (fin true m e) = ap (λ (b : Bool). b && true) (is_true (eqb (m * up e * down e) (m * up e * down e)) (eqb_refl (m * up e * down e)))
equals_itself (fin false m e) = ap (λ (b : Bool). b && true) (is_true (eqb (m * up e * down e) (m * up e * down e)) (eqb_refl (m * up e * down e)))

pub only_nan : (x : Float) → is_nan x ≡ true → x ≡ nan
unfolding is_nan
only_nan nan e = refl
only_nan (inf s) e = absurd (false≢true e)
only_nan (fin s m x) e = absurd (false≢true e)

more_than_one : (k : ℕ) → 1 < 2 ^ suc k
more_than_one k = pow-lt {i = 0} {j = suc k} (omega arith)

-- a zero that fits the format is written with exponent 0
zero_exponent : (e : ℤ) → T (eqb (up e * down e) 1) → e ≡ pos 0
zero_exponent (pos zero) t = refl
zero_exponent (pos (suc k)) t = absurd (omega (arith, eqb→eq (2 ^ suc k * 1) 1 t, more_than_one k))
zero_exponent (negsuc k) t = absurd (omega (arith, eqb→eq (1 * 2 ^ suc k) 1 t, more_than_one k))

pub above_zero : (m : ℕ) (e : ℤ) → 0 < suc m * up e
above_zero m e = mul-pos (omega arith) (up_pos e)

abbrev +0 : Float
+0 = of_bits binary64 0

-- ---- larger and smaller

not_zero : (s : Bool) (m : ℕ) (e : ℤ) → (is_zero true (fin s (suc m) e) || is_zero false (fin s (suc m) e)) ≡ false
not_zero true m e = rw (eqb-suc-zero m)
not_zero false m e = rw (eqb-suc-zero m)

-- A zero of either sign, and nothing else, equals +0.
equals_zero : (x : Float) → eq x +0 ≡ (is_zero true x || is_zero false x)
unfolding eq of_bits
equals_zero nan = refl
equals_zero (inf s) = refl
equals_zero (fin true zero e) = rw (zero-mul (up e), zero-mul (down e))
equals_zero (fin false zero e) = rw (zero-mul (up e), zero-mul (down e))
equals_zero (fin true (suc m) e) = rw (ne_eqb (suc m * up e * 1) (0 * down e) (λ q. omega (arith, above_zero m e)), not_zero true m e)
equals_zero (fin false (suc m) e) = rw (ne_eqb (suc m * up e * 1) (0 * down e) (λ q. omega (arith, above_zero m e)), not_zero false m e)

-- Unless both are zeros, floats compare as ever.
no_unlike : (p q r s t : Bool) → ((p || q) && (r || s)) ≡ false → (p && s || t) ≡ t
no_unlike true q true true t h = absurd (true≢false h)
no_unlike true true false true t h = absurd (true≢false h)
no_unlike true false false true t h = absurd (true≢false h)
no_unlike true q r false t h = refl
no_unlike false q r s t h = refl

swapped : (p q : Bool) → (p && q) ≡ (q && p)
swapped true true = refl
swapped true false = refl
swapped false true = refl
swapped false false = refl

less_as_ever : (a b : Float) → (eq a +0 && eq b +0) ≡ false → less a b ≡ lt a b
unfolding less
less_as_ever a b h =
    no_unlike (is_zero true a) (is_zero false a) (is_zero true b) (is_zero false b) (lt a b) (sym (λ i. equals_zero a i && equals_zero b i) ∙ h)

-- A test picks the first operand, and a second operand that does not equal itself yields.
by_tests : (t p r : Bool) (a b : Float) → (p ≡ true → t ≡ false) → (p ≡ true → r ≡ true → a ≡ b) → cond t a (cond (not r) b a) ≡ cond p b (cond r a (cond t a b))
by_tests true true r a b h both = absurd (true≢false (h refl))
by_tests false true true a b h both = both refl refl
by_tests false true false a b h both = refl
by_tests true false true a b h both = refl
by_tests true false false a b h both = refl
by_tests false false true a b h both = refl
by_tests false false false a b h both = refl

lt_nan : (x : Float) → lt x nan ≡ false
unfolding lt
lt_nan nan = refl
lt_nan (inf s) = refl
lt_nan (fin s m e) = refl

-- A zero that fits the format is −0 or +0.
pub zero_is : (x : Float) → T (fits binary64 x) → eq x +0 ≡ true → (x ≡ fin true 0 (pos 0)) ⊎ (x ≡ fin false 0 (pos 0))
unfolding eq of_bits fits
zero_is nan t h = absurd (false≢true h)
zero_is (inf s) t h = absurd (false≢true h)
zero_is (fin true zero e) t h = inl (ap (λ (d : ℤ). fin true 0 d) (zero_exponent e t))
zero_is (fin false zero e) t h = inr (ap (λ (d : ℤ). fin false 0 d) (zero_exponent e t))
zero_is (fin s (suc m) e) t h = absurd (false≢true (sym (equals_zero (fin s (suc m) e) ∙ not_zero s m e) ∙ h))

-- Unless both are zeros, larger and smaller are found by these tests.
pub larger_of_others : (a b : Float) → (eq a +0 && eq b +0) ≡ false → larger a b ≡ cond (lt b a) a (cond (eq b b) b a)
unfolding larger
larger_of_others a b h =
    rw (less_as_ever b a (swapped (eq b +0) (eq a +0) ∙ h), equals_itself b)
    (sym (by_tests (lt b a) (is_nan a) (is_nan b) a b (λ p. ap (lt b) (only_nan a p) ∙ lt_nan b) (λ p r. only_nan a p ∙ sym (only_nan b r))))

pub smaller_of_others : (a b : Float) → (eq a +0 && eq b +0) ≡ false → smaller a b ≡ cond (lt a b) a (cond (eq b b) b a)
unfolding smaller
smaller_of_others a b h =
    rw (less_as_ever a b h, equals_itself b)
    (sym (by_tests (lt a b) (is_nan a) (is_nan b) a b (λ p. ap (λ (x : Float). lt x b) (only_nan a p)) (λ p r. only_nan a p ∙ sym (only_nan b r))))

-- ---- absolute value

pub magnitude_tested : (x : Float) → T (fits binary64 x) → magnitude x ≡ cond (lt x +0) (neg x) (cond (eq x +0) +0 x)
unfolding magnitude lt eq neg of_bits fits
magnitude_tested nan t = refl
magnitude_tested (inf true) t = refl
magnitude_tested (inf false) t = refl
magnitude_tested (fin true zero e) t = rw (zero_exponent e t)
magnitude_tested (fin false zero e) t = rw (zero_exponent e t)
magnitude_tested (fin true (suc m) e) t =
    rw (lt-ltb 0 (suc m * up e * 1 + 0 * down e) (omega (arith, above_zero m e)))
magnitude_tested (fin false (suc m) e) t =
    rw (le-ltb (suc m * up e * 1) (0 * down e) (omega arith), ne_eqb (suc m * up e * 1) (0 * down e) (λ q. omega (arith, above_zero m e)))
