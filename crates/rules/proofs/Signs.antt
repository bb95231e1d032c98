-- Signs of floats: a rounded number has the sign that it is rounded with; squares, and sums of what has sign +, have sign + or are NaN.
use Prim.Native.Nat.{ℕ, zero, suc, ◌+◌, ◌*◌, ◌^◌}
use mathlib.Core.Path.{◌≡◌, refl}
use mathlib.Core.Bool.{Bool, true, false, beq, cond, false≢true, true≢false}
use mathlib.Core.Logic.{◌⊎◌, inl, inr}
use lib.Dec.{ltb}
use lib.Ieee.{Float, nan, inf, fin, Format, binary64, prec, low, emax, up, down, odd, units, round, sum, add, mul, is_nan}
use Rattle.rules.specs.Arithmetic.{◌+ᶠ◌, ◌*ᶠ◌}

unfoldable pub has_sign : Bool → Float → Bool
has_sign s nan = false
has_sign s (inf t) = beq s t
has_sign s (fin t m e) = beq s t

abbrev pub is_plus : Float → Bool
is_plus x = has_sign false x

abbrev pub NotMinus : Float → Type 0
NotMinus x = (x ≡ nan) ⊎ (is_plus x ≡ true)

own_sign : (s : Bool) → beq s s ≡ true
own_sign true = refl
own_sign false = refl

odd_sign : (d : ℕ) (s : Bool) (q k l : ℕ) → has_sign s (odd d s q k l) ≡ true
unfolding has_sign odd
odd_sign d s zero k l = own_sign s
odd_sign d s (suc q) k l = own_sign s

either_sign : (b s : Bool) (x y : Float) → has_sign s x ≡ true → has_sign s y ≡ true → has_sign s (cond b x y) ≡ true
either_sign true s x y e f = e
either_sign false s x y e f = f

units_sign : (f : Format) (s : Bool) (q k : ℕ) → has_sign s (units f s q k) ≡ true
unfolding has_sign units
units_sign f s q k = either_sign (ltb (q * 2 ^ k) (2 ^ (low f + suc (emax f)))) s (odd (suc (prec f)) s q k (low f)) (inf s) (odd_sign (suc (prec f)) s q k (low f)) (own_sign s)

pub round_sign : (f : Format) (s : Bool) (num den : ℕ) → has_sign s (round f s num den) ≡ true
unfolding round
round_sign f s num den = units_sign f s _ _

pub square_plus : (x : Float) → is_nan x ≡ false → is_plus (x *ᶠ x) ≡ true
unfolding has_sign is_nan mul
square_plus nan h = absurd (true≢false h)
square_plus (inf true) h = refl
square_plus (inf false) h = refl
square_plus (fin true m e) h = round_sign binary64 false (m * up e * (m * up e)) (down e * down e)
square_plus (fin false m e) h = round_sign binary64 false (m * up e * (m * up e)) (down e * down e)

pub add_plus : (x y : Float) → is_plus x ≡ true → is_plus y ≡ true → is_plus (x +ᶠ y) ≡ true
unfolding has_sign add sum
add_plus nan y e f = absurd (false≢true e)
add_plus (inf true) y e f = absurd (false≢true e)
add_plus (fin true m d) y e f = absurd (false≢true e)
add_plus (inf false) nan e f = absurd (false≢true f)
add_plus (inf false) (inf true) e f = absurd (false≢true f)
add_plus (inf false) (inf false) e f = refl
add_plus (inf false) (fin t n c) e f = refl
add_plus (fin false m d) nan e f = absurd (false≢true f)
add_plus (fin false m d) (inf true) e f = absurd (false≢true f)
add_plus (fin false m d) (inf false) e f = refl
add_plus (fin false m d) (fin true n c) e f = absurd (false≢true f)
add_plus (fin false m d) (fin false n c) e f = round_sign binary64 false (m * up d * down c + n * up c * down d) (down d * down c)

pub square_not_minus : (x : Float) → NotMinus (x *ᶠ x)
unfolding is_nan mul
square_not_minus nan = inl refl
square_not_minus (inf s) = inr (square_plus (inf s) refl)
square_not_minus (fin s m e) = inr (square_plus (fin s m e) refl)

pub add_nan : (x : Float) → x +ᶠ nan ≡ nan
unfolding add
add_nan nan = refl
add_nan (inf s) = refl
add_nan (fin s m e) = refl

pub nan_add : (y : Float) → nan +ᶠ y ≡ nan
unfolding add
nan_add y = refl

pub add_not_minus : {x y : Float} → NotMinus x → NotMinus y → NotMinus (x +ᶠ y)
add_not_minus {x} {y} (inl e) u = inl (rw e (nan_add y))
add_not_minus {x} {y} (inr e) (inl f) = inl (rw f (add_nan x))
add_not_minus {x} {y} (inr e) (inr f) = inr (add_plus x y e f)

pub plus_terms : (x y : Float) → NotMinus x → NotMinus y → is_plus (x +ᶠ y) ≡ true → (is_plus x ≡ true) × (is_plus y ≡ true)
unfolding has_sign
plus_terms x y (inl e) u h = absurd (false≢true (rw (e, nan_add y) at h))
plus_terms x y (inr e) (inl f) h = absurd (false≢true (rw (f, add_nan x) at h))
plus_terms x y (inr e) (inr f) h = (e, f)

pub infinite_stays : (y : Float) → is_plus y ≡ true → inf false +ᶠ y ≡ inf false
unfolding has_sign add
infinite_stays nan e = absurd (false≢true e)
infinite_stays (inf true) e = absurd (false≢true e)
infinite_stays (inf false) e = refl
infinite_stays (fin t n c) e = refl

pub infinite_comes : (x : Float) → is_plus x ≡ true → x +ᶠ inf false ≡ inf false
unfolding has_sign add
infinite_comes nan e = absurd (false≢true e)
infinite_comes (inf true) e = absurd (false≢true e)
infinite_comes (inf false) e = refl
infinite_comes (fin t n c) e = refl

pub signed_is_number : (s : Bool) (x : Float) → has_sign s x ≡ true → is_nan x ≡ false
unfolding has_sign is_nan
signed_is_number s nan e = absurd (false≢true e)
signed_is_number s (inf t) e = refl
signed_is_number s (fin t m d) e = refl
