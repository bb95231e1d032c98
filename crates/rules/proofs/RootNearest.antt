-- Every other value of the format lies farther from the exact root than what the rule gives, for each finite number above zero and both formats. Assumes nothing.
use Prim.Native.Nat.{ℕ, zero, suc, ◌+◌, ◌-◌, ◌*◌, ◌/◌, ◌%◌, ◌^◌, ◌≤◌, ◌<◌, zero-le, compare}
use native.Mathlib.Nat.{le_trans, le_of_eq, le_of_lt, lt_of_lt_of_le, lt_of_le_of_lt, lt_of_not-le, not-le_of_lt, zero-lt-suc, mul-one, mul_assoc, mul_comm, mul_left_comm, mul_right_comm, mul-le-mul_left, mul-le-mul_right, eq_of_mul-eq-mul_right, mul-lt-mul_of_pos_right, mul-pos, mul-div_cancel, zero-mul, zero-div, le-div_iff_mul-le, div-lt_iff_lt-mul, pow-suc, pow-succ'}
use native.Mathlib.Omega.{arith}
use mathlib.Core.Path.{◌≡◌, refl, sym, ap, ◌∙◌, subst}
use mathlib.Core.Logic.{◌⊎◌, inl, inr}
use mathlib.Core.Bool.{Bool, true, false, not, ◌&&◌, cond}
use borrow.Author.Tests.{lt-ltb}
use lib.IntN.{ℤ, pos, negsuc}
use lib.Dec.{T, leb, ltb, eqb, leb→le, nleb→lt, ltb→lt, lit≤}
use lib.Pow.{pow_pos, pow_mono, pow-lt, pow-add, shl_lt}
use lib.Ieee.{Float, nan, inf, fin, Format, binary32, binary64, prec, emax, low, up, down, size, nearest, odd, units, fits}
use lib.Ieee.Digits.{size-le, size_reaches}
use lib.Ieee.Exact.{HasValue, units_val}
use lib.Ieee.Fits.{and_l, and_r, down_pos, kept-lt, nearest-le, odd-fits, two}
use Rattle.rules.specs.Root.{whole_root, root_of_units, root, in_units, in_squared_units, is_number, NoneNearer}
use Rattle.rules.proofs.Root.{sq_twice, sq_next, sq_mono, sq_lt_back, whole_root_is, one_more, Leading, leading, middle, middle_is, Picked, picked, shifted_sq}
use Rattle.rules.proofs.Columns.{by_less}

-- ---- over whole numbers

abbrev Nearer : ℕ → ℕ → ℕ → Type 0
Nearer r g w = (r < g → 4 * w < (r + g) * (r + g)) × (g < r → (r + g) * (r + g) < 4 * w)

-- what `nearest` picks where there is no tie
abbrev StrictlyPicked : ℕ → ℕ → ℕ → ℕ → Type 0
StrictlyPicked n q k w = ((n ≡ q) × (4 * w < middle q k)) ⊎ ((n ≡ q + 1) × (middle q k < 4 * w))

strictly : (n q k w : ℕ) → (4 * w ≡ middle q k → ⊥) → Picked n q k w → StrictlyPicked n q k w
strictly n q k w no_tie (inl h) = inl (h.0, below (4 * w) (middle q k) h.1 no_tie)
  where
    below : (a b : ℕ) → a ≤ b → (a ≡ b → ⊥) → a < b
    below a b l ne = by_less a b (λ h. h) (λ h. absurd (ne (omega arith)))
strictly n q k w no_tie (inr h) = inr (h.0, above (4 * w) (middle q k) h.1 no_tie)
  where
    above : (a b : ℕ) → b ≤ a → (a ≡ b → ⊥) → b < a
    above a b l ne = by_less b a (λ h. h) (λ h. absurd (ne (omega arith)))

-- the doubled middle is the sum of its neighbours
middle_sum : (q k : ℕ) → middle q k ≡ (q * k + (q * k + k)) * (q * k + (q * k + k))
middle_sum q k = sym (shifted_sq (2 * q + 1) k) ∙ ap (λ (x : ℕ). x * x) (one_more (2 * q) k ∙ ap (λ (x : ℕ). x + k) (mul_assoc 2 q k) ∙ sum (q * k))
  where
    sum : (a : ℕ) → 2 * a + k ≡ a + (a + k)
    sum a = omega arith

sq_strict : (a b : ℕ) → a < b → a * a < b * b
sq_strict a b l = up (a * a) (b * b) ((a + 1) * (a + 1)) (sq_next a) (sq_mono (next a b l))
  where
    next : (a b : ℕ) → a < b → a + 1 ≤ b
    next a b l = omega arith

    up : (s t u : ℕ) → u ≡ s + 2 * a + 1 → u ≤ t → s < t
    up s t u e h = omega arith

twice_lt : (r g w : ℕ) → r < g → w < r * r → 4 * w < (r + g) * (r + g)
twice_lt r g w l h = lt_of_lt_of_le (times_four (r * r) (2 * r * (2 * r)) (sq_twice r) h) (sq_mono (double r g l))
  where
    times_four : (a b : ℕ) → b ≡ 4 * a → w < a → 4 * w < b
    times_four a b e h = omega arith

    double : (r g : ℕ) → r < g → 2 * r ≤ r + g
    double r g l = omega arith

twice_gt : (r g w : ℕ) → g < r → r * r ≤ w → (r + g) * (r + g) < 4 * w
twice_gt r g w l h = lt_of_lt_of_le (sq_strict (r + g) (2 * r) (double r g l)) (times_four (r * r) (2 * r * (2 * r)) (sq_twice r) h)
  where
    times_four : (a b : ℕ) → b ≡ 4 * a → a ≤ w → b ≤ 4 * w
    times_four a b e h = omega arith

    double : (r g : ℕ) → g < r → r + g < 2 * r
    double r g l = omega arith

none_nearer : (n q k w g : ℕ) → Leading q k w → StrictlyPicked n q k w → (g ≤ q * k) ⊎ (q * k + k ≤ g) → Nearer (n * k) g w
none_nearer n q k w g lead (inl p) side = subst (λ (x : ℕ). Nearer (x * k) g w) (sym p.0) (up side, λ l. twice_gt (q * k) g w l lead.0)
  where
    up : (g ≤ q * k) ⊎ (q * k + k ≤ g) → q * k < g → 4 * w < (q * k + g) * (q * k + g)
    up (inl h) l = absurd (not-le_of_lt l h)
    up (inr h) l = lt_of_lt_of_le p.1 (le_trans (le_of_eq (middle_sum q k)) (sq_mono (add (q * k) (q * k + k) g h)))
      where
        add : (a b c : ℕ) → b ≤ c → a + b ≤ a + c
        add a b c h = omega arith
none_nearer n q k w g lead (inr p) side = subst (λ (x : ℕ). Nearer (x * k) g w) (sym p.0) (λ l. twice_lt ((q + 1) * k) g w l lead.1, down side)
  where
    down : (g ≤ q * k) ⊎ (q * k + k ≤ g) → g < (q + 1) * k → ((q + 1) * k + g) * ((q + 1) * k + g) < 4 * w
    down (inl h) l = lt_of_le_of_lt (sq_mono (add ((q + 1) * k) (q * k) g (one_more q k) h)) (lt_of_le_of_lt (le_of_eq (sym (middle_sum q k))) p.1)
      where
        add : (b a g : ℕ) → b ≡ a + k → g ≤ a → b + g ≤ a + (a + k)
        add b a g e h = omega arith
    down (inr h) l = absurd (not-le_of_lt (lt_of_lt_of_le l (le_of_eq (one_more q k))) h)

-- ---- there is no tie: the square of the middle has too many digits for a number of the format

pub even_odd : (a t : ℕ) → a % 2 ≡ 1 → a ≡ 2 * t → ⊥
even_odd a t o h = omega arith

-- an odd number's digits are among those of any number that it is, shifted
pub odd_below : (a m i j : ℕ) → a % 2 ≡ 1 → a * 2 ^ i ≡ m * 2 ^ j → (j ≤ i) × (a ≤ m)
odd_below a m zero zero o h = (zero-le, le_of_eq (sym (mul-one a) ∙ h ∙ mul-one m))
odd_below a m zero (suc j) o h = absurd (even_odd a (m * 2 ^ j) o (sym (mul-one a) ∙ h ∙ ap (λ (x : ℕ). m * x) (pow-succ' 2 j) ∙ mul_left_comm m 2 (2 ^ j)))
odd_below a m (suc i) zero o h = (zero-le, le_trans (le_of_eq (sym (mul-one a))) (le_trans (mul-le-mul_left a (pow_pos (suc i))) (le_of_eq (h ∙ mul-one m))))
odd_below a m (suc i) (suc j) o h =
    let r = odd_below a m i j o (eq_of_mul-eq-mul_right 2 (zero-lt-suc 1) (a * 2 ^ i) (m * 2 ^ j)
    (mul_assoc a (2 ^ i) 2 ∙ ap (λ (x : ℕ). a * x) (sym (pow-suc 2 i)) ∙ h ∙ ap (λ (x : ℕ). m * x) (pow-suc 2 j) ∙ sym (mul_assoc m (2 ^ j) 2))) in
    (up i j r.0, r.1)
  where
    up : (i j : ℕ) → j ≤ i → suc j ≤ suc i
    up i j l = omega arith

-- r is a root's whole part, of which p digits are kept, and w has fewer than p digits, shifted
no_tie : (p r m j w : ℕ) → 1 ≤ p → m < 2 ^ p → w ≡ m * 2 ^ j → 4 * w ≡ middle (r / 2 ^ (size r - p)) (2 ^ (size r - p)) → ⊥
no_tie p r m j w one few is tie = go (leb (size r) p) (leb→le (size r) p) (nleb→lt (size r) p)
  where
    k : ℕ
    k = size r - p

    q : ℕ
    q = r / 2 ^ (size r - p)

    a : ℕ
    a = (2 * q + 1) * (2 * q + 1)

    odd_square : a % 2 ≡ 1
    odd_square = odd a (q * q) (middle_is q)
      where
        odd : (x s : ℕ) → x ≡ 4 * s + 4 * q + 1 → x % 2 ≡ 1
        odd x s e = omega arith

    shifted : a * 2 ^ (k + k) ≡ m * 2 ^ (j + 2)
    shifted =
        ap (λ (x : ℕ). a * x) (pow-add 2 k k)
        ∙ sym tie
        ∙ ap (λ (x : ℕ). 4 * x) is
        ∙ mul_comm 4 (m * 2 ^ j)
        ∙ mul_assoc m (2 ^ j) 4
        ∙ ap (λ (x : ℕ). m * x) (sym (pow-add 2 j 2))

    digits : (j + 2 ≤ k + k) × (a ≤ m)
    digits = odd_below a m (k + k) (j + 2) odd_square shifted

    leads : p < size r → 2 ^ (p - 1) ≤ q
    leads l = (le-div_iff_mul-le (pow_pos k)).1 (subst (λ (x : ℕ). x ≤ r) (pow-add 2 (p - 1) k) (size_reaches r (p - 1 + k) (within l)))
      where
        within : p < size r → p - 1 + (size r - p) < size r
        within l = omega arith

    double : 2 ^ p ≡ 2 * 2 ^ (p - 1)
    double = ap (λ (x : ℕ). 2 ^ x) (back p one) ∙ pow-succ' 2 (p - 1)
      where
        back : (p : ℕ) → 1 ≤ p → p ≡ suc (p - 1)
        back p h = omega arith

    too_many : (h P s : ℕ) → P ≡ 2 * h → h ≤ q → m < P → s ≤ m → 4 * (q * q) + 4 * q + 1 ≡ s → ⊥
    too_many h P s d l f n e = omega arith

    go : (b : Bool) → (T b → size r ≤ p) → (T (not b) → p < size r) → ⊥
    go true y n = none_dropped (y tt) digits.0
      where
        none_dropped : size r ≤ p → j + 2 ≤ (size r - p) + (size r - p) → ⊥
        none_dropped l h = omega arith
    go false y n = too_many (2 ^ (p - 1)) (2 ^ p) a double (leads (n tt)) few digits.1 (sym (middle_is q))

-- ---- a value of the format is no number between two neighbours

whole_side : (g q k : ℕ) → (g * k ≤ q * k) ⊎ (q * k + k ≤ g * k)
whole_side g q k = go (leb g q) (leb→le g q) (nleb→lt g q)
  where
    next : (g q : ℕ) → q < g → q + 1 ≤ g
    next g q h = omega arith

    go : (b : Bool) → (T b → g ≤ q) → (T (not b) → q < g) → (g * k ≤ q * k) ⊎ (q * k + k ≤ g * k)
    go true y n = inl (mul-le-mul_right k (y tt))
    go false y n = inr (le_trans (le_of_eq (sym (one_more q k))) (mul-le-mul_right k (next g q (n tt))))

apart : (p r g j : ℕ) → 1 ≤ p → g < 2 ^ p
    → (g * 2 ^ j ≤ r / 2 ^ (size r - p) * 2 ^ (size r - p)) ⊎ (r / 2 ^ (size r - p) * 2 ^ (size r - p) + 2 ^ (size r - p) ≤ g * 2 ^ j)
apart p r g j one h = go (leb k j) (leb→le k j) (nleb→lt k j)
  where
    k : ℕ
    k = size r - p

    q : ℕ
    q = r / 2 ^ (size r - p)

    split : k ≤ j → g * 2 ^ (j - k) * 2 ^ k ≡ g * 2 ^ j
    split l = mul_assoc g (2 ^ (j - k)) (2 ^ k) ∙ ap (λ (x : ℕ). g * x) (sym (pow-add 2 (j - k) k) ∙ ap (λ (x : ℕ). 2 ^ x) (back l))
      where
        back : k ≤ j → j - k + k ≡ j
        back l = omega arith

    leads : j < k → 2 ^ (p - 1) * 2 ^ k ≤ q * 2 ^ k
    leads l = mul-le-mul_right (2 ^ k) ((le-div_iff_mul-le (pow_pos k)).1 (subst (λ (x : ℕ). x ≤ r) (pow-add 2 (p - 1) k) (size_reaches r (p - 1 + k) (within l))))
      where
        within : j < size r - p → p - 1 + (size r - p) < size r
        within l = omega arith

    short : j < k → g * 2 ^ j ≤ 2 ^ (p - 1) * 2 ^ k
    short l = le_trans (le_of_lt (shl_lt p j h)) (le_trans (pow_mono (room l)) (le_of_eq (pow-add 2 (p - 1) k)))
      where
        room : j < size r - p → p + j ≤ p - 1 + (size r - p)
        room l = omega arith

    go : (b : Bool) → (T b → k ≤ j) → (T (not b) → j < k) → (g * 2 ^ j ≤ q * 2 ^ k) ⊎ (q * 2 ^ k + 2 ^ k ≤ g * 2 ^ j)
    go true y n = subst (λ (x : ℕ). (x ≤ q * 2 ^ k) ⊎ (q * 2 ^ k + 2 ^ k ≤ x)) (split (y tt)) (whole_side (g * 2 ^ (j - k)) q (2 ^ k))
    go false y n = inl (le_trans (short (n tt)) (leads (n tt)))

-- ---- values in units of the least one

pub power_le : (a l : ℕ) → 2 ^ suc a ≤ 2 ^ l → suc a ≤ l
power_le a l h = lt_of_not-le (λ g. not-le_of_lt (lt_of_lt_of_le (pow-lt (self a)) h) (pow_mono g))
  where
    self : (a : ℕ) → a < suc a
    self a = omega arith

-- a value that is not too low is a whole number of units: its digits, moved up
unfoldable pub place : (m : ℕ) (e : ℤ) (l : ℕ) → down e ≤ 2 ^ l → (j : ℕ) × (m * up e * 2 ^ l ≡ m * 2 ^ j * down e)
place m (pos a) l h = (a + l, mul_assoc m (2 ^ a) (2 ^ l) ∙ ap (λ (x : ℕ). m * x) (sym (pow-add 2 a l)) ∙ sym (mul-one (m * 2 ^ (a + l))))
place m (negsuc a) l h =
    let le : suc a ≤ l = power_le a l h in
    let j = l - suc a in (
      j,
      ap (λ (x : ℕ). x * 2 ^ l) (mul-one m)
          ∙ ap (λ (x : ℕ). m * x) (ap (λ (x : ℕ). 2 ^ x) (sym (back a l le)) ∙ pow-add 2 j (suc a))
          ∙ sym (mul_assoc m (2 ^ j) (2 ^ suc a)),
    )
  where
    back : (a l : ℕ) → suc a ≤ l → l - suc a + suc a ≡ l
    back a l h = omega arith

module _ (f : Format) (s : Bool) (m : ℕ) (e : ℤ) (h : T (fits f (fin s (suc m) e))) where
  abbrev A : Bool
  A = eqb (suc m % 2) 1

  abbrev B : Bool
  B = ltb (suc m) (2 ^ prec f)

  abbrev C : Bool
  C = leb (down e) (2 ^ low f)

  abbrev D : Bool
  D = ltb (suc m * up e) (2 ^ suc (emax f) * down e)

  pub few_digits : suc m < 2 ^ prec f
  unfolding fits
  few_digits = ltb→lt (suc m) (2 ^ prec f) (and_r A B (and_l (A && B) C (and_l (A && B && C) D h)))

  pub not_too_low : down e ≤ 2 ^ low f
  unfolding fits
  not_too_low = leb→le (down e) (2 ^ low f) (and_r (A && B) C (and_l (A && B && C) D h))

  not_too_high : suc m * up e < 2 ^ suc (emax f) * down e
  unfolding fits
  not_too_high = ltb→lt (suc m * up e) (2 ^ suc (emax f) * down e) (and_r (A && B && C) D h)

  pub in_units_lem : in_units f (fin s (suc m) e) ≡ suc m * 2 ^ (place (suc m) e (low f) not_too_low).0
  unfolding in_units
  in_units_lem =
      let z = place (suc m) e (low f) not_too_low in
      ap (λ (x : ℕ). x / down e) z.1 ∙ mul-div_cancel (suc m * 2 ^ z.0) (down_pos e)

-- The measure loses nothing: times the least value, 2 ^ -low, it is the value, m * 2 ^ e.
pub units_are_whole : (f : Format) (s : Bool) (m : ℕ) (e : ℤ) → T (fits f (fin s m e)) → m * up e * 2 ^ low f ≡ in_units f (fin s m e) * down e
unfolding in_units
units_are_whole f s zero e h =
    ap (λ (x : ℕ). x * 2 ^ low f) (zero-mul (up e))
    ∙ zero-mul (2 ^ low f)
    ∙ sym (ap (λ (x : ℕ). x / down e * down e) (ap (λ (x : ℕ). x * 2 ^ low f) (zero-mul (up e)) ∙ zero-mul (2 ^ low f)) ∙ ap (λ (x : ℕ). x * down e) (zero-div (down e)) ∙ zero-mul (down e))
units_are_whole f s (suc m) e h = (place (suc m) e (low f) (not_too_low f s m e h)).1 ∙ ap (λ (x : ℕ). x * down e) (sym (in_units_lem f s m e h))

pub squared_units_are_whole : (f : Format) (s : Bool) (m : ℕ) (e : ℤ) → T (fits f (fin s (suc m) e))
    → in_squared_units f (fin s (suc m) e) ≡ in_units f (fin s (suc m) e) * 2 ^ low f
unfolding in_squared_units
squared_units_are_whole f s m e h =
    let L = 2 ^ low f in
    let a = in_units f (fin s (suc m) e) in
    ap (λ (x : ℕ). x / down e) (sym (mul_assoc (suc m * up e) L L) ∙ ap (λ (x : ℕ). x * L) (units_are_whole f s (suc m) e h) ∙ mul_right_comm a (down e) L)
    ∙ mul-div_cancel (a * L) (down_pos e)

in_squared_units_lem : (f : Format) (s : Bool) (m : ℕ) (e : ℤ) (h : T (fits f (fin s (suc m) e)))
    → in_squared_units f (fin s (suc m) e) ≡ suc m * 2 ^ ((place (suc m) e (low f) (not_too_low f s m e h)).0 + low f)
in_squared_units_lem f s m e h =
    let j = (place (suc m) e (low f) (not_too_low f s m e h)).0 in
    squared_units_are_whole f s m e h
    ∙ ap (λ (x : ℕ). x * 2 ^ low f) (in_units_lem f s m e h)
    ∙ mul_assoc (suc m) (2 ^ j) (2 ^ low f)
    ∙ ap (λ (x : ℕ). suc m * x) (sym (pow-add 2 j (low f)))

-- every number of the format is below a leading part of any root, or beyond the next
number_apart : (f : Format) (r : ℕ) (y : Float) → T (is_number y) → T (fits f y)
    → (in_units f y ≤ r / 2 ^ (size r - prec f) * 2 ^ (size r - prec f)) ⊎ (r / 2 ^ (size r - prec f) * 2 ^ (size r - prec f) + 2 ^ (size r - prec f) ≤ in_units f y)
unfolding is_number in_units
number_apart f r nan n h = absurd n
number_apart f r (inf s) n h = absurd n
number_apart f r (fin s zero e) n h =
    inl (le_trans (le_of_eq (ap (λ (x : ℕ). x / down e) (ap (λ (x : ℕ). x * 2 ^ low f) (zero-mul (up e)) ∙ zero-mul (2 ^ low f)) ∙ zero-div (down e))) zero-le)
number_apart f r (fin s (suc m) e) n h =
    let k = size r - prec f in
    subst (λ (x : ℕ). (x ≤ r / 2 ^ k * 2 ^ k) ⊎ (r / 2 ^ k * 2 ^ k + 2 ^ k ≤ x)) (sym (in_units_lem f s m e h))
    (apart (prec f) r (suc m) (place (suc m) e (low f) (not_too_low f s m e h)).0 (le_trans (lit≤ tt) (two f)) (few_digits f s m e h))

-- ---- the rule's result

value-in_units : (f : Format) (y : Float) (a : ℕ) → HasValue y false a (2 ^ low f) → (T (is_number y)) × (in_units f y ≡ a)
unfolding is_number in_units
value-in_units f nan a h = absurd h
value-in_units f (inf s) a h = absurd h
value-in_units f (fin s m e) a h = (subst (λ (b : Bool). T (not b)) (sym h.0) tt, ap (λ (x : ℕ). x / down e) h.1 ∙ mul-div_cancel a (down_pos e))

units_held : (f : Format) (q k : ℕ) → q ≤ 2 ^ prec f → q * 2 ^ k < 2 ^ (low f + suc (emax f)) → T (fits f (units f false q k))
unfolding units
units_held f q k most in_range =
    subst (λ (b : Bool). T (fits f (cond b (odd (suc (prec f)) false q k (low f)) (inf false)))) (sym (lt-ltb (q * 2 ^ k) (2 ^ (low f + suc (emax f))) in_range))
    (odd-fits f (suc (prec f)) false q k (lt_of_le_of_lt most (pow-lt (self (prec f)))) most in_range)
  where
    self : (a : ℕ) → a < suc a
    self a = omega arith

-- the formats have room for the roots of all their numbers
room : (f : Format) → (prec f ≤ low f + emax f) × (2 ≤ 2 ^ emax f)
room binary32 = (lit≤ tt, lit≤ tt)
room binary64 = (lit≤ tt, lit≤ tt)

module _ (f : Format) (w : ℕ) (w_lt : w < 2 ^ suc (emax f) * (2 ^ low f * 2 ^ low f)) (m j : ℕ) (few : m < 2 ^ prec f) (w_is : w ≡ m * 2 ^ j) where
  abbrev r : ℕ
  r = whole_root w

  abbrev k : ℕ
  k = size r - prec f

  abbrev q : ℕ
  q = r / 2 ^ k

  abbrev n : ℕ
  n = nearest q (compare (4 * w) (middle q (2 ^ k)))

  root_short : size r ≤ low f + emax f
  root_short =
      let E = 2 ^ emax f in
      let L = 2 ^ low f in
      let enough : 2 ^ suc (emax f) * (L * L) ≤ E * L * (E * L) =
      le_trans (mul-le-mul_right (L * L) (le_trans (le_of_eq (pow-succ' 2 (emax f))) (mul-le-mul_right E (room f).1))) (le_of_eq (sym (shifted_sq E L))) in
      size-le r (low f + emax f)
      (subst (λ (x : ℕ). r < x) (mul_comm E L ∙ sym (pow-add 2 (low f) (emax f)))
      (sq_lt_back (lt_of_le_of_lt (whole_root_is w).0 (lt_of_lt_of_le w_lt enough))))

  n_most : n ≤ 2 ^ prec f
  n_most = le_trans (nearest-le q (compare (4 * w) (middle q (2 ^ k)))) (kept-lt (prec f) r)

  in_range : n * 2 ^ k < 2 ^ (low f + suc (emax f))
  in_range = lt_of_le_of_lt (le_trans (mul-le-mul_right (2 ^ k) n_most) (le_of_eq (sym (pow-add 2 (prec f) k)))) (pow-lt (fewer (prec f) (size r) (low f) (emax f) (room f).0 root_short))
    where
      fewer : (p z l e : ℕ) → p ≤ l + e → z ≤ l + e → p + (z - p) < l + suc e
      fewer p z l e a b = omega arith

  result_is : root_of_units f w ≡ units f false n k
  unfolding root_of_units
  result_is = refl

  result_value : (T (is_number (units f false n k))) × (in_units f (units f false n k) ≡ n * 2 ^ k)
  result_value = value-in_units f (units f false n k) (n * 2 ^ k) (units_val f false n k in_range)

  strictly_picked : StrictlyPicked n q (2 ^ k) w
  strictly_picked = strictly n q (2 ^ k) w (no_tie (prec f) r m j w (le_trans (lit≤ tt) (two f)) few w_is) (picked q (2 ^ k) w)

  result_nearer : (y : Float) → T (is_number y) → T (fits f y) → Nearer (in_units f (root_of_units f w)) (in_units f y) w
  result_nearer y number held =
      subst (λ (x : ℕ). Nearer x (in_units f y) w) (sym (ap (in_units f) result_is ∙ result_value.1))
      (none_nearer n q (2 ^ k) w (in_units f y) (leading w (2 ^ k) (pow_pos k)) strictly_picked (number_apart f r y number held))

in_range_squared : (f : Format) (m : ℕ) (e : ℤ) → T (fits f (fin false (suc m) e)) → in_squared_units f (fin false (suc m) e) < 2 ^ suc (emax f) * (2 ^ low f * 2 ^ low f)
unfolding in_squared_units
in_range_squared f m e h =
    let L² = 2 ^ low f * 2 ^ low f in
    (div-lt_iff_lt-mul (down_pos e)).1
    (lt_of_lt_of_le (mul-lt-mul_of_pos_right (not_too_high f false m e h) (mul-pos (pow_pos (low f)) (pow_pos (low f)))) (le_of_eq (mul_right_comm (2 ^ suc (emax f)) (down e) L²)))

root_by_units : (f : Format) (m : ℕ) (e : ℤ) → root f (fin false (suc m) e) ≡ root_of_units f (in_squared_units f (fin false (suc m) e))
unfolding root in_squared_units
root_by_units f m e = refl

-- The root is the format's nearest number to the exact root: a finite one, and every other number of the format lies farther.
pub root_is_nearest : (f : Format) (m : ℕ) (e : ℤ) → T (fits f (fin false (suc m) e)) → NoneNearer f (fin false (suc m) e) (root f (fin false (suc m) e))
root_is_nearest f m e h =
    let w = in_squared_units f (fin false (suc m) e) in
    let small = in_range_squared f m e h in
    let few = few_digits f false m e h in
    let j = (place (suc m) e (low f) (not_too_low f false m e h)).0 + low f in
    let is : w ≡ suc m * 2 ^ j = in_squared_units_lem f false m e h in
    subst (NoneNearer f (fin false (suc m) e)) (sym (root_by_units f m e))
    (record {
      number = subst (λ (y : Float). T (is_number y)) (sym (result_is f w small (suc m) j few is)) (result_value f w small (suc m) j few is).0;
      held = subst (λ (y : Float). T (fits f y)) (sym (result_is f w small (suc m) j few is)) (units_held f (n f w small (suc m) j few is) (k f w small (suc m) j few is) (n_most f w small (suc m) j few is) (in_range f w small (suc m) j few is));
      above = λ y number held. (result_nearer f w small (suc m) j few is y number held).0;
      below = λ y number held. (result_nearer f w small (suc m) j few is y number held).1;
    })
