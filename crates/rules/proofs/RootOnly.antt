-- The nearest number of the format is the only one that is nearest: a number that passes `NoneNearer` is the root. Assumes nothing.
use Prim.Native.Nat.{ℕ, zero, suc, ◌+◌, ◌*◌, ◌/◌, ◌%◌, ◌^◌, ◌≤◌, ◌<◌}
use native.Mathlib.Nat.{le_antisymm, lt_irrefl, zero-lt-suc, add_comm, mul-one, one-mul, mul-pos, zero-mul, zero-div, pow-succ'}
use native.Mathlib.Omega.{arith}
use mathlib.Core.Path.{◌≡◌, refl, sym, ap, ◌∙◌, subst}
use mathlib.Core.Bool.{Bool, true, false, ◌&&◌}
use lib.IntN.{ℤ, pos, negsuc}
use lib.Dec.{T, leb, ltb, eqb, eqb→eq}
use lib.Pow.{pow_pos}
use lib.Ieee.{Float, nan, inf, fin, Format, prec, emax, low, up, down, fits}
use lib.Ieee.Fits.{and_l}
use Rattle.rules.specs.Root.{root, in_units, in_squared_units, is_number, NoneNearer}
use Rattle.rules.proofs.Columns.{by_less}
use Rattle.rules.proofs.RootNearest.{odd_below, power_le, place, not_too_low, in_units_lem, root_is_nearest}

-- ---- two numbers that are nearest have one value

same_units : {f : Format} {x r r' : Float} → NoneNearer f x r → NoneNearer f x r' → in_units f r ≡ in_units f r'
same_units {f} {x} {r} {r'} p q =
    by_less (in_units f r) (in_units f r') (λ l. absurd (apart (p.above r' q.number q.held l) (q.below r p.number p.held l)))
    (λ l. by_less (in_units f r') (in_units f r) (λ k. absurd (apart' (q.above r p.number p.held k) (p.below r' q.number q.held k))) (λ k. omega arith))
  where
    sum : (a b : ℕ) → (a + b) * (a + b) ≡ (b + a) * (b + a)
    sum a b = ap (λ (c : ℕ). c * c) (add_comm a b)

    between : (w s t : ℕ) → s ≡ t → w < s → t < w → ⊥
    between w s t e a b = omega arith

    apart : 4 * in_squared_units f x < (in_units f r + in_units f r') * (in_units f r + in_units f r') → (in_units f r' + in_units f r) * (in_units f r' + in_units f r) < 4 * in_squared_units f x → ⊥
    apart a b = between (4 * in_squared_units f x) ((in_units f r + in_units f r') * (in_units f r + in_units f r')) ((in_units f r' + in_units f r) * (in_units f r' + in_units f r)) (sum (in_units f r) (in_units f r')) a b

    apart' : 4 * in_squared_units f x < (in_units f r' + in_units f r) * (in_units f r' + in_units f r) → (in_units f r + in_units f r') * (in_units f r + in_units f r') < 4 * in_squared_units f x → ⊥
    apart' a b = between (4 * in_squared_units f x) ((in_units f r' + in_units f r) * (in_units f r' + in_units f r)) ((in_units f r + in_units f r') * (in_units f r + in_units f r')) (sum (in_units f r') (in_units f r)) a b

-- ---- a value of the format is written in one way

is_odd : (f : Format) (s : Bool) (m : ℕ) (e : ℤ) → T (fits f (fin s (suc m) e)) → suc m % 2 ≡ 1
unfolding fits
is_odd f s m e t =
    eqb→eq (suc m % 2) 1 (and_l (eqb (suc m % 2) 1) (ltb (suc m) (2 ^ prec f)) (and_l (eqb (suc m % 2) 1 && ltb (suc m) (2 ^ prec f)) (leb (down e) (2 ^ low f))
    (and_l (eqb (suc m % 2) 1 && ltb (suc m) (2 ^ prec f) && leb (down e) (2 ^ low f)) (ltb (suc m * up e) (2 ^ suc (emax f) * down e)) t)))

two_up : (p : ℕ) → 0 < p → 2 * p ≡ 1 → ⊥
two_up p h e = omega arith

flat : (e : ℤ) → up e * down e ≡ 1 → e ≡ pos 0
flat (pos zero) h = refl
flat (pos (suc k)) h = absurd (two_up (2 ^ k) (pow_pos k) (sym (pow-succ' 2 k) ∙ sym (mul-one (2 ^ suc k)) ∙ h))
flat (negsuc k) h = absurd (two_up (2 ^ k) (pow_pos k) (sym (pow-succ' 2 k) ∙ sym (one-mul (2 ^ suc k)) ∙ h))

zero_exponent : (f : Format) (s : Bool) (e : ℤ) → T (fits f (fin s zero e)) → e ≡ pos 0
unfolding fits
zero_exponent f s e t = flat e (eqb→eq (up e * down e) 1 t)

zero_units : (f : Format) (s : Bool) (e : ℤ) → in_units f (fin s zero e) ≡ 0
unfolding in_units
zero_units f s e = ap (λ (x : ℕ). x / down e) (ap (λ (x : ℕ). x * 2 ^ low f) (zero-mul (up e)) ∙ zero-mul (2 ^ low f)) ∙ zero-div (down e)

some_units : (f : Format) (s : Bool) (m : ℕ) (e : ℤ) → T (fits f (fin s (suc m) e)) → in_units f (fin s (suc m) e) ≡ 0 → ⊥
some_units f s m e h z =
    lt_irrefl 0 (subst (λ (x : ℕ). 0 < x) (sym (in_units_lem f s m e h) ∙ z) (mul-pos (zero-lt-suc m) (pow_pos (place (suc m) e (low f) (not_too_low f s m e h)).0)))

-- where a number's digits stand tells its exponent
place_tells : (m n : ℕ) (e g : ℤ) (l : ℕ) (h : down e ≤ 2 ^ l) (k : down g ≤ 2 ^ l) → (place m e l h).0 ≡ (place n g l k).0 → e ≡ g
unfolding place
place_tells m n (pos a) (pos b) l h k e =
    let same : a ≡ b = omega arith in
    ap pos same
place_tells m n (pos a) (negsuc b) l h k e =
    let within : suc b ≤ l = power_le b l k in
    absurd (omega arith)
place_tells m n (negsuc a) (pos b) l h k e =
    let within : suc a ≤ l = power_le a l h in
    absurd (omega arith)
place_tells m n (negsuc a) (negsuc b) l h k e =
    let within : suc a ≤ l = power_le a l h in
    let within' : suc b ≤ l = power_le b l k in
    let same : a ≡ b = omega arith in
    ap negsuc same

pub same_value : (f : Format) (x y : Float) → T (is_number x) → T (is_number y) → T (fits f x) → T (fits f y) → in_units f x ≡ in_units f y → x ≡ y
unfolding is_number
same_value f nan y n k p q u = absurd n
same_value f (inf s) y n k p q u = absurd n
same_value f (fin true m e) y n k p q u = absurd n
same_value f (fin false m e) nan n k p q u = absurd k
same_value f (fin false m e) (inf s) n k p q u = absurd k
same_value f (fin false m e) (fin true m' g) n k p q u = absurd k
same_value f (fin false zero e) (fin false zero g) n k p q u = ap (λ (z : ℤ). fin false zero z) (zero_exponent f false e p ∙ sym (zero_exponent f false g q))
same_value f (fin false zero e) (fin false (suc m') g) n k p q u = absurd (some_units f false m' g q (sym u ∙ zero_units f false e))
same_value f (fin false (suc m) e) (fin false zero g) n k p q u = absurd (some_units f false m e p (u ∙ zero_units f false g))
same_value f (fin false (suc m) e) (fin false (suc m') g) n k p q u =
    let i = (place (suc m) e (low f) (not_too_low f false m e p)).0 in
    let j = (place (suc m') g (low f) (not_too_low f false m' g q)).0 in
    let same : suc m * 2 ^ i ≡ suc m' * 2 ^ j = sym (in_units_lem f false m e p) ∙ u ∙ in_units_lem f false m' g q in
    let a = odd_below (suc m) (suc m') i j (is_odd f false m e p) same in
    let b = odd_below (suc m') (suc m) j i (is_odd f false m' g q) (sym same) in
    let digits : suc m ≡ suc m' = le_antisymm a.1 b.1 in
    let exponent : e ≡ g = place_tells (suc m) (suc m') e g (low f) (not_too_low f false m e p) (not_too_low f false m' g q) (le_antisymm b.0 a.0) in
    λ t. fin false (digits t) (exponent t)

-- ---- the only one

-- No two numbers are nearest to one root.
pub nearest_once : {f : Format} {x r r' : Float} → NoneNearer f x r → NoneNearer f x r' → r ≡ r'
nearest_once {f} {x} {r} {r'} p q = same_value f r r' p.number q.number p.held q.held (same_units p q)

-- What passes is the rule's root.
pub nearest_is_root : (f : Format) (m : ℕ) (e : ℤ) (r : Float) → T (fits f (fin false (suc m) e)) → NoneNearer f (fin false (suc m) e) r → r ≡ root f (fin false (suc m) e)
nearest_is_root f m e r h p = nearest_once p (root_is_nearest f m e h)
