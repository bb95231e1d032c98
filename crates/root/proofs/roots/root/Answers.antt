-- `root::roots::root` meets its contract: below zero, at zero and at NaN by the rule's own cases, above zero by the pattern. Assumes nothing.
use Prim.Native.Nat.{ℕ, zero, suc, ◌+◌, ◌*◌, ◌/◌, ◌%◌, ◌^◌, ◌≤◌, ◌<◌}
use native.Mathlib.Nat.{eq-zero-or-pos, lt_of_not-le, mul-pos, zero-lt-suc}
use native.Mathlib.Omega.{arith}
use mathlib.Core.Path.{◌≡◌, refl, sym, ap, ◌∙◌, subst}
use mathlib.Core.Logic.{⊎_elim}
use mathlib.Core.Bool.{Bool, true, false, not, cond}
use borrow.Author.Tests.{ltb-true, ltb-false, le-leb}
use lib.IntN.{ℤ}
use lib.Dec.{T, leb, eqb}
use lib.Ieee as Ieee
use lib.Ieee.{Float, nan, inf, fin, binary64, up, down, odd, fits, is_nan, of_fields, of_bits, to_bits}
use lib.Ieee.Fits.{up_pos}
use lib.Ieee.Bits.{of_bits-to_bits}
use Rattle.rules.specs.Root.{root}
use Rattle.rules.proofs.RootPatterns.{pattern_of_no_nan}
use Rattle.root.proofs.roots.root.Goals as goal

abbrev +0 : Float
+0 = of_bits binary64 0

never : {X : Type 0} → false ≡ true → X
never e = absurd (subst T (sym e) tt)

-- ---- a number above zero
above_no_nan : (x : Float) → Ieee.lt +0 x ≡ true → T (not (is_nan x))
unfolding Ieee.lt is_nan of_bits
above_no_nan nan e = never e
above_no_nan (inf s) e = tt
above_no_nan (fin s m d) e = tt

zero_not_above : Ieee.lt +0 +0 ≡ false
unfolding Ieee.lt of_bits
zero_not_above = refl

odd_not_above : (t k : ℕ) → Ieee.lt +0 (odd 53 true t k 1074) ≡ false
unfolding Ieee.lt of_bits odd
odd_not_above zero k = refl
odd_not_above (suc t) k = refl

cond_not_above : (b : Bool) (x y : Float) → Ieee.lt +0 x ≡ false → Ieee.lt +0 y ≡ false → Ieee.lt +0 (cond b x y) ≡ false
cond_not_above true x y p q = p
cond_not_above false x y p q = q

special_not_above : (b : Bool) → Ieee.lt +0 (cond b (inf true) nan) ≡ false
unfolding Ieee.lt of_bits
special_not_above true = refl
special_not_above false = refl

fields_not_above : (j t : ℕ) → Ieee.lt +0 (of_fields binary64 true j t) ≡ false
unfolding of_fields
fields_not_above zero t = odd_not_above t 0
fields_not_above (suc j) t = cond_not_above (eqb (suc j) 2047) (cond (eqb t 0) (inf true) nan) (odd 53 true (2 ^ 52 + t) j 1074) (special_not_above (eqb t 0)) (odd_not_above (2 ^ 52 + t) j)

signed_fields : (b : ℕ) → leb (2 ^ 63) b ≡ true → of_bits binary64 b ≡ of_fields binary64 true (b % 2 ^ 63 / 2 ^ 52) (b % 2 ^ 52)
unfolding of_bits
signed_fields b e = ap (λ (s : Bool). of_fields binary64 s (b % 2 ^ 63 / 2 ^ 52) (b % 2 ^ 52)) e

signed_not_above : (b : ℕ) → 2 ^ 63 ≤ b → Ieee.lt +0 (of_bits binary64 b) ≡ false
signed_not_above b h = ap (Ieee.lt +0) (signed_fields b (le-leb (2 ^ 63) b h)) ∙ fields_not_above (b % 2 ^ 63 / 2 ^ 52) (b % 2 ^ 52)

module _ (x : Float) (good : T (fits binary64 x)) (above : Ieee.lt +0 x ≡ true) where
  read_back : of_bits binary64 (to_bits binary64 x) ≡ x
  read_back = of_bits-to_bits binary64 x good

  pattern_pos : 0 < to_bits binary64 x
  pattern_pos = ⊎_elim
      (λ e. never (sym zero_not_above ∙ ap (Ieee.lt +0) (ap (of_bits binary64) (sym e) ∙ read_back) ∙ above))
      (λ p. p)
      (eq-zero-or-pos (to_bits binary64 x))

  pattern_unsigned : to_bits binary64 x < 2 ^ 63
  pattern_unsigned = lt_of_not-le (λ h. never (sym (signed_not_above (to_bits binary64 x) h) ∙ ap (Ieee.lt +0) read_back ∙ above))

  infinite : 2047 * 2 ^ 52 ≤ to_bits binary64 x → x ≡ inf false
  unfolding of_bits
  infinite h = sym read_back ∙ ap (of_bits binary64) (last (to_bits binary64 x) h pattern_unsigned (pattern_of_no_nan x good (above_no_nan x above)))
    where
      last : (b : ℕ) → 2047 * 2 ^ 52 ≤ b → b < 2 ^ 63 → b % 2 ^ 63 ≤ 2047 * 2 ^ 52 → b ≡ 2047 * 2 ^ 52
      last b lo hi most = omega arith

root_of_infinity : (x : Float) → x ≡ inf false → x ≡ root binary64 x
unfolding root
root_of_infinity x e = e ∙ ap (root binary64) (sym e)

-- ---- a number that is not
no_less : (x : ℕ) → 0 < 0 * x → ⊥
no_less x h = omega arith

root_below : (x : Float) → Ieee.lt x +0 ≡ true → nan ≡ root binary64 x
unfolding Ieee.lt of_bits root
root_below nan e = never e
root_below (inf true) e = refl
root_below (inf false) e = never e
root_below (fin true zero d) e = absurd (none (up d) (down d) (ltb-true 0 (0 * up d * 1 + 0 * down d) e))
  where
    none : (u v : ℕ) → 0 < 0 * u * 1 + 0 * v → ⊥
    none u v h = omega arith
root_below (fin true (suc m) d) e = refl
root_below (fin false zero d) e = absurd (none (up d) (down d) (ltb-true (0 * up d * 1) (0 * down d) e))
  where
    none : (u v : ℕ) → 0 * u * 1 < 0 * v → ⊥
    none u v h = omega arith
root_below (fin false (suc m) d) e = absurd (none (suc m * up d * 1) (down d) (ltb-true (suc m * up d * 1) (0 * down d) e))
  where
    none : (a v : ℕ) → a < 0 * v → ⊥
    none a v h = omega arith

some : (m : ℕ) (d : ℤ) → 0 < suc m * up d * 1
some m d = mul-pos (mul-pos (zero-lt-suc m) (up_pos d)) (zero-lt-suc 0)

root_beside : (x : Float) → Ieee.lt +0 x ≡ false → Ieee.lt x +0 ≡ false → x ≡ root binary64 x
unfolding Ieee.lt of_bits root
root_beside nan p q = refl
root_beside (inf true) p q = never (sym q)
root_beside (inf false) p q = never (sym p)
root_beside (fin s zero d) p q = refl
root_beside (fin true (suc m) d) p q = absurd (none (suc m * up d * 1) (down d) (some m d) (ltb-false 0 (suc m * up d * 1 + 0 * down d) q))
  where
    none : (a v : ℕ) → 0 < a → a + 0 * v ≤ 0 → ⊥
    none a v p h = omega arith
root_beside (fin false (suc m) d) p q = absurd (none (suc m * up d * 1) (down d) (some m d) (ltb-false (0 * down d) (suc m * up d * 1) p))
  where
    none : (a v : ℕ) → 0 < a → a ≤ 0 * v → ⊥
    none a v p h = omega arith

pub float_to_bits-b : goal.float_to_bits-b
float_to_bits-b c = above_no_nan c.args.x c.if-x.true

pub root_of_low-requires : goal.root_of_low-requires
root_of_low-requires c = (pattern_pos c.args.x ((let held : T (fits binary64 c.args.x) = subst T (sym c.well_formed.0.1) tt in held)) c.if-x.true, c.if-b-lt-EXPONENT.true)

pub root_of_normal-requires : goal.root_of_normal-requires
root_of_normal-requires c = (c.if-b-lt-EXPONENT.false, c.if-b-lt-INFINITE.true)

pub returns-then-b-lt-EXPONENT : goal.returns-then-b-lt-EXPONENT
returns-then-b-lt-EXPONENT c = c.root_of_low.ensures ∙ ap (root binary64) (of_bits-to_bits binary64 c.args.x ((let held : T (fits binary64 c.args.x) = subst T (sym c.well_formed.0.1) tt in held)))

pub returns-then-b-lt-INFINITE : goal.returns-then-b-lt-INFINITE
returns-then-b-lt-INFINITE c = c.root_of_normal.ensures ∙ ap (root binary64) (of_bits-to_bits binary64 c.args.x ((let held : T (fits binary64 c.args.x) = subst T (sym c.well_formed.0.1) tt in held)))

pub returns-else-b-lt-INFINITE : goal.returns-else-b-lt-INFINITE
returns-else-b-lt-INFINITE c = root_of_infinity c.args.x (infinite c.args.x ((let held : T (fits binary64 c.args.x) = subst T (sym c.well_formed.0.1) tt in held)) c.if-x.true c.if-b-lt-INFINITE.false)

pub returns-then-x-2 : goal.returns-then-x-2
unfolding of_bits
returns-then-x-2 c = root_below c.args.x c.if-x-2.true

pub returns-else-x-2 : goal.returns-else-x-2
returns-else-x-2 c = root_beside c.args.x c.if-x.false c.if-x-2.false
