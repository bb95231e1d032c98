-- Larger and smaller of two f64 don't ask which stands first: where neither is less than the other, the two are one.
use Prim.Native.Nat.{ℕ, zero, suc, ◌+◌, ◌*◌, ◌^◌}
use native.Mathlib.Nat.{le_antisymm, mul-pos, mul_right_comm, eq_of_mul-eq-mul_right}
use native.Mathlib.Omega.{arith}
use lib.IntN.{ℤ}
use borrow.Author.Tests.{lt-ltb}
use mathlib.Core.Path.{◌≡◌, refl, sym, ◌∙◌, ap}
use mathlib.Core.Bool.{Bool, true, false, cond, ◌&&◌, ◌||◌, true≢false, false≢true}
use lib.Dec.{T, ltb, eqb, eqb-suc-zero, nltb→le, ltb→lt}
use lib.Ieee.{Float, nan, inf, fin, is_nan, lt, neg, fits, binary64, low, up, down}
use lib.Ieee.Fits.{down_pos, neg-fits}
use Rattle.rules.specs.Helpers.{is_zero, less, larger, smaller}
use Rattle.rules.specs.Root.{in_units, is_number}
use Rattle.rules.proofs.Helpers.{only_nan, above_zero}
use Rattle.rules.proofs.RootNearest.{units_are_whole}
use Rattle.rules.proofs.RootOnly.{same_value}

-- Two numbers of the format with the same value are one.
same_units : (m n : ℕ) (e d : ℤ) → T (fits binary64 (fin false m e)) → T (fits binary64 (fin false n d))
    → m * up e * down d ≡ n * up d * down e → in_units binary64 (fin false m e) ≡ in_units binary64 (fin false n d)
same_units m n e d p q h =
    let a = in_units binary64 (fin false m e) in
    let b = in_units binary64 (fin false n d) in
    let L = 2 ^ low binary64 in
    let crossed : a * down e * down d ≡ b * down e * down d =
    ap (λ (x : ℕ). x * down d) (sym (units_are_whole binary64 false m e p))
    ∙ mul_right_comm (m * up e) L (down d)
    ∙ ap (λ (x : ℕ). x * L) h
    ∙ mul_right_comm (n * up d) (down e) L
    ∙ ap (λ (x : ℕ). x * down e) (units_are_whole binary64 false n d q)
    ∙ mul_right_comm b (down d) (down e) in
    eq_of_mul-eq-mul_right (down e) (down_pos e) a b (eq_of_mul-eq-mul_right (down d) (down_pos d) (a * down e) (b * down e) crossed)

same_magnitude : (m n : ℕ) (e d : ℤ) → T (fits binary64 (fin false m e)) → T (fits binary64 (fin false n d))
    → ltb (m * up e * down d) (n * up d * down e) ≡ false → ltb (n * up d * down e) (m * up e * down d) ≡ false → fin false m e ≡ fin false n d
unfolding is_number
same_magnitude m n e d p q h k =
    same_value binary64 (fin false m e) (fin false n d) tt tt p q
    (same_units m n e d p q (le_antisymm (nltb→le (n * up d * down e) (m * up e * down d) (rw k tt)) (nltb→le (m * up e * down d) (n * up d * down e) (rw h tt))))

-- beside what is not +0 two compare as ever
no_plus_zero : (p t : Bool) → (p && false || t) ≡ t
no_plus_zero true t = refl
no_plus_zero false t = refl

-- Of two numbers of unlike signs the negative one is less, and so is −0 beside +0.
unlike_signs : (m n : ℕ) (e d : ℤ) → less (fin true m e) (fin false n d) ≡ true
unfolding less lt
unlike_signs zero zero e d = refl
unlike_signs (suc m) n e d =
    rw (eqb-suc-zero m, lt-ltb 0 (suc m * up e * down d + n * up d * down e) (omega (arith, mul-pos (above_zero m e) (down_pos d))))
unlike_signs zero (suc n) e d =
    rw (eqb-suc-zero n, lt-ltb 0 (0 * up e * down d + suc n * up d * down e) (omega (arith, mul-pos (above_zero n d) (down_pos e))))

-- Where neither is less the two are one f64.
pub neither_is_less : (a b : Float) → T (fits binary64 a) → T (fits binary64 b) → is_nan a ≡ false → is_nan b ≡ false → less a b ≡ false → less b a ≡ false → a ≡ b
unfolding less lt is_nan neg
neither_is_less nan b p q x y h k = absurd (true≢false x)
neither_is_less (inf s) nan p q x y h k = absurd (true≢false y)
neither_is_less (inf true) (inf true) p q x y h k = refl
neither_is_less (inf true) (inf false) p q x y h k = absurd (true≢false h)
neither_is_less (inf false) (inf true) p q x y h k = absurd (true≢false k)
neither_is_less (inf false) (inf false) p q x y h k = refl
neither_is_less (inf true) (fin t n d) p q x y h k = absurd (true≢false h)
neither_is_less (inf false) (fin t n d) p q x y h k = absurd (true≢false (sym (no_plus_zero (is_zero true (fin t n d)) true) ∙ k))
neither_is_less (fin s m e) nan p q x y h k = absurd (true≢false y)
neither_is_less (fin s m e) (inf true) p q x y h k = absurd (true≢false k)
neither_is_less (fin s m e) (inf false) p q x y h k = absurd (true≢false (sym (no_plus_zero (is_zero true (fin s m e)) true) ∙ h))
neither_is_less (fin false m e) (fin false n d) p q x y h k = same_magnitude m n e d p q h k
neither_is_less (fin true m e) (fin true n d) p q x y h k =
    ap neg (same_magnitude m n e d (neg-fits binary64 (fin true m e) p) (neg-fits binary64 (fin true n d) q)
    (sym (no_plus_zero (eqb n 0) _) ∙ k) (sym (no_plus_zero (eqb m 0) _) ∙ h))
neither_is_less (fin true m e) (fin false n d) p q x y h k = absurd (true≢false (sym (unlike_signs m n e d) ∙ h))
neither_is_less (fin false m e) (fin true n d) p q x y h k = absurd (true≢false (sym (unlike_signs n m d e) ∙ k))

not_both_below : (x y : ℕ) → ltb x y ≡ true → ltb y x ≡ true → ⊥
not_both_below x y h k = omega (arith, ltb→lt x y (rw h tt), ltb→lt y x (rw k tt))

not_both_less : (a b : Float) → less a b ≡ true → less b a ≡ true → ⊥
unfolding less lt
not_both_less nan b h k = false≢true h
not_both_less (inf s) nan h k = false≢true h
not_both_less (inf true) (inf true) h k = false≢true h
not_both_less (inf true) (inf false) h k = false≢true k
not_both_less (inf false) (inf t) h k = false≢true h
not_both_less (inf true) (fin t n d) h k = false≢true (sym (no_plus_zero (is_zero true (fin t n d)) false) ∙ k)
not_both_less (inf false) (fin t n d) h k = false≢true h
not_both_less (fin s m e) nan h k = false≢true (sym (no_plus_zero (is_zero true (fin s m e)) false) ∙ h)
not_both_less (fin s m e) (inf true) h k = false≢true (sym (no_plus_zero (is_zero true (fin s m e)) false) ∙ h)
not_both_less (fin s m e) (inf false) h k = false≢true k
not_both_less (fin false m e) (fin false n d) h k = not_both_below (m * up e * down d) (n * up d * down e) h k
not_both_less (fin true m e) (fin true n d) h k =
    not_both_below (m * up e * down d) (n * up d * down e) (sym (no_plus_zero (eqb n 0) _) ∙ k) (sym (no_plus_zero (eqb m 0) _) ∙ h)
not_both_less (fin true m e) (fin false n d) h k = false≢true k
not_both_less (fin false m e) (fin true n d) h k = false≢true h

either : (p q t u : Bool) (a b : Float) → (p ≡ true → q ≡ true → a ≡ b) → (p ≡ false → q ≡ false → t ≡ false → u ≡ false → a ≡ b) → (t ≡ true → u ≡ true → ⊥)
    → cond p b (cond q a (cond t a b)) ≡ cond q a (cond p b (cond u b a))
either true true t u a b both same apart = sym (both refl refl)
either true false t u a b both same apart = refl
either false true t u a b both same apart = refl
either false false true true a b both same apart = absurd (apart refl refl)
either false false true false a b both same apart = refl
either false false false true a b both same apart = refl
either false false false false a b both same apart = sym (same refl refl refl refl)

both_nan : (a b : Float) → is_nan a ≡ true → is_nan b ≡ true → a ≡ b
both_nan a b p q = only_nan a p ∙ sym (only_nan b q)

pub larger_in_either_order : (a b : Float) → T (fits binary64 a) → T (fits binary64 b) → larger a b ≡ larger b a
unfolding larger
larger_in_either_order a b p q =
    either (is_nan a) (is_nan b) (less b a) (less a b) a b (both_nan a b) (λ x y h k. neither_is_less a b p q x y k h) (λ h k. not_both_less a b k h)

pub smaller_in_either_order : (a b : Float) → T (fits binary64 a) → T (fits binary64 b) → smaller a b ≡ smaller b a
unfolding smaller
smaller_in_either_order a b p q =
    either (is_nan a) (is_nan b) (less a b) (less b a) a b (both_nan a b) (neither_is_less a b p q) (not_both_less a b)
