-- The rules' helpers are what the library's methods answer.
use mathlib.Core.Path.{◌≡◌, refl, sym, ◌∙◌, ap}
use mathlib.Core.Bool.{Bool, true, false, not, cond, ◌&&◌, ◌||◌, true≢false, false≢true}
use mathlib.Core.Logic.{inl, inr}
use lib.Dec.{T}
use lib.Ieee.{Float, nan, inf, fin, is_nan, lt, le, eq, fits, binary64}
use lib.Ieee.Bits.{is_true}
use Rattle.std.specs.Float.{float_with_sign, float_max, float_min, IsFloatMax, IsFloatMin}
use Rattle.std.proofs.lemmas.Float.{le_of_lt, lt-or-eq, eq_flip, eq-not_lt, le_left, le_right, T_from_true}
use Rattle.rules.specs.Arithmetic.{+0}
use Rattle.rules.specs.Helpers.{larger, smaller, magnitude}
use Rattle.rules.proofs.Helpers.{equals_itself, larger_of_others, smaller_of_others}
use Rattle.rules.proofs.EitherOrder.{larger_in_either_order, smaller_in_either_order}

pub abs_is_magnitude : (x : Float) → float_with_sign false x ≡ magnitude x
unfolding float_with_sign magnitude
abs_is_magnitude nan = refl
abs_is_magnitude (inf s) = refl
abs_is_magnitude (fin s m e) = refl

swapped : (p q : Bool) → (p && q) ≡ false → (q && p) ≡ false
swapped true true h = h
swapped true false h = refl
swapped false true h = refl
swapped false false h = refl

turned : (a b : Float) → (eq a +0 && eq b +0) ≡ false → (eq b +0 && eq a +0) ≡ false
turned a b h = swapped (eq a +0) (eq b +0) h

-- one test of the library's, and two of the rules'
by_order : (atmost below none : Bool) (a b : Float) → (below ≡ true → atmost ≡ true) → (atmost ≡ true → below ≡ false → none ≡ false → a ≡ b) → cond (atmost || none) a b ≡ cond below a (cond (not none) b a)
by_order true true n a b h same = refl
by_order true false true a b h same = refl
by_order true false false a b h same = same refl refl refl
by_order false true n a b h same = absurd (false≢true (h refl))
by_order false false true a b h same = refl
by_order false false false a b h same = refl

not_so : (p : Bool) → (T p → ⊥) → p ≡ false
not_so true h = absurd (h tt)
not_so false h = refl

below_atmost : (x y : Float) → lt x y ≡ true → le x y ≡ true
below_atmost x y h = is_true (le x y) (le_of_lt x y (T_from_true _ h))

no_nan : (x : Float) → T (not (is_nan x)) → is_nan x ≡ false
unfolding is_nan
no_nan nan t = absurd t
no_nan (inf s) t = refl
no_nan (fin s m e) t = refl

-- where neither lies below the other, the order of two that compare equal tells nothing
record Alike (a b : Float) : Type 0 where
  ab : lt a b ≡ false
  ba : lt b a ≡ false
  aa : eq a a ≡ true
  bb : eq b b ≡ true

alike : (a b : Float) → le a b ≡ true → lt a b ≡ false → Alike a b
alike a b atmost above =
    let t : T (le a b) = T_from_true _ atmost in
    let back : lt b a ≡ false = elim (lt-or-eq a b t) [ inl l ↦ absurd (true≢false (sym (is_true _ l) ∙ above)) | inr e ↦ not_so _ (eq-not_lt b a (eq_flip a b e)) ] in
    record {
      ab = above;
      ba = back;
      aa = equals_itself a ∙ ap not (no_nan a (le_left a b t));
      bb = equals_itself b ∙ ap not (no_nan b (le_right a b t));
    }

larger_alike : (a b : Float) → T (fits binary64 a) → T (fits binary64 b) → (eq a +0 && eq b +0) ≡ false → Alike a b → a ≡ b
larger_alike a b f g h s =
    sym (rw (larger_of_others a b h, larger_of_others b a (turned a b h), s.ab, s.ba, s.aa, s.bb) at (larger_in_either_order a b f g))

max_is_larger : (a b : Float) → T (fits binary64 a) → T (fits binary64 b) → (eq a +0 && eq b +0) ≡ false → float_max a b ≡ larger a b
max_is_larger a b f g h =
    rw (larger_of_others a b h, equals_itself b)
    (by_order (le b a) (lt b a) (is_nan b) a b (below_atmost b a) (λ p q n. sym (larger_alike b a g f (turned a b h) (alike b a p q))))

min_is_smaller : (a b : Float) → T (fits binary64 a) → T (fits binary64 b) → (eq a +0 && eq b +0) ≡ false → float_min a b ≡ smaller a b
min_is_smaller a b f g h =
    rw (smaller_of_others a b h, equals_itself b)
    (by_order (le a b) (lt a b) (is_nan b) a b (below_atmost a b) (λ p q n. larger_alike a b f g h (alike a b p q)))

-- either answer that the library's methods may give of two that are no zeros
pub max_of_others : (a b r : Float) → T (fits binary64 a) → T (fits binary64 b) → (eq a +0 && eq b +0) ≡ false → IsFloatMax a b r → r ≡ larger a b
max_of_others a b r f g h m =
    elim m [ inl e ↦ e ∙ max_is_larger a b f g h | inr e ↦ e ∙ max_is_larger b a g f (turned a b h) ∙ larger_in_either_order b a g f ]

pub min_of_others : (a b r : Float) → T (fits binary64 a) → T (fits binary64 b) → (eq a +0 && eq b +0) ≡ false → IsFloatMin a b r → r ≡ smaller a b
min_of_others a b r f g h m =
    elim m [ inl e ↦ e ∙ min_is_smaller a b f g h | inr e ↦ e ∙ min_is_smaller b a g f (turned a b h) ∙ smaller_in_either_order b a g f ]
