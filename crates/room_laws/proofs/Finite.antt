-- What is finite: by its bounds, and number by number.
use Prim.Native.Nat.{ℕ, ◌+◌, ◌<◌, ◌≤◌}
use native.Mathlib.Numerals.{add-one}
use mathlib.Core.Path.{◌≡◌, refl}
use mathlib.Core.Bool.{true, false, cond, ◌&&◌}
use mathlib.Core.List.{List}
use lib.Ieee.{Float, nan, inf, fin, lt}
use lib.ListN.{length, drop, drop_of_length-le}
use lib.Seq.{drop-cons}
use Rattle.rules.specs.Arithmetic.{at}
use Rattle.rules.specs.Helpers.{is_finite, all_finite}

-- a number is finite if it lies between the infinities
finite_between : (x : Float) → cond (lt x (inf false)) (lt (inf true) x) false ≡ is_finite x
unfolding lt
finite_between nan = refl
finite_between (inf true) = refl
finite_between (inf false) = refl
finite_between (fin s m e) = refl

pub finite_below : (x : Float) → lt x (inf false) ≡ true → lt (inf true) x ≡ is_finite x
finite_below x e = rw e at (finite_between x)

pub finite_above : (x : Float) → lt x (inf false) ≡ false → false ≡ is_finite x
finite_above x e = rw e at (finite_between x)

-- the numbers from place i on
pub finite_more : (v : List Float) (i : ℕ) → i < length v → all_finite (drop i v) ≡ is_finite (at v i) && all_finite (drop (i + 1) v)
unfolding all_finite
finite_more v i h = rw (add-one i, drop-cons v i nan h)

pub finite_end : (v : List Float) (i : ℕ) → length v ≤ i → all_finite (drop i v) ≡ true
unfolding all_finite
finite_end v i h = rw (drop_of_length-le v h)
