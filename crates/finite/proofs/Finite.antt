-- Laws of what is finite.
use mathlib.Core.Path.{◌≡◌, refl}
use mathlib.Core.List.{List, [], ◌∷◌}
use lib.Ieee.{Float, nan, inf, fin}
use Rattle.std.specs.Float.{float_is_finite}
use Rattle.std.specs.List.{list_all}
use Rattle.rules.specs.Helpers.{is_finite, all_finite}

pub is_finite_is : (x : Float) → float_is_finite x ≡ is_finite x
unfolding float_is_finite
is_finite_is nan = refl
is_finite_is (inf s) = refl
is_finite_is (fin s m e) = refl

pub all_finite_is : (v : List Float) → list_all is_finite v ≡ all_finite v
unfolding all_finite
all_finite_is [] = refl
all_finite_is (x ∷ v) = rw (all_finite_is v)
