-- What is finite in two slices.
use mathlib.Core.Path.{◌≡◌, refl, sym}
use mathlib.Core.Bool.{Bool, true, false, ◌&&◌}
use mathlib.Core.List.{List, [], ◌∷◌, ◌++◌}
use lib.Ieee.{Float}
use Rattle.rules.specs.Helpers.{is_finite, all_finite}

pub finite_joined : (v w : List Float) → all_finite (v ++ w) ≡ all_finite v && all_finite w
unfolding all_finite
finite_joined [] w = refl
finite_joined (x ∷ v) w = rw (finite_joined v w) (sym (and_assoc (is_finite x) (all_finite v) (all_finite w)))
  where
    and_assoc : (a b c : Bool) → (a && b) && c ≡ a && (b && c)
    and_assoc true b c = refl
    and_assoc false b c = refl
