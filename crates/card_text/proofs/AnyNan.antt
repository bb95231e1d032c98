-- "any NaN as 7ff8000000000000"
use mathlib.Core.Path.{◌≡◌, refl}
use mathlib.Core.List.{[], ◌∷◌}
use lib.Ieee.{nan, to_bits}
use Rattle.card_text.specs.Text.{number_line}

pub any_nan_is_7ff8000000000000 : number_line nan ≡ 55 ∷ 102 ∷ 102 ∷ 56 ∷ 48 ∷ 48 ∷ 48 ∷ 48 ∷ 48 ∷ 48 ∷ 48 ∷ 48 ∷ 48 ∷ 48 ∷ 48 ∷ 48 ∷ 10 ∷ []
unfolding to_bits
any_nan_is_7ff8000000000000 = refl
