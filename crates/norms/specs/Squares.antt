-- What private functions of this crate add up, and what they make of it.
use Rattle.std.specs.Prelude.{Bool, cond, List, Float}
use Rattle.rules.specs.Arithmetic.{◌*ᶠ◌}
use Rattle.rules.specs.Vectors.{two^−600, scaled_norm_by, norm_by}

-- the square of a number, or of 2 ^ -600 times it
abbrev pub square_of : Bool → Float → Float
square_of smaller v = cond smaller ((two^−600 *ᶠ v) *ᶠ (two^−600 *ᶠ v)) (v *ᶠ v)

-- edition two's norm, or that of the smaller numbers, made larger again
abbrev pub norm_or_scaled : Bool → List Float → Float
norm_or_scaled smaller x = cond smaller (scaled_norm_by 2 x) (norm_by 2 x)
