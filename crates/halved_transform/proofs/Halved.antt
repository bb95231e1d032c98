-- Laws of a matrix as an operator of edition two.
use Prim.Native.Nat.{◌≤◌}
use mathlib.Core.Path.{◌≡◌}
use mathlib.Core.Bool.{Bool, true, false}
use mathlib.Core.List.{List}
use lib.Ieee.{Float}
use lib.ListN.{length}
use Rattle.rules.specs.declared.MatType.{MatType}
use Rattle.rules.specs.Limits.{limit}
use Rattle.rules.specs.Vectors.{scaled}
use Rattle.rules.specs.Matrices.{entries, is_empty, transformed_by}
use Rattle.rules.proofs.Matrices.{Fitting}
use Rattle.halved_transform.specs.Halved.{operated_by_halves}

module _ (transpose : Bool) (t : MatType) (alpha : Float) (mat x : List Float) (beta : Float) (y : List Float) where
  -- "A matrix with no rows or no columns only scales y by beta."
  pub scales_if_empty : is_empty t ≡ true → scaled beta y ≡ operated_by_halves transpose t alpha mat x beta y
  unfolding operated_by_halves
  scales_if_empty e = rw e

  pub transforms_else : is_empty t ≡ false → transformed_by 2 alpha (entries transpose t mat) x beta y ≡ operated_by_halves transpose t alpha mat x beta y
  unfolding operated_by_halves
  transforms_else e = rw e

-- a line is no longer than the limit
pub line_within : (transpose : Bool) {t : MatType} {mat x y : List Float} → Fitting transpose t mat x y → length x ≤ limit
line_within true f = rw f.wide f.stored.rows
line_within false f = rw f.wide f.stored.cols
