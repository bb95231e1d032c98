-- Laws of a matrix as an operator: an empty one only scales, and a packed one transposed is the same.
use mathlib.Core.Path.{◌≡◌}
use mathlib.Core.Bool.{Bool, true, false}
use mathlib.Core.List.{List}
use lib.Ieee.{Float}
use Rattle.rules.specs.declared.MatType.{MatType}
use Rattle.rules.specs.declared.MatType.TheVariants.{SymPack}
use Rattle.rules.specs.declared.Rows.{Rows}
use Rattle.rules.specs.Outcome.{Outcome}
use Rattle.rules.specs.Vectors.{scaled}
use Rattle.rules.specs.Matrices.{entry, entries, is_empty, transform_fits, transformed}
use Rattle.rules.proofs.Matrices.{packed-transposed, packed_fits, transformed_same}
use Rattle.matop.specs.Operated.{operated}

module _ (transpose : Bool) (alpha : Float) (mat x : List Float) (beta : Float) (y : List Float) where
  pub scales_if_empty : (t : MatType) → is_empty t ≡ true → scaled beta y ≡ operated transpose t alpha mat x beta y
  unfolding operated
  scales_if_empty t e = rw e

  module _ {answer : Bool} {after : List Float} where
    pub transforms : {fits : Bool} (t : MatType) → is_empty t ≡ false → Outcome fits (transformed alpha (entries transpose t mat) x beta y) y answer after → Outcome fits (operated transpose t alpha mat x beta y) y answer after
    unfolding operated
    transforms t e o = rw e o

    pub transforms_packed : (rows : Rows) → is_empty (SymPack rows) ≡ false → Outcome (transform_fits false (SymPack rows) mat x y) (transformed alpha (entry (SymPack rows) mat) x beta y) y answer after → Outcome (transform_fits transpose (SymPack rows) mat x y) (operated transpose (SymPack rows) alpha mat x beta y) y answer after
    transforms_packed rows e o =
        transforms (SymPack rows) e (rw (packed_fits transpose rows mat x y, transformed_same 1 alpha (entries transpose (SymPack rows) mat) (entry (SymPack rows) mat) x beta y (packed-transposed transpose rows mat)) o)
