-- A matrix as an operator of edition two: the rules speak of `op` and of `trans_op`, and this of both.
use Rattle.std.specs.Prelude.{Bool, cond, List, Float}
use Rattle.rules.specs.declared.MatType.{MatType}
use Rattle.rules.specs.Vectors.{scaled}
use Rattle.rules.specs.Matrices.{entries, is_empty, transformed_by}

-- a matrix, or the matrix transposed, as an operator of edition two
unfoldable pub operated_by_halves : Bool → MatType → Float → List Float → List Float → Float → List Float → List Float
unfolding scaled transformed_by
operated_by_halves transpose t alpha mat x beta y =
    cond (is_empty t) (scaled beta y) (transformed_by 2 alpha (entries transpose t mat) x beta y)
