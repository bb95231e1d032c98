-- What a private function of this crate does, where the rules speak of `op` and of `trans_op`.
use Rattle.std.specs.Prelude.{Bool, cond, List, Float}
use Rattle.rules.specs.declared.MatType.{MatType}
use Rattle.rules.specs.Vectors.{scaled}
use Rattle.rules.specs.Matrices.{entries, is_empty, transformed, transformed_by}

-- a matrix, or the matrix transposed, as an operator
unfoldable pub operated : Bool → MatType → Float → List Float → List Float → Float → List Float → List Float
unfolding scaled transformed_by
operated transpose t alpha mat x beta y = cond (is_empty t) (scaled beta y) (transformed alpha (entries transpose t mat) x beta y)
