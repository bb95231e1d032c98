-- `jacobi::place` meets its contract: within the limit nothing overflows.
use native.Mathlib.Omega.{arith}
use Rattle.rules.proofs.Columns.{packed_place-le}
use Rattle.matrix.proofs.Counted.{counted_small}
use borrow.Author.Rules.{rules}
use Rattle.jacobi.proofs.place.Goals as goal

pub overflow_add-result : goal.overflow_add-result
overflow_add-result c = omega (arith, counted_small c.triangle.ensures (search rules))

pub returns : goal.returns
returns c = rw (packed_place-le _ _ c.requires.r_le_c, (counted_small c.triangle.ensures (search rules)).0)
