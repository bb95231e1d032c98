-- `halved_transform::packed_place` meets its contract.
use native.Mathlib.Omega.{arith}
use borrow.Author.Rules.{rules}
use borrow.Author.Tests.{lt-ltb, le-ltb}
use Rattle.rules.specs.Matrices.{packed_place}
use Rattle.matrix.proofs.Counted.{counted_small}
use Rattle.halved_transform.proofs.packed_place.Goals as goal

pub overflow_add-result : goal.overflow_add-result
overflow_add-result c = omega (arith, counted_small c.triangle.ensures (search rules))

pub overflow_add-result-else-r-c : goal.overflow_add-result-else-r-c
overflow_add-result-else-r-c c = omega (arith, counted_small c.triangle-else-r-c.ensures (search rules))

pub returns-then-r-c : goal.returns-then-r-c
unfolding packed_place
returns-then-r-c c = rw (lt-ltb _ _ c.if-r-c.true, (counted_small c.triangle.ensures (search rules)).0)

pub returns-else-r-c : goal.returns-else-r-c
unfolding packed_place
returns-else-r-c c = rw (le-ltb _ _ c.if-r-c.false, (counted_small c.triangle-else-r-c.ensures (search rules)).0)
