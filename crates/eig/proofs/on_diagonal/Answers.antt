-- `eig::on_diagonal` meets its contract.
use native.Mathlib.Omega.{arith}
use Rattle.matrix.proofs.Counted.{counted_small}
use Rattle.eig.proofs.on_diagonal.Goals as goal

pub overflow_add-result : goal.overflow_add-result
overflow_add-result c = omega (arith, counted_small c.triangle.ensures (omega arith))

pub returns : goal.returns
returns c = omega (arith, counted_small c.triangle.ensures (omega arith))
