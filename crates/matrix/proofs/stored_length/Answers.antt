-- `matrix::stored_length` meets its contract: sizes within the limits can be multiplied.
use native.Mathlib.Omega.{arith}
use Rattle.rules.proofs.Matrices.{product_small}
use Rattle.matrix.proofs.Counted.{counted_small}
use Rattle.matrix.proofs.stored_length.Goals as goal

pub overflow_mul-result : goal.overflow_mul-result
overflow_mul-result c = omega (arith, product_small c.in-General.rows.0 c.in-General.cols.0 (rw c.in-General.is at c.requires.t_bound) (omega (arith, rw c.in-General.is at c.requires.t_bound_2)))

pub returns-in-General : goal.returns-in-General
returns-in-General c = rw c.in-General.is

pub returns-in-SymPack : goal.returns-in-SymPack
returns-in-SymPack c = rw c.in-SymPack.is (counted_small c.triangle.ensures (rw c.in-SymPack.is at c.requires.t_bound)).0
