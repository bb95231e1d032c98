-- `matrix::triangle` meets its contract.
use native.Mathlib.Omega.{arith}
use mathlib.Core.Path.{sym}
use Rattle.matrix.proofs.Counted.{counted_is, counted_fits, counted_above}
use Rattle.matrix.proofs.triangle.Goals as goal

pub returns-then-n-gt-LARGEST_ORDER : goal.returns-then-n-gt-LARGEST_ORDER
returns-then-n-gt-LARGEST_ORDER c = sym (counted_above c.args.n c.if-n-gt-LARGEST_ORDER.true)

pub overflow_mul-result : goal.overflow_mul-result
overflow_mul-result c = omega (arith, counted_fits c.args.n c.if-n-gt-LARGEST_ORDER.false)

pub returns : goal.returns
returns c = sym (counted_is c.args.n c.if-n-gt-LARGEST_ORDER.false)
