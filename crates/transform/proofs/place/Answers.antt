-- `transform::place` meets its contract: within the limits nothing overflows.
use native.Mathlib.Omega.{arith}
use mathlib.Core.Path.{refl}
use borrow.Author.Rules.{rules}
use Rattle.rules.specs.Matrices.{place}
use Rattle.rules.proofs.Matrices.{product_small}
use Rattle.transform.proofs.place.Goals as goal

pub overflow_mul-result : goal.overflow_mul-result
overflow_mul-result c = omega (arith, product_small c.args.c c.args.rows.0 (search rules) (search rules))

pub overflow_add-result : goal.overflow_add-result
overflow_add-result c = omega (arith, product_small c.args.c c.args.rows.0 (search rules) (search rules))

pub returns : goal.returns
unfolding place
returns c = refl
