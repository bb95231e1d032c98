-- `halved_transform::place` meets its contract.
use native.Mathlib.Omega.{arith}
use Rattle.rules.specs.Matrices.{place}
use Rattle.rules.proofs.Matrices.{product_small}
use Rattle.halved_transform.proofs.place.Goals as goal

pub overflow_mul-result : goal.overflow_mul-result
overflow_mul-result c = omega (arith, product_small c.args.c c.in-General.rows.0 (omega (arith, rw c.in-General.is at c.requires.c_bound, rw c.in-General.is at c.requires.t_bound_2)) (omega (arith, rw c.in-General.is at c.requires.t_bound)))

pub overflow_add-result : goal.overflow_add-result
overflow_add-result c = omega (arith, product_small c.args.c c.in-General.rows.0 (omega (arith, rw c.in-General.is at c.requires.c_bound, rw c.in-General.is at c.requires.t_bound_2)) (omega (arith, rw c.in-General.is at c.requires.t_bound)), rw c.in-General.is at c.requires.r_bound, rw c.in-General.is at c.requires.t_bound)

pub packed_place-requires : goal.packed_place-requires
packed_place-requires c = record { r_lt_order = rw c.in-SymPack.is at c.requires.r_bound; c_lt_order = rw c.in-SymPack.is at c.requires.c_bound; order_le_limit = rw c.in-SymPack.is at c.requires.t_bound }

pub returns-in-General : goal.returns-in-General
unfolding place
returns-in-General c = rw c.in-General.is

pub returns-in-SymPack : goal.returns-in-SymPack
unfolding place
returns-in-SymPack c = rw c.in-SymPack.is c.packed_place.ensures
