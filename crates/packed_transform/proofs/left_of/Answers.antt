-- `packed_transform::left_of` meets its contract.
use borrow.Author.Rules.{rules}
use native.Mathlib.Omega.{arith}
use mathlib.Core.Path.{refl}
use lib.ListN.{length}
use Rattle.rules.proofs.Arithmetic.{reached_none, reached_all}
use Rattle.side_by_side.proofs.SideBySide.{summed_over_none, summed_over_more, summed_over_all}
use Rattle.packed_transform.proofs.Passes.{stored, left_place, next_sum}
use Rattle.packed_transform.proofs.left_of.Goals as goal

pub loop-c-init : goal.loop-c-init
loop-c-init c = (summed_over_none _ 0 _, search rules)

pub loop-k-init : goal.loop-k-init
loop-k-init c = (reached_none _ _, refl)

pub overflow_add-r : goal.overflow_add-r
overflow_add-r c = omega (arith, c.loop-k-test.true, c.loop-k.invariant.1, c.loop-c.invariant.0.summed.same, c.loop-c-test.true, c.loop-c.invariant.1, c.requires.x_len_bound, c.requires.sums_in_bounds)

pub overflow_add-sum : goal.overflow_add-sum
overflow_add-sum c = omega (arith, left_place c.args.r c.loop-k.k c.loop-c.c _ c.triangle.ensures (omega (arith, c.loop-k-test.true, c.loop-k.invariant.1, c.loop-c.invariant.0.summed.same, c.loop-c-test.true, c.loop-c.invariant.1, c.requires.x_len_bound, c.requires.sums_in_bounds)) (omega (arith, c.loop-k-test.true, c.loop-k.invariant.1, c.loop-c.invariant.0.summed.same, c.loop-c-test.true, c.loop-c.invariant.1, c.requires.x_len_bound, c.requires.sums_in_bounds)), stored (length c.args.x.now) _ c.args.r (length c.args.sums.now) c.loop-k.k c.loop-c.c c.requires.mat_len c.requires.sums_in_bounds (omega (arith, c.loop-k-test.true, c.loop-k.invariant.1, c.loop-c.invariant.0.summed.same, c.loop-c-test.true, c.loop-c.invariant.1, c.requires.x_len_bound, c.requires.sums_in_bounds)) (omega (arith, c.loop-k-test.true, c.loop-k.invariant.1, c.loop-c.invariant.0.summed.same, c.loop-c-test.true, c.loop-c.invariant.1, c.requires.x_len_bound, c.requires.sums_in_bounds)))

pub offset_bounds-mat-triangle : goal.offset_bounds-mat-triangle
offset_bounds-mat-triangle c = omega (arith, left_place c.args.r c.loop-k.k c.loop-c.c _ c.triangle.ensures (omega (arith, c.loop-k-test.true, c.loop-k.invariant.1, c.loop-c.invariant.0.summed.same, c.loop-c-test.true, c.loop-c.invariant.1, c.requires.x_len_bound, c.requires.sums_in_bounds)) (omega (arith, c.loop-k-test.true, c.loop-k.invariant.1, c.loop-c.invariant.0.summed.same, c.loop-c-test.true, c.loop-c.invariant.1, c.requires.x_len_bound, c.requires.sums_in_bounds)), stored (length c.args.x.now) _ c.args.r (length c.args.sums.now) c.loop-k.k c.loop-c.c c.requires.mat_len c.requires.sums_in_bounds (omega (arith, c.loop-k-test.true, c.loop-k.invariant.1, c.loop-c.invariant.0.summed.same, c.loop-c-test.true, c.loop-c.invariant.1, c.requires.x_len_bound, c.requires.sums_in_bounds)) (omega (arith, c.loop-k-test.true, c.loop-k.invariant.1, c.loop-c.invariant.0.summed.same, c.loop-c-test.true, c.loop-c.invariant.1, c.requires.x_len_bound, c.requires.sums_in_bounds)))

pub bounds-mat-triangle : goal.bounds-mat-triangle
bounds-mat-triangle c = omega (arith, left_place c.args.r c.loop-k.k c.loop-c.c _ c.triangle.ensures (omega (arith, c.loop-k-test.true, c.loop-k.invariant.1, c.loop-c.invariant.0.summed.same, c.loop-c-test.true, c.loop-c.invariant.1, c.requires.x_len_bound, c.requires.sums_in_bounds)) (omega (arith, c.loop-k-test.true, c.loop-k.invariant.1, c.loop-c.invariant.0.summed.same, c.loop-c-test.true, c.loop-c.invariant.1, c.requires.x_len_bound, c.requires.sums_in_bounds)), stored (length c.args.x.now) _ c.args.r (length c.args.sums.now) c.loop-k.k c.loop-c.c c.requires.mat_len c.requires.sums_in_bounds (omega (arith, c.loop-k-test.true, c.loop-k.invariant.1, c.loop-c.invariant.0.summed.same, c.loop-c-test.true, c.loop-c.invariant.1, c.requires.x_len_bound, c.requires.sums_in_bounds)) (omega (arith, c.loop-k-test.true, c.loop-k.invariant.1, c.loop-c.invariant.0.summed.same, c.loop-c-test.true, c.loop-c.invariant.1, c.requires.x_len_bound, c.requires.sums_in_bounds)))

pub loop-k-preserved : goal.loop-k-preserved
loop-k-preserved c = (next_sum c.args.mat.now c.args.x.now _ _ _ _ (left_place c.args.r c.loop-k.k c.loop-c.c _ c.triangle.ensures (omega (arith, c.loop-k-test.true, c.loop-k.invariant.1, c.loop-c.invariant.0.summed.same, c.loop-c-test.true, c.loop-c.invariant.1, c.requires.x_len_bound, c.requires.sums_in_bounds)) (omega (arith, c.loop-k-test.true, c.loop-k.invariant.1, c.loop-c.invariant.0.summed.same, c.loop-c-test.true, c.loop-c.invariant.1, c.requires.x_len_bound, c.requires.sums_in_bounds))) c.loop-k.invariant.0 (search rules), search rules)

pub loop-c-preserved : goal.loop-c-preserved
loop-c-preserved c = (summed_over_more c.loop-c.invariant.0 (reached_all c.loop-k.invariant.0 (search rules)), search rules)

pub returns : goal.returns
returns c = summed_over_all c.loop-c.invariant.0 (search rules)
