-- `split_transform::columns_on` meets its contract.
use borrow.Author.Rules.{rules}
use native.Mathlib.Omega.{arith}
use Prim.Native.Nat.{ℕ, ◌+◌, ◌*◌, ◌≤◌, ◌<◌}
use lib.ListN.{length}
use Rattle.rules.proofs.Arithmetic.{reached_none, reached_more, reached_all}
use Rattle.side_by_side.proofs.SideBySide.{summed_each_none, summed_each_more, summed_each_all}
use Rattle.rules.proofs.Slices.{column_ends}
use native.Mathlib.Nat.{mul_comm}
use Rattle.split_transform.proofs.columns_on.Goals as goal

column_inside : (m c w k long : ℕ) → (c + w) * m ≤ long → k < w → (c + k) * m + m ≤ long
column_inside m c w k long all h = omega (arith, column_ends m (c + w) (c + k) (omega arith), mul_comm m (c + w))

pub loop-r-init : goal.loop-r-init
loop-r-init c = summed_each_none _ _

pub loop-k-init : goal.loop-k-init
loop-k-init c = reached_none _ _

pub overflow_mul-sum : goal.overflow_mul-sum
overflow_mul-sum c = omega (arith, column_inside c.args.rows.0 c.args.c (length c.args.sums.now) c.loop-k.k (length c.args.mat.now) c.requires.rows_in_bounds (omega (arith, c.loop-k-test.true, c.loop-r.invariant.same)), c.loop-r-test.true, c.requires.x_len)

pub overflow_add-sum-in-loop-k : goal.overflow_add-sum-in-loop-k
overflow_add-sum-in-loop-k c = omega (arith, column_inside c.args.rows.0 c.args.c (length c.args.sums.now) c.loop-k.k (length c.args.mat.now) c.requires.rows_in_bounds (omega (arith, c.loop-k-test.true, c.loop-r.invariant.same)), c.loop-r-test.true, c.requires.x_len)

pub offset_bounds-mat-c : goal.offset_bounds-mat-c
offset_bounds-mat-c c = omega (arith, column_inside c.args.rows.0 c.args.c (length c.args.sums.now) c.loop-k.k (length c.args.mat.now) c.requires.rows_in_bounds (omega (arith, c.loop-k-test.true, c.loop-r.invariant.same)), c.loop-r-test.true, c.requires.x_len)

pub bounds-mat-c : goal.bounds-mat-c
bounds-mat-c c = omega (arith, column_inside c.args.rows.0 c.args.c (length c.args.sums.now) c.loop-k.k (length c.args.mat.now) c.requires.rows_in_bounds (omega (arith, c.loop-k-test.true, c.loop-r.invariant.same)), c.loop-r-test.true, c.requires.x_len)

pub loop-k-preserved : goal.loop-k-preserved
loop-k-preserved c = reached_more c.loop-k.invariant (search rules)

pub loop-r-preserved : goal.loop-r-preserved
loop-r-preserved c = summed_each_more c.loop-r.invariant (reached_all c.loop-k.invariant (search rules))

pub returns : goal.returns
returns c = summed_each_all c.loop-r.invariant (search rules)
