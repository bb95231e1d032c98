-- `packed_transform::across` meets its contract.
use borrow.Author.Rules.{rules}
use native.Mathlib.Omega.{arith}
use mathlib.Core.Path.{refl}
use lib.ListN.{length}
use Rattle.rules.proofs.Arithmetic.{reached_none, reached_all}
use Rattle.side_by_side.proofs.SideBySide.{summed_over_none, summed_over_more, summed_over_all}
use Rattle.packed_transform.proofs.Passes.{stored, next_sum}
use Rattle.packed_transform.proofs.across.Goals as goal

pub loop-c-init : goal.loop-c-init
loop-c-init c = (summed_over_none _ _ _, search rules, refl)

pub loop-k-init : goal.loop-k-init
loop-k-init c = (reached_none _ _, refl)

pub place-requires : goal.place-requires
place-requires c = record { r_le_limit = omega (arith, c.loop-k-test.true, c.loop-k.invariant.1, c.loop-c.invariant.0.summed.same, c.loop-c-test.true, c.loop-c.invariant.2, c.requires.x_len_bound, c.requires.sums_in_bounds); c_le_limit = omega (arith, c.loop-k-test.true, c.loop-k.invariant.1, c.loop-c.invariant.0.summed.same, c.loop-c-test.true, c.loop-c.invariant.2, c.requires.x_len_bound, c.requires.sums_in_bounds) }

pub offset_bounds-mat-place : goal.offset_bounds-mat-place
offset_bounds-mat-place c = omega (arith, c.place.ensures, stored (length c.args.x.now) _ c.args.r (length c.args.sums.now) c.loop-k.k c.loop-c.c c.requires.mat_len c.requires.sums_in_bounds (omega (arith, c.loop-k-test.true, c.loop-k.invariant.1, c.loop-c.invariant.0.summed.same, c.loop-c-test.true, c.loop-c.invariant.2, c.requires.x_len_bound, c.requires.sums_in_bounds)) (omega (arith, c.loop-k-test.true, c.loop-k.invariant.1, c.loop-c.invariant.0.summed.same, c.loop-c-test.true, c.loop-c.invariant.2, c.requires.x_len_bound, c.requires.sums_in_bounds)))

pub bounds-mat-place : goal.bounds-mat-place
bounds-mat-place c = omega (arith, c.place.ensures, stored (length c.args.x.now) _ c.args.r (length c.args.sums.now) c.loop-k.k c.loop-c.c c.requires.mat_len c.requires.sums_in_bounds (omega (arith, c.loop-k-test.true, c.loop-k.invariant.1, c.loop-c.invariant.0.summed.same, c.loop-c-test.true, c.loop-c.invariant.2, c.requires.x_len_bound, c.requires.sums_in_bounds)) (omega (arith, c.loop-k-test.true, c.loop-k.invariant.1, c.loop-c.invariant.0.summed.same, c.loop-c-test.true, c.loop-c.invariant.2, c.requires.x_len_bound, c.requires.sums_in_bounds)))

pub loop-k-preserved : goal.loop-k-preserved
loop-k-preserved c = (next_sum c.args.mat.now c.args.x.now _ _ _ _ c.place.ensures c.loop-k.invariant.0 (search rules), search rules)

pub loop-c-preserved : goal.loop-c-preserved
loop-c-preserved c = (summed_over_more c.loop-c.invariant.0 (reached_all c.loop-k.invariant.0 (search rules)), search rules, search rules)

pub returns : goal.returns
returns c = summed_over_all c.loop-c.invariant.0 (search rules)
