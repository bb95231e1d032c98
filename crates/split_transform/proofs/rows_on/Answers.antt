-- `split_transform::rows_on` meets its contract.
use borrow.Author.Rules.{rules}
use native.Mathlib.Omega.{arith}
use Prim.Native.Nat.{ℕ, ◌+◌, ◌*◌, ◌<◌}
use mathlib.Core.Path.{◌≡◌, refl}
use mathlib.Core.List.{List}
use lib.Ieee.{Float}
use lib.ListN.{length, set}
use Rattle.rules.specs.Arithmetic.{◌+ᶠ◌, ◌*ᶠ◌, at}
use Rattle.rules.proofs.Arithmetic.{Reached, reached_none, reached_more, reached_all}
use Rattle.side_by_side.proofs.SideBySide.{summed_each_none, summed_each_more, summed_each_all}
use Rattle.rules.proofs.Slices.{column_ends}
use Rattle.split_transform.proofs.rows_on.Goals as goal

-- the number read stands in row r + k of its column
next_sum : (mat x : List Float) (m r c k start : ℕ) {xs ys : List Float} → start ≡ c * m + r
    → Reached (λ i s. s +ᶠ at mat (c * m + (r + i)) *ᶠ at x c) k xs ys
    → k < length xs
    → Reached (λ i s. s +ᶠ at mat (c * m + (r + i)) *ᶠ at x c) (k + 1) xs (set ys k (at ys k +ᶠ at mat (start + k) *ᶠ at x c))
next_sum mat x m r c k start is reached inside =
    let there : start + k ≡ c * m + (r + k) = omega arith in
    rw there (reached_more reached inside)

pub loop-c-init : goal.loop-c-init
loop-c-init c = summed_each_none _ _

pub overflow_mul-start : goal.overflow_mul-start
overflow_mul-start c = omega (arith, column_ends c.args.rows.0 (length c.args.x.now) c.loop-c.c (omega arith), c.requires.mat_len)

pub overflow_add-start : goal.overflow_add-start
overflow_add-start c = omega (arith, column_ends c.args.rows.0 (length c.args.x.now) c.loop-c.c (omega arith), c.requires.mat_len, c.requires.sums_bound)

pub loop-k-init : goal.loop-k-init
loop-k-init c = (reached_none _ _, refl)

pub overflow_add-sum : goal.overflow_add-sum
overflow_add-sum c = omega (arith, column_ends c.args.rows.0 (length c.args.x.now) c.loop-c.c (omega arith), c.loop-k-test.true, c.loop-c.invariant.same, c.requires.mat_len, c.requires.sums_bound)

pub offset_bounds-mat-start : goal.offset_bounds-mat-start
offset_bounds-mat-start c = omega (arith, column_ends c.args.rows.0 (length c.args.x.now) c.loop-c.c (omega arith), c.loop-k-test.true, c.loop-c.invariant.same, c.requires.mat_len, c.requires.sums_bound)

pub bounds-mat-start : goal.bounds-mat-start
bounds-mat-start c = omega (arith, column_ends c.args.rows.0 (length c.args.x.now) c.loop-c.c (omega arith), c.loop-k-test.true, c.loop-c.invariant.same, c.requires.mat_len, c.requires.sums_bound)

pub loop-k-preserved : goal.loop-k-preserved
loop-k-preserved c = (next_sum c.args.mat.now c.args.x.now _ _ _ _ _ c.loop-k.invariant.1 c.loop-k.invariant.0 (search rules), search rules)

pub loop-c-preserved : goal.loop-c-preserved
loop-c-preserved c = summed_each_more c.loop-c.invariant (reached_all c.loop-k.invariant.0 (search rules))

pub returns : goal.returns
returns c = summed_each_all c.loop-c.invariant (search rules)
