-- `absadd::line_sum` meets its contract: the line asked for is stored.
use Prim.Native.Nat.{◌+◌, ◌*◌, ◌<◌, ◌≤◌}
use native.Mathlib.Omega.{arith}
use mathlib.Core.Path.{◌∙◌}
use lib.ListN.{length}
use borrow.Author.Rules.{rules}
use Rattle.rules.proofs.Matrices.{column_inside, row_inside, column-sum, row_sum, row_sum_none}
use Rattle.absadd.proofs.line_sum.Goals as goal

pub returns-then-mat-eq0 : goal.returns-then-mat-eq0
returns-then-mat-eq0 c = rw c.if-transpose.true (row_sum_none c.requires.stored _ (rw c.if-transpose.true at c.requires.k_bound) c.if-mat-eq0.true)

pub offset_bounds-mat-k : goal.offset_bounds-mat-k
offset_bounds-mat-k c =
    let inside_row : c.args.k < length c.args.mat.now = row_inside c.requires.stored _ (rw c.if-transpose.true at c.requires.k_bound) (search rules) in
    omega (arith, inside_row)

pub slice_bounds-abssum-count : goal.slice_bounds-abssum-count
slice_bounds-abssum-count c =
    let inside_row : c.args.k < length c.args.mat.now = row_inside c.requires.stored _ (rw c.if-transpose.true at c.requires.k_bound) (search rules) in
    omega (arith, inside_row)

pub slice_bounds-abssum-start : goal.slice_bounds-abssum-start
slice_bounds-abssum-start c =
    let inside_row : c.args.k < length c.args.mat.now = row_inside c.requires.stored _ (rw c.if-transpose.true at c.requires.k_bound) (search rules) in
    omega (arith, inside_row)

pub returns-then-transpose : goal.returns-then-transpose
returns-then-transpose c = c.abssum.ensures ∙ rw c.if-transpose.true (row_sum c.requires.stored _ (rw c.if-transpose.true at c.requires.k_bound) (search rules))

pub overflow_mul-start : goal.overflow_mul-start
overflow_mul-start c =
    let inside_column : c.args.k * c.args.rows.0 + c.args.rows.0 ≤ length c.args.mat.now = column_inside c.requires.stored _ (rw c.if-transpose.false at c.requires.k_bound) in
    omega (arith, inside_column)

pub overflow_add-end : goal.overflow_add-end
overflow_add-end c =
    let inside_column : c.args.k * c.args.rows.0 + c.args.rows.0 ≤ length c.args.mat.now = column_inside c.requires.stored _ (rw c.if-transpose.false at c.requires.k_bound) in
    omega (arith, inside_column)

pub offset_bounds-mat-start : goal.offset_bounds-mat-start
offset_bounds-mat-start c =
    let inside_column : c.args.k * c.args.rows.0 + c.args.rows.0 ≤ length c.args.mat.now = column_inside c.requires.stored _ (rw c.if-transpose.false at c.requires.k_bound) in
    omega (arith, inside_column)

pub slice_bounds-abssum-end-2 : goal.slice_bounds-abssum-end-2
slice_bounds-abssum-end-2 c =
    let inside_column : c.args.k * c.args.rows.0 + c.args.rows.0 ≤ length c.args.mat.now = column_inside c.requires.stored _ (rw c.if-transpose.false at c.requires.k_bound) in
    omega (arith, inside_column)

pub returns : goal.returns
returns c = c.abssum-2.ensures ∙ rw c.if-transpose.false (column-sum c.requires.stored _ (rw c.if-transpose.false at c.requires.k_bound))
