-- `transform::entry_at` meets its contract: each entry asked for is stored.
use Prim.Native.Nat.{◌<◌}
use native.Mathlib.Omega.{arith}
use lib.ListN.{length}
use Rattle.rules.specs.Matrices.{entry}
use Rattle.rules.proofs.Matrices.{stored_inside}
use Rattle.transform.proofs.entry_at.Goals as goal

pub place-requires : goal.place-requires
place-requires c = record { r_lt_rows = rw c.if-transpose.true at c.requires.c_bound; c_lt_cols = rw c.if-transpose.true at c.requires.r_bound; rows_le_limit = c.requires.stored.rows; cols_le_limit = c.requires.stored.cols }

pub offset_bounds-mat-place : goal.offset_bounds-mat-place
offset_bounds-mat-place c = omega (arith, (let inside : c.place.result < length c.args.mat.now = rw c.place.ensures (stored_inside c.requires.stored _ _ (rw c.if-transpose.true at c.requires.c_bound) (rw c.if-transpose.true at c.requires.r_bound)) in inside))

pub bounds-mat-place : goal.bounds-mat-place
bounds-mat-place c = (let inside : c.place.result < length c.args.mat.now = rw c.place.ensures (stored_inside c.requires.stored _ _ (rw c.if-transpose.true at c.requires.c_bound) (rw c.if-transpose.true at c.requires.r_bound)) in inside)

pub place-requires-else-transpose : goal.place-requires-else-transpose
place-requires-else-transpose c = record { r_lt_rows = rw c.if-transpose.false at c.requires.r_bound; c_lt_cols = rw c.if-transpose.false at c.requires.c_bound; rows_le_limit = c.requires.stored.rows; cols_le_limit = c.requires.stored.cols }

pub offset_bounds-mat-place-else-transpose : goal.offset_bounds-mat-place-else-transpose
offset_bounds-mat-place-else-transpose c = omega (arith, (let inside_2 : c.place-else-transpose.result < length c.args.mat.now = rw c.place-else-transpose.ensures (stored_inside c.requires.stored _ _ (rw c.if-transpose.false at c.requires.r_bound) (rw c.if-transpose.false at c.requires.c_bound)) in inside_2))

pub bounds-mat-place-else-transpose : goal.bounds-mat-place-else-transpose
bounds-mat-place-else-transpose c = (let inside_2 : c.place-else-transpose.result < length c.args.mat.now = rw c.place-else-transpose.ensures (stored_inside c.requires.stored _ _ (rw c.if-transpose.false at c.requires.r_bound) (rw c.if-transpose.false at c.requires.c_bound)) in inside_2)

pub returns-then-transpose : goal.returns-then-transpose
unfolding entry
returns-then-transpose c = rw (c.if-transpose.true, c.place.ensures)

pub returns-else-transpose : goal.returns-else-transpose
unfolding entry
returns-else-transpose c = rw (c.if-transpose.false, c.place-else-transpose.ensures)
