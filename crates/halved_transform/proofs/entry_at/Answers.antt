-- `halved_transform::entry_at` meets its contract.
use mathlib.Core.Path.{◌∙◌}
use Rattle.rules.specs.Matrices.{entry}
use Rattle.rules.proofs.Matrices.{stored_inside}
use Rattle.halved_transform.proofs.entry_at.Goals as goal

pub place-requires : goal.place-requires
place-requires c = record { r_bound = rw c.if-transpose.true at c.requires.c_bound; c_bound = rw c.if-transpose.true at c.requires.r_bound; t_bound = c.requires.stored.rows; t_bound_2 = c.requires.stored.cols }

pub stored_at-requires : goal.stored_at-requires
stored_at-requires c = rw c.place.ensures (stored_inside c.requires.stored _ _ (rw c.if-transpose.true at c.requires.c_bound) (rw c.if-transpose.true at c.requires.r_bound))

pub returns-then-transpose : goal.returns-then-transpose
unfolding entry
returns-then-transpose c = rw c.if-transpose.true (c.stored_at.ensures ∙ rw c.place.ensures)

pub place-requires-else-transpose : goal.place-requires-else-transpose
place-requires-else-transpose c = record { r_bound = rw c.if-transpose.false at c.requires.r_bound; c_bound = rw c.if-transpose.false at c.requires.c_bound; t_bound = c.requires.stored.rows; t_bound_2 = c.requires.stored.cols }

pub stored_at-requires-else-transpose : goal.stored_at-requires-else-transpose
stored_at-requires-else-transpose c = rw c.place-else-transpose.ensures (stored_inside c.requires.stored _ _ (rw c.if-transpose.false at c.requires.r_bound) (rw c.if-transpose.false at c.requires.c_bound))

pub returns-else-transpose : goal.returns-else-transpose
unfolding entry
returns-else-transpose c = rw c.if-transpose.false (c.stored_at-else-transpose.ensures ∙ rw c.place-else-transpose.ensures)
