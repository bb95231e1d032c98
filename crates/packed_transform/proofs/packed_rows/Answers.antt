-- `packed_transform::packed_rows` meets its contract.
use borrow.Author.Rules.{rules}
use native.Mathlib.Omega.{arith}
use mathlib.Core.Path.{sym}
use Rattle.rules.specs.Matrices.{transformed_by}
use Rattle.rules.proofs.Arithmetic.{reached_none, reached_all}
use Rattle.rules.proofs.Parts.{part-places}
use Rattle.side_by_side.proofs.SideBySide.{reached_part}
use Rattle.packed_transform.proofs.packed_rows.Goals as goal

pub loop-r-init : goal.loop-r-init
loop-r-init c = (reached_none _ _, sym c.requires.y_len)

pub rows_at-requires : goal.rows_at-requires
rows_at-requires c = record { stored = c.requires.stored; x_len = c.requires.x_len; y_len = part-places c.loop-r.r 8 _ (omega (arith, c.if-r-m.true, c.loop-r.invariant.1, c.loop-r.invariant.0.same)); r_bound = omega (arith, c.if-r-m.true, c.loop-r.invariant.1, c.requires.y_len) }

pub loop-r-preserved-then-r-m : goal.loop-r-preserved-then-r-m
loop-r-preserved-then-r-m c = (reached_part c.loop-r.invariant.0 8 _ (omega (arith, c.if-r-m.true, c.loop-r.invariant.1)) c.rows_at.ensures, search rules)

pub rows_at-requires-in-loop-r : goal.rows_at-requires-in-loop-r
rows_at-requires-in-loop-r c = record { stored = c.requires.stored; x_len = c.requires.x_len; y_len = part-places c.loop-r.r 1 _ (omega (arith, c.loop-r-test.true, c.loop-r.invariant.1, c.loop-r.invariant.0.same)); r_bound = omega (arith, c.loop-r-test.true, c.loop-r.invariant.1, c.requires.y_len) }

pub loop-r-preserved : goal.loop-r-preserved
loop-r-preserved c = (reached_part c.loop-r.invariant.0 1 _ (omega (arith, c.loop-r-test.true, c.loop-r.invariant.1)) c.rows_at-in-loop-r.ensures, search rules)

pub returns : goal.returns
unfolding transformed_by
returns c = reached_all c.loop-r.invariant.0 (search rules)
