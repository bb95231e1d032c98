-- `columns::dense_rows` meets its contract.
use Prim.Native.Nat.{◌-◌}
use mathlib.Core.Path.{◌∙◌}
use borrow.Author.Rules.{rules}
use Rattle.rules.proofs.Arithmetic.{reached_none, reached_all}
use Rattle.columns.proofs.Shown.{row_reached, rows_added}
use Rattle.columns.proofs.dense_rows.Goals as goal

pub loop-r-init : goal.loop-r-init
loop-r-init c = reached_none _ _

pub loop-r-preserved : goal.loop-r-preserved
loop-r-preserved c = rw c.row_sum.ensures (row_reached c.args.rows.0 c.args.factory.now c.args.lesson.now c.args.first.0 (c.args.cols.0 - c.args.first.0) c.row_sum-so_far.ensures c.loop-r.invariant (search rules))

pub returns : goal.returns
returns c = reached_all c.loop-r.invariant (search rules) ∙ rows_added c.requires.split_stored _ c.requires.y_len
