-- `columns::dense_cols` meets its contract.
use mathlib.Core.Path.{◌∙◌}
use borrow.Author.Rules.{rules}
use Rattle.rules.proofs.Arithmetic.{reached_none, reached_more, reached_all}
use Rattle.columns.proofs.Shown.{cols_added}
use Rattle.columns.proofs.dense_cols.Goals as goal

pub loop-k-init : goal.loop-k-init
loop-k-init c = reached_none _ _

pub loop-k-preserved : goal.loop-k-preserved
loop-k-preserved c = rw (c.abssum.ensures, c.column.ensures) (reached_more c.loop-k.invariant (search rules))

pub returns : goal.returns
returns c = reached_all c.loop-k.invariant (search rules) ∙ cols_added c.requires.split_stored _ c.requires.y_len
