-- `eig::rank1op` meets its contract.
use borrow.Author.Rules.{rules}
use Rattle.eig.proofs.Rank1.{columns_none, columns_more, columns_all}
use Rattle.eig.proofs.rank1op.Goals as goal

pub loop-c-init : goal.loop-c-init
loop-c-init c = (columns_none _ _ _ (search rules), search rules)

pub loop-c-preserved : goal.loop-c-preserved
loop-c-preserved c = (columns_more c.loop-c.invariant.0 (search rules) _ c.rank1op_column.ensures (search rules), search rules)

pub returns : goal.returns
returns c = columns_all c.loop-c.invariant.0 (search rules)
