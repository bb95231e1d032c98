-- `columns::row_sum` meets its contract.
use Rattle.rules.proofs.Arithmetic.{summed_none, summed_more}
use Rattle.columns.proofs.row_sum.Goals as goal

pub loop-c-init : goal.loop-c-init
loop-c-init c = summed_none _ _

pub loop-c-preserved : goal.loop-c-preserved
loop-c-preserved c = rw c.magnitude-sum.ensures (summed_more c.loop-c.invariant)
