-- `matop::trans_op` meets its contract.
use Rattle.rules.specs.Matrices.{trans_opped_by}
use Rattle.matop.specs.Operated.{operated}
use Rattle.matop.proofs.trans_op.Goals as goal

pub returns : goal.returns
unfolding trans_opped_by operated
returns c = c.operate.ensures
