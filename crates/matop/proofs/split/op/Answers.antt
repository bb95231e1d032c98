-- `matop::split::op` meets its contract.
use Rattle.rules.specs.Matrices.{opped_by}
use Rattle.matop.specs.Operated.{operated}
use Rattle.matop.proofs.split.op.Goals as goal

pub returns : goal.returns
unfolding opped_by operated
returns c = c.operate.ensures
