-- `root::root_two` meets its contract.
use Rattle.rules.proofs.Projections.{root_two_is}
use Rattle.root.proofs.root_two.Goals as goal

pub returns : goal.returns
returns c = root_two_is
