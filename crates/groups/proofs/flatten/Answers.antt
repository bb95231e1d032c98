-- `groups::flatten` meets its contract.
use native.Mathlib.Omega.{arith}
use Rattle.groups.proofs.Front.{flattened}
use Rattle.groups.proofs.flatten.Goals as goal

pub returns : goal.returns
returns c = flattened c.args.words.now c.args.plain.now (omega arith) _ _ c.read_list.ensures
