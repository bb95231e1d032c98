-- `groups::opens` meets its contract: a group, at a level that is left, whose words all follow.
use native.Mathlib.Omega.{arith}
use Rattle.std.proofs.lemmas.Bool.Decides.{nat_tests}
use Rattle.rules.specs.Groups.{opens}
use Rattle.groups.proofs.opens.Goals as goal

pub returns-then-levels-ne0 : goal.returns-then-levels-ne0
unfolding opens
returns-then-levels-ne0 c = grind (arith, nat_tests)

pub returns-else-levels-ne0 : goal.returns-else-levels-ne0
unfolding opens
returns-else-levels-ne0 c = grind (arith, nat_tests)
