-- `angle::tangent` meets its contract.
use Rattle.rules.specs.Helpers.{one}
use Rattle.angle.proofs.Zeta.{tangent_above, tangent_else}
use Rattle.angle.proofs.tangent.Goals as goal

pub returns-then-zeta : goal.returns-then-zeta
unfolding one
returns-then-zeta c = tangent_above c.args.a c.args.b c.args.d c.root-root.result c.root-root.ensures c.if-zeta.true

pub returns-else-zeta : goal.returns-else-zeta
unfolding one
returns-else-zeta c = tangent_else c.args.a c.args.b c.args.d c.root-root.result c.root-root.ensures c.if-zeta.false
