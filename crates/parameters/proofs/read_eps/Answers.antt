-- `parameters::read_eps` meets its contract.
use mathlib.Core.Path.{◌∙◌}
use Rattle.parameters.proofs.Read.{read_zero, read_other}
use Rattle.parameters.proofs.read_eps.Goals as goal

pub returns-then-par : goal.returns-then-par
returns-then-par c = c.with_eps_zero.ensures ∙ read_zero c.args.par c.if-par.true

pub returns : goal.returns
returns c = read_other c.args.par c.if-par.false
