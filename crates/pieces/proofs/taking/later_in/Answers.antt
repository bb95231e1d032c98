-- `pieces::taking::later_in` meets its contract.
use native.Mathlib.Omega.{arith}
use mathlib.Core.Path.{refl}
use Rattle.pieces.proofs.Begun.{later_left, later_behind}
use Rattle.pieces.proofs.taking.later_in.Goals as goal

pub steps_in-requires-clause-behind : goal.steps_in-requires-clause-behind
steps_in-requires-clause-behind c = later_behind c.requires.lent c.requires.fresh

pub returns : goal.returns
returns c = later_left c.args.record c.requires.lent c.requires.at_zero c.take_up.ensures refl _ _ _ (omega (arith, c.if-given-eq0.false)) c.steps_in.ensures
