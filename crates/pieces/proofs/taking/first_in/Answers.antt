-- `pieces::taking::first_in` meets its contract.
use borrow.Author.Rules.{rules}
use Rattle.pieces.proofs.Begun.{first_prepares, first_left}
use Rattle.pieces.proofs.taking.first_in.Goals as goal

pub unwrap-norms-requires : goal.unwrap-norms-requires
unwrap-norms-requires c = first_prepares c.requires.lent c.requires.at_zero c.prepare.ensures

pub returns : goal.returns
returns c = first_left c.requires.lent c.requires.at_zero c.prepare.ensures (search rules) c.unwrap-norms.ensures _ _ _ c.steps_in.ensures
