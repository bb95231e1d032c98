-- `pieces::taking::piece_in` meets its contract.
use Rattle.pieces.proofs.taking.piece_in.Goals as goal

pub later_in-requires-clause-fresh : goal.later_in-requires-clause-fresh
later_in-requires-clause-fresh c = c.requires.begins.fresh _ c.in-Some.is
