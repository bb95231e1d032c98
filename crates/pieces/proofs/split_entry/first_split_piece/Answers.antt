-- `pieces::split_entry::first_split_piece` meets its contract.
use Rattle.solver.proofs.Outcomes.{split_handed}
use Rattle.pieces.proofs.Entered.{begins_first, first_split_turned_away, first_split_went}
use Rattle.rules.specs.Split.{split_of}
use Rattle.pieces.proofs.split_entry.first_split_piece.Goals as goal

pub taken-requires : goal.taken-requires
taken-requires c = record { handed = split_handed c.args.rows.0 c.args.cols.0 c.args.first.0 c.args.c.now c.args.factory.now c.args.lesson.now c.args.b.now c.args.words.now c.args.par c.args.work.now c.args.cone_work.now _ c.check_split-checked.ensures c.in-Ok.is _ c.read_eps.ensures; begins = begins_first _ }

pub returns-in-Err : goal.returns-in-Err
returns-in-Err c = first_split_turned_away (split_of c.args.rows.0 c.args.cols.0 c.args.first.0 c.args.c.now c.args.factory.now c.args.lesson.now c.args.b.now c.args.words.now c.args.par) c.args.given c.args.work.now c.args.cone_work.now c.args.log.now _ _ c.check_split-checked.ensures c.in-Err.is

pub returns-in-Ok : goal.returns-in-Ok
returns-in-Ok c = first_split_went c.args.rows.0 c.args.cols.0 c.args.first.0 c.args.c.now c.args.factory.now c.args.lesson.now c.args.b.now c.args.words.now c.args.par c.args.given c.args.work.now c.args.cone_work.now c.args.log.now _ c.check_split-checked.ensures c.in-Ok.is _ c.read_eps.ensures c.taken.ensures
