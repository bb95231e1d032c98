-- `pieces::entry::first_piece` meets its contract.
use Rattle.solver.proofs.Outcomes.{handed}
use Rattle.pieces.proofs.Entered.{begins_first, first_turned_away, first_went}
use Rattle.rules.specs.Problem.{problem_of}
use Rattle.pieces.proofs.entry.first_piece.Goals as goal

pub taken-requires : goal.taken-requires
taken-requires c = record { handed = handed c.args.rows.0 c.args.cols.0 c.args.storage c.args.c.now c.args.a.now c.args.b.now c.args.words.now c.args.par c.args.work.now c.args.cone_work.now _ c.check-checked.ensures c.in-Ok.is _ c.read_eps.ensures; begins = begins_first _ }

pub returns-in-Err : goal.returns-in-Err
returns-in-Err c = first_turned_away (problem_of c.args.rows.0 c.args.cols.0 c.args.storage c.args.c.now c.args.a.now c.args.b.now c.args.words.now c.args.par) c.args.given c.args.work.now c.args.cone_work.now c.args.log.now _ _ c.check-checked.ensures c.in-Err.is

pub returns-in-Ok : goal.returns-in-Ok
returns-in-Ok c = first_went c.args.rows.0 c.args.cols.0 c.args.storage c.args.c.now c.args.a.now c.args.b.now c.args.words.now c.args.par c.args.given c.args.work.now c.args.cone_work.now c.args.log.now _ c.check-checked.ensures c.in-Ok.is _ c.read_eps.ensures c.taken.ensures
