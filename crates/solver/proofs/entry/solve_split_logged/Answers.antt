-- `solver::entry::solve_split_logged` meets its contract: turned away by the check, or run as the problem is read.
use Rattle.rules.specs.Split.{split_of}
use Rattle.solver.proofs.Outcomes.{split_handed, split_turned_away, split_went_through}
use Rattle.solver.proofs.entry.solve_split_logged.Goals as goal

pub accepted-requires : goal.accepted-requires
accepted-requires c = split_handed c.args.rows.0 c.args.cols.0 c.args.first.0 c.args.c.now c.args.factory.now c.args.lesson.now c.args.b.now c.args.words.now c.args.par c.args.work.now c.args.cone_work.now _ c.check_split-checked.ensures c.in-Ok.is _ c.read_eps.ensures

pub returns-in-Err : goal.returns-in-Err
returns-in-Err c = split_turned_away (split_of c.args.rows.0 c.args.cols.0 c.args.first.0 c.args.c.now c.args.factory.now c.args.lesson.now c.args.b.now c.args.words.now c.args.par) c.args.work.now c.args.cone_work.now c.args.log.now _ _ c.check_split-checked.ensures c.in-Err.is _ c.turned_away.ensures

pub returns-in-Ok : goal.returns-in-Ok
returns-in-Ok c = split_went_through c.args.rows.0 c.args.cols.0 c.args.first.0 c.args.c.now c.args.factory.now c.args.lesson.now c.args.b.now c.args.words.now c.args.par c.args.work.now c.args.cone_work.now _ c.check_split-checked.ensures c.in-Ok.is _ c.read_eps.ensures c.args.log.now _ _ _ _ c.accepted.ensures
