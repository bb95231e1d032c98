-- `solver::entry::solve_logged` meets its contract: turned away by the check, or run as the problem is read.
use Rattle.rules.specs.Problem.{problem_of}
use Rattle.solver.proofs.Outcomes.{handed, turned_away, went_through}
use Rattle.solver.proofs.entry.solve_logged.Goals as goal

pub accepted-requires : goal.accepted-requires
accepted-requires c = handed c.args.rows.0 c.args.cols.0 c.args.storage c.args.c.now c.args.a.now c.args.b.now c.args.words.now c.args.par c.args.work.now c.args.cone_work.now _ c.check-checked.ensures c.in-Ok.is _ c.read_eps.ensures

pub returns-in-Err : goal.returns-in-Err
returns-in-Err c = turned_away (problem_of c.args.rows.0 c.args.cols.0 c.args.storage c.args.c.now c.args.a.now c.args.b.now c.args.words.now c.args.par) c.args.work.now c.args.cone_work.now c.args.log.now _ _ c.check-checked.ensures c.in-Err.is _ c.turned_away.ensures

pub returns-in-Ok : goal.returns-in-Ok
returns-in-Ok c = went_through c.args.rows.0 c.args.cols.0 c.args.storage c.args.c.now c.args.a.now c.args.b.now c.args.words.now c.args.par c.args.work.now c.args.cone_work.now _ c.check-checked.ensures c.in-Ok.is _ c.read_eps.ensures c.args.log.now _ _ _ _ c.accepted.ensures
