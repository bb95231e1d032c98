-- `pieces::entry::later_piece` meets its contract.
use mathlib.Core.Path.{refl, ap, ◌∙◌}
use Rattle.std.specs.Prelude.{Err}
use Rattle.pieces.proofs.Entered.{begins, later_turned_away, later_stale, later_handed, later_fresh, later_went}
use Rattle.rules.specs.Problem.{problem_of}
use Rattle.pieces.proofs.entry.later_piece.Goals as goal

pub taken-requires : goal.taken-requires
taken-requires c = record { handed = later_handed c.args.rows.0 c.args.cols.0 c.args.storage c.args.c.now c.args.a.now c.args.b.now c.args.words.now c.args.par c.args.given c.args.work.now c.args.cone_work.now c.args.log.now c.args.record _ c.check_later-checked.ensures c.in-Ok.is _ c.read_eps.ensures; begins = begins _ c.args.record refl (later_fresh c.args.rows.0 c.args.cols.0 c.args.storage c.args.c.now c.args.a.now c.args.b.now c.args.words.now c.args.par c.args.given c.args.work.now c.args.cone_work.now c.args.log.now c.args.record _ c.check_later-checked.ensures c.in-Ok.is _ c.read_eps.ensures) }

pub returns-in-Refused : goal.returns-in-Refused
returns-in-Refused c = later_turned_away (problem_of c.args.rows.0 c.args.cols.0 c.args.storage c.args.c.now c.args.a.now c.args.b.now c.args.words.now c.args.par) c.args.given c.args.work.now c.args.cone_work.now c.args.log.now c.args.record _ _ c.check_later-checked.ensures (c.in-Err.is ∙ ap Err c.in-Refused.is)

pub returns-in-StaleRun : goal.returns-in-StaleRun
returns-in-StaleRun c = later_stale (problem_of c.args.rows.0 c.args.cols.0 c.args.storage c.args.c.now c.args.a.now c.args.b.now c.args.words.now c.args.par) c.args.given c.args.work.now c.args.cone_work.now c.args.log.now c.args.record _ c.check_later-checked.ensures (c.in-Err.is ∙ ap Err c.in-StaleRun.is)

pub returns-in-Ok : goal.returns-in-Ok
returns-in-Ok c = later_went c.args.rows.0 c.args.cols.0 c.args.storage c.args.c.now c.args.a.now c.args.b.now c.args.words.now c.args.par c.args.given c.args.work.now c.args.cone_work.now c.args.log.now c.args.record _ c.check_later-checked.ensures c.in-Ok.is _ c.read_eps.ensures c.taken.ensures
