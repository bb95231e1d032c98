-- `pieces::split_entry::later_split_piece` meets its contract.
use mathlib.Core.Path.{refl, ap, ◌∙◌}
use Rattle.std.specs.Prelude.{Err}
use Rattle.pieces.proofs.Entered.{begins, later_split_turned_away, later_split_stale, later_split_handed, later_split_fresh, later_split_went}
use Rattle.rules.specs.Split.{split_of}
use Rattle.pieces.proofs.split_entry.later_split_piece.Goals as goal

pub taken-requires : goal.taken-requires
taken-requires c = record { handed = later_split_handed c.args.rows.0 c.args.cols.0 c.args.first.0 c.args.c.now c.args.factory.now c.args.lesson.now c.args.b.now c.args.words.now c.args.par c.args.given c.args.work.now c.args.cone_work.now c.args.log.now c.args.record _ c.check_later_split-checked.ensures c.in-Ok.is _ c.read_eps.ensures; begins = begins _ c.args.record refl (later_split_fresh c.args.rows.0 c.args.cols.0 c.args.first.0 c.args.c.now c.args.factory.now c.args.lesson.now c.args.b.now c.args.words.now c.args.par c.args.given c.args.work.now c.args.cone_work.now c.args.log.now c.args.record _ c.check_later_split-checked.ensures c.in-Ok.is _ c.read_eps.ensures) }

pub returns-in-Refused : goal.returns-in-Refused
returns-in-Refused c = later_split_turned_away (split_of c.args.rows.0 c.args.cols.0 c.args.first.0 c.args.c.now c.args.factory.now c.args.lesson.now c.args.b.now c.args.words.now c.args.par) c.args.given c.args.work.now c.args.cone_work.now c.args.log.now c.args.record _ _ c.check_later_split-checked.ensures (c.in-Err.is ∙ ap Err c.in-Refused.is)

pub returns-in-StaleRun : goal.returns-in-StaleRun
returns-in-StaleRun c = later_split_stale (split_of c.args.rows.0 c.args.cols.0 c.args.first.0 c.args.c.now c.args.factory.now c.args.lesson.now c.args.b.now c.args.words.now c.args.par) c.args.given c.args.work.now c.args.cone_work.now c.args.log.now c.args.record _ c.check_later_split-checked.ensures (c.in-Err.is ∙ ap Err c.in-StaleRun.is)

pub returns-in-Ok : goal.returns-in-Ok
returns-in-Ok c = later_split_went c.args.rows.0 c.args.cols.0 c.args.first.0 c.args.c.now c.args.factory.now c.args.lesson.now c.args.b.now c.args.words.now c.args.par c.args.given c.args.work.now c.args.cone_work.now c.args.log.now c.args.record _ c.check_later_split-checked.ensures c.in-Ok.is _ c.read_eps.ensures c.taken.ensures
