-- `checks::check_split` meets its contract.
use mathlib.Core.Path.{◌∙◌}
use Rattle.checks.proofs.Refused.{parts_of_split}
use Rattle.checks.proofs.check_split.Goals as goal

pub returns : goal.returns
returns c = c.check_parts.ensures ∙ parts_of_split c.args.par c.args.rows.0 c.args.cols.0 c.args.words.now c.args.work c.args.cone_work c.args.first.0 c.args.c.now c.args.factory.now c.args.lesson.now c.args.b.now
