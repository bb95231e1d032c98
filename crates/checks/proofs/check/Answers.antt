-- `checks::check` meets its contract: A stands in the first of two slices.
use mathlib.Core.Path.{◌∙◌}
use Rattle.checks.proofs.Refused.{parts_of_whole}
use Rattle.checks.proofs.check.Goals as goal

pub returns : goal.returns
returns c = c.check_parts.ensures ∙ parts_of_whole c.args.par c.args.rows.0 c.args.cols.0 c.args.words.now c.args.work c.args.cone_work c.args.c.now c.args.a.now c.args.b.now c.args.storage
