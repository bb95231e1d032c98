-- `card_problem::numbers_from` meets its contract.
use mathlib.Core.Path.{refl, ◌∙◌}
use lib.ListN.{length-replicate}
use Rattle.card_problem.proofs.Numbers.{rest_read}
use Rattle.card_problem.proofs.numbers_from.Goals as goal

pub returns : goal.returns
returns g c =
    c.fill.ensures ∙ rw length-replicate (rest_read c.args.numbers.now c.args.at g.row.N c.get.result _ c.unwrap_or.result c.get.ensures.lookup refl c.unwrap_or.ensures)
