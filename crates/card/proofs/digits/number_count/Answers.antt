-- `card::digits::number_count` meets its contract.
use native.Mathlib.Omega.{arith}
use mathlib.Core.Path.{◌∙◌}
use Rattle.card.proofs.Counts.{stored_is}
use Rattle.card.proofs.digits.number_count.Goals as goal

pub returns : goal.returns
returns c = let is = c.stored.ensures.value ∙ stored_is c.args.storage c.args.rows c.args.cols (omega arith) (omega arith) in record { value = rw is; bound = omega (arith, c.stored.ensures.bound) }
