-- `grouping::group` meets its contract.
use mathlib.Core.Path.{◌≡◌}
use Rattle.rules.specs.Product.{smallest_to}
use Rattle.grouping.proofs.group.Given as goal

abbrev pub invariant-loop-value : goal.invariant-loop-value
invariant-loop-value l = l.smallest ≡ smallest_to l.value-index l.first l.value-items
