-- `card_problem::fill` meets its contract: the front is filled, the rest is as it was.
use mathlib.Core.Path.{◌≡◌}
use mathlib.Core.List.{◌++◌}
use lib.ListN.{drop}
use Rattle.card_problem.specs.Problem.{numbers_at}
use Rattle.card_problem.proofs.fill.Given as goal

abbrev pub invariant-loop-k : goal.invariant-loop-k
invariant-loop-k l = l.out ≡ numbers_at l.numbers 0 l.k ++ drop l.k l.initial.out
