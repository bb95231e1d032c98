-- `grouping::group_all` meets its contract.
use Rattle.rules.proofs.ConeProduct.{Grouping}
use Rattle.grouping.proofs.group_all.Given as goal

abbrev pub invariant-loop-word : goal.invariant-loop-word
invariant-loop-word l = Grouping l.words l.initial.xs l.word-index l.start l.xs
