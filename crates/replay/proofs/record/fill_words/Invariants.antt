-- `replay::record::fill_words` meets its contract.
use Rattle.replay.specs.Records.{ConeWords}
use Rattle.replay.proofs.record.fill_words.Given as goal

abbrev pub invariant-loop-i : goal.invariant-loop-i
invariant-loop-i l = ConeWords l.record l.at l.i l.initial.words l.words
