-- `card::reader::fill_words` meets its contract: the front is read, the rest is as it was.
use mathlib.Core.Path.{◌≡◌}
use mathlib.Core.List.{◌++◌}
use lib.ListN.{drop}
use Rattle.card.specs.Card.{bits_of_bytes}
use Rattle.card.specs.Fields.{fields_at}
use Rattle.card.proofs.reader.fill_words.Given as goal

abbrev pub invariant-loop-i : goal.invariant-loop-i
invariant-loop-i l = l.words ≡ fields_at l.i 23 16 (bits_of_bytes l.bytes) ++ drop l.i l.initial.words
