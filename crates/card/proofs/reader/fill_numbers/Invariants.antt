-- `card::reader::fill_numbers` meets its contract: the front is read, the rest is as it was.
use mathlib.Core.Path.{◌≡◌}
use mathlib.Core.List.{◌++◌}
use lib.ListN.{drop}
use Rattle.card.specs.Card.{bits_of_bytes}
use Rattle.card.specs.Fields.{fields_at}
use Rattle.card.proofs.reader.fill_numbers.Given as goal

abbrev pub invariant-loop-i : goal.invariant-loop-i
invariant-loop-i l = l.numbers ≡ fields_at l.i l.at 64 (bits_of_bytes l.bytes) ++ drop l.i l.initial.numbers
