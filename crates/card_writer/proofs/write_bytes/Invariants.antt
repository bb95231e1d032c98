-- `card_writer::write_bytes` meets its contract: the front is written, the rest is as it was.
use mathlib.Core.Path.{◌≡◌}
use mathlib.Core.List.{◌++◌}
use lib.ListN.{drop}
use Rattle.card.specs.Card.{bytes_of, card_bits}
use Rattle.card_writer.specs.Outcome.{card_of}
use Rattle.card_writer.proofs.write_bytes.Given as goal

abbrev pub invariant-loop-i : goal.invariant-loop-i
invariant-loop-i l = l.bytes ≡ bytes_of l.i (card_bits (card_of l.head l.words l.numbers)) ++ drop l.i l.initial.bytes
