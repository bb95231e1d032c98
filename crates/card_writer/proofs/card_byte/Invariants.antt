-- `card_writer::card_byte` meets its contract: after k bits it is the field of that width.
use Prim.Native.Nat.{◌*◌, ◌^◌, ◌<◌}
use mathlib.Core.Path.{◌≡◌}
use mathlib.Core.List.{◌++◌}
use lib.ListN.{drop, replicate}
use Rattle.card.specs.Card.{card_bits}
use Rattle.card.specs.Fields.{field_at}
use Rattle.card_writer.specs.Outcome.{card_of}
use Rattle.card_writer.proofs.card_byte.Given as goal

abbrev pub invariant-loop-k : goal.invariant-loop-k
invariant-loop-k l = (l.v ≡ field_at 0 l.k (drop (8 * l.i) (card_bits (card_of l.head l.words l.numbers)) ++ replicate 8 0)) × (l.v < 2 ^ l.k)
