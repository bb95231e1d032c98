-- `card::digits::field` meets its contract: after k bits it is the field of that width.
use Prim.Native.Nat.{◌^◌, ◌<◌}
use mathlib.Core.Path.{◌≡◌}
use Rattle.card.specs.Card.{bits_of_bytes}
use Rattle.card.specs.Fields.{field_at}
use Rattle.card.proofs.digits.field.Given as goal

abbrev pub invariant-loop-k : goal.invariant-loop-k
invariant-loop-k l = (l.v ≡ field_at l.at l.k (bits_of_bytes l.bytes)) × (l.v < 2 ^ l.k)
