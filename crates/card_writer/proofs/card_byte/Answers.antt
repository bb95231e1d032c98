-- `card_writer::card_byte` meets its contract: after k bits it is the field of that width.
use native.Mathlib.Omega.{arith}
use Prim.Native.Nat.{ℕ, ◌*◌}
use mathlib.Core.Path.{◌≡◌, sym, ap, ◌∙◌}
use mathlib.Core.List.{◌++◌}
use lib.ListN.{drop, replicate}
use Rattle.card.specs.Card.{card_bits}
use Rattle.card.specs.Fields.{field_at}
use Rattle.card_writer.specs.Bytes.{byte_at}
use Rattle.card_writer.specs.Outcome.{card_of}
use Rattle.card.proofs.Bits.{field_none, bit_room, bit_below}
use Rattle.card_writer.proofs.Bytes.{byte_more}
use Rattle.card_writer.proofs.card_byte.Goals as goal

pub loop-k-init : goal.loop-k-init
loop-k-init c = (sym (field_none _ _), omega arith)

pub overflow_mul-v : goal.overflow_mul-v
overflow_mul-v c = omega (arith, bit_room c.loop-k.v c.loop-k.k c.loop-k.invariant.1 (omega arith))

pub overflow_add-v : goal.overflow_add-v
overflow_add-v c = omega (arith, bit_room c.loop-k.v c.loop-k.k c.loop-k.invariant.1 (omega arith), c.card_bit.ensures.bound)

pub loop-k-preserved : goal.loop-k-preserved
loop-k-preserved c = (byte_more (card_bits (card_of c.args.head c.args.words.now c.args.numbers.now)) c.args.i c.loop-k.v c.card_bit.result c.loop-k.k (omega arith) c.loop-k.invariant.0 c.card_bit.ensures.value, bit_below c.loop-k.v c.card_bit.result c.loop-k.k c.loop-k.invariant.1 c.card_bit.ensures.bound)

pub returns : goal.returns
unfolding byte_at
returns c = let e : c.loop-k.k ≡ 8 = omega arith in record { value = c.loop-k.invariant.0 ∙ ap (λ (k : ℕ). field_at 0 k (drop (8 * c.args.i) (card_bits (card_of c.args.head c.args.words.now c.args.numbers.now)) ++ replicate 8 0)) e; bound = rw e at c.loop-k.invariant.1 }
