-- `card_writer::write_bytes` meets its contract: the front is written, the rest is as it was.
use native.Mathlib.Omega.{arith}
use mathlib.Core.Path.{refl}
use Rattle.card.specs.Card.{bytes_of, card_bits}
use Rattle.card_writer.specs.Outcome.{card_of}
use Rattle.card_writer.proofs.Bytes.{byte_written, all_written}
use Rattle.card_writer.proofs.write_bytes.Goals as goal

pub loop-i-init : goal.loop-i-init
unfolding bytes_of
loop-i-init c = refl

pub loop-i-preserved : goal.loop-i-preserved
loop-i-preserved c = byte_written c.loop-i.i (card_bits (card_of c.args.head c.args.words.now c.args.numbers.now)) c.args.bytes.now c.loop-i.bytes c.card_byte.result c.loop-i.invariant (omega arith) c.card_byte.ensures.value

pub returns : goal.returns
returns c = all_written c.loop-i.i (card_bits (card_of c.args.head c.args.words.now c.args.numbers.now)) c.args.bytes.now c.loop-i.bytes c.loop-i.invariant (omega arith)
