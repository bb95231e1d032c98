-- `card::reader::fill_numbers` meets its contract: the front is read, the rest is as it was.
use native.Mathlib.Omega.{arith}
use mathlib.Core.Path.{refl}
use Rattle.card.specs.Card.{bits_of_bytes}
use Rattle.card.specs.Fields.{fields_at}
use Rattle.card.proofs.Bits.{filled, all_filled}
use Rattle.card.proofs.reader.fill_numbers.Goals as goal

pub loop-i-init : goal.loop-i-init
unfolding fields_at
loop-i-init c = refl

pub loop-i-preserved : goal.loop-i-preserved
loop-i-preserved c = filled c.loop-i.i c.args.at 64 (bits_of_bytes c.args.bytes.now) c.args.numbers.now c.loop-i.numbers c.field.result c.loop-i.invariant (omega arith) c.field.ensures.value

pub returns : goal.returns
returns c = all_filled c.loop-i.i c.args.at 64 (bits_of_bytes c.args.bytes.now) c.args.numbers.now c.loop-i.numbers c.loop-i.invariant (omega arith)
