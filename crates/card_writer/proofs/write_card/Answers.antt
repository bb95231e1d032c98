-- `card_writer::write_card` meets its contract: the tests in order, then the bytes.
use native.Mathlib.Omega.{arith}
use mathlib.Core.Path.{◌∙◌}
use Rattle.card_writer.specs.Outcome.{card_of}
use Rattle.card.proofs.Counts.{stored_is}
use Rattle.card_writer.proofs.Writing.{no_numbers, no_room, written}
use Rattle.card_writer.proofs.write_card.Goals as goal

pub returns-then-numbers-n : goal.returns-then-numbers-n
returns-then-numbers-n c = no_numbers (card_of c.args.head c.args.words.now c.args.numbers.now) c.args.bytes.now (omega arith) (omega arith) (omega arith) (omega arith) (omega arith) (λ e. omega (arith, c.stored.ensures.value ∙ stored_is c.args.head.storage c.args.head.rows c.args.head.cols (omega arith) (omega arith)))

pub returns-then-bytes-count : goal.returns-then-bytes-count
returns-then-bytes-count c = no_room (card_of c.args.head c.args.words.now c.args.numbers.now) c.args.bytes.now (omega arith) (omega arith) (omega arith) (omega arith) (omega arith) (omega (arith, c.stored.ensures.value ∙ stored_is c.args.head.storage c.args.head.rows c.args.head.cols (omega arith) (omega arith))) (omega arith)

pub returns : goal.returns
returns c = written (card_of c.args.head c.args.words.now c.args.numbers.now) c.args.bytes.now (omega arith) (omega arith) (omega arith) (omega arith) (omega arith) (omega (arith, c.stored.ensures.value ∙ stored_is c.args.head.storage c.args.head.rows c.args.head.cols (omega arith) (omega arith))) _ (omega arith) (omega arith) _ c.write_bytes.ensures
