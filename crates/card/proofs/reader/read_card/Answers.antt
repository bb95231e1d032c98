-- `card::reader::read_card` meets its contract.
use native.Mathlib.Omega.{arith}
use mathlib.Core.Path.{sym}
use Rattle.card.specs.Outcome.{Bounds}
use Rattle.card.proofs.Outcome.{read_done}
use Rattle.card.proofs.reader.read_card.Goals as goal

pub returns-clause-outcome : goal.returns-clause-outcome
returns-clause-outcome c =
    let bounds : Bounds c.args.bytes.now c.in_ok-head.head = c.in_ok-head.ensures.bounds in
    read_done c.args.bytes.now c.args.words.now c.args.numbers.now (omega arith) (omega arith) c.in_ok-head.head c.number_count-count.result c.fill_words.new.words c.fill_numbers.new.numbers
    (sym c.in_ok-head.ensures.answered) c.number_count-count.ensures.value (omega arith) (omega arith) c.fill_words.ensures c.fill_numbers.ensures
