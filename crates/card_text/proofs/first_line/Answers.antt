-- `card_text::first_line` meets its contract: the line of a fault.
use native.Mathlib.Omega.{arith}
use Rattle.card_text.proofs.Whole.{line_written}
use Rattle.card_text.proofs.first_line.Goals as goal

pub returns-in-Err-clause-first_line_outcome : goal.returns-in-Err-clause-first_line_outcome
returns-in-Err-clause-first_line_outcome c =
    (line_written c.args.told c.args.text.now _ _ (omega (arith, c.if-text-lt-TEXT_ROOM.false)) c.put_fault.auto.text c.put_fault.ensures.upper_bound (rw c.in-Err.is c.put_fault.ensures.says)).first_line_outcome
