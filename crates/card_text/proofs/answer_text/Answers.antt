-- `card_text::answer_text` meets its contract.
use native.Mathlib.Omega.{arith}
use Rattle.card_text.proofs.Whole.{counts, columns_within, rows_within, text_written}
use Rattle.card_text.proofs.answer_text.Goals as goal

pub put_told-requires : goal.put_told-requires
put_told-requires c = record { in_bounds = omega arith; told_bound = columns_within c.args.card.now _ _ c.answer-told.ensures.answered; told_bound_2 = rows_within c.args.card.now _ _ c.answer-told.ensures.answered }

pub returns : goal.returns
returns c = record { prefix_len = counts c.put_told.result _ c.put_told.ensures.upper_bound (omega (arith, c.put_told.auto)); text_outcome = text_written c.args.card.now c.args.text.now _ _ c.put_told.result _ (omega arith) (omega (arith, c.put_told.ensures.upper_bound, c.put_told.auto)) c.answer-told.ensures c.put_told.ensures.says }
