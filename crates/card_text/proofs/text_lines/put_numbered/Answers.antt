-- `card_text::text_lines::put_numbered` meets its contract.
use native.Mathlib.Omega.{arith}
use Rattle.card_text.proofs.Texts.{numbered_put}
use Rattle.card_text.proofs.text_lines.put_numbered.Goals as goal

pub returns : goal.returns
returns c = record { upper_bound = omega (arith, c.requires.word_len_bound, c.put-end.ensures.value, c.put_decimal-last.ensures.upper_bound, c.put.ensures.value); says = numbered_put c.args.number c.put-end.result c.put_decimal-last.result c.put.result c.args.word.now c.args.text.now _ _ _ c.put_decimal-last.ensures.lower_bound (omega (arith, c.put.ensures.value)) c.put-end.ensures.grown c.put_decimal-last.ensures.digit_count c.put_decimal-last.ensures.grown c.put.ensures.grown }
