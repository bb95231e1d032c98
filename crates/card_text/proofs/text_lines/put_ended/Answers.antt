-- `card_text::text_lines::put_ended` meets its contract.
use native.Mathlib.Omega.{arith}
use Rattle.card_text.specs.Growing.{name_of}
use Rattle.card_text.proofs.Texts.{ended_put}
use Rattle.card_text.proofs.text_lines.put_ended.Goals as goal

pub returns : goal.returns
returns c = record { upper_bound = omega (arith, c.requires, c.put_first-after_first.ensures.upper_bound, c.put_numbers-after_x.ensures.value, c.put_numbers.ensures.value); says = ended_put c.args.answer.steps c.args.answer.rotations c.put_first-after_first.result c.put_numbers-after_x.result c.put_numbers.result (name_of c.args.answer.ending) c.args.text.now _ _ _ c.args.x.now c.args.y.now (omega (arith, c.put_numbers-after_x.ensures.value)) (omega (arith, c.put_numbers.ensures.value)) c.put_first-after_first.ensures.says c.put_numbers-after_x.ensures.grown c.put_numbers.ensures.grown }
