-- `card_text::text_lines::put_first` meets its contract.
use native.Mathlib.Omega.{arith}
use Rattle.card_text.specs.Growing.{name_of}
use Rattle.card_text.proofs.Texts.{first_put}
use Rattle.card_text.proofs.text_lines.put_first.Goals as goal

pub returns : goal.returns
returns c = record { upper_bound = omega (arith, c.requires, c.name_of.ensures.bound, c.put-after_name.ensures.value, c.put_decimal-after_steps.ensures.upper_bound, c.put-after_space.ensures.value, c.put_decimal-after_rotations.ensures.upper_bound, c.put.ensures.value); says = first_put c.args.answer.steps c.args.answer.rotations c.put-after_name.result c.put_decimal-after_steps.result c.put-after_space.result c.put_decimal-after_rotations.result c.put.result (name_of c.args.answer.ending) c.args.text.now _ _ _ _ _ c.put_decimal-after_steps.ensures.lower_bound (omega (arith, c.put-after_space.ensures.value)) c.put_decimal-after_rotations.ensures.lower_bound (omega (arith, c.put.ensures.value)) (rw c.name_of.ensures.name at c.put-after_name.ensures.grown) c.put_decimal-after_steps.ensures.digit_count c.put_decimal-after_steps.ensures.grown c.put-after_space.ensures.grown c.put_decimal-after_rotations.ensures.digit_count c.put_decimal-after_rotations.ensures.grown c.put.ensures.grown }
