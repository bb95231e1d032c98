-- `card_text::bytes::put_number` meets its contract.
use native.Mathlib.Omega.{arith}
use Prim.Native.Nat.{ℕ}
use mathlib.Core.Path.{ap, ◌∙◌}
use Rattle.card_text.proofs.Texts.{hex_places, number_put}
use Rattle.io.specs.Digits.{last_digits}
use Rattle.card_text.proofs.bytes.put_number.Goals as goal

pub put-end-requires : goal.put-end-requires
put-end-requires c = omega (arith, hex_places _ c.pattern_of.result c.hex-count.result c.hex-count.ensures.len (omega arith) (omega (arith, c.pattern_of.type_inv)), c.hex-count.ensures.len.0, c.hex-count.ensures.in_bounds.1, c.requires)

pub put-requires : goal.put-requires
put-requires c = omega (arith, hex_places _ c.pattern_of.result c.hex-count.result c.hex-count.ensures.len (omega arith) (omega (arith, c.pattern_of.type_inv)), c.hex-count.ensures.len.0, c.hex-count.ensures.in_bounds.1, c.requires, c.put-end.ensures.value, c.put-end.auto)

pub returns : goal.returns
returns c = number_put c.args.number c.args.at c.hex-count.result c.put-end.result c.put.result c.args.text.now _ _ _ (omega (arith, hex_places _ c.pattern_of.result c.hex-count.result c.hex-count.ensures.len (omega arith) (omega (arith, c.pattern_of.type_inv)), c.hex-count.ensures.len.0)) c.hex-count.ensures.in_bounds.1 (c.hex-count.ensures.digits ∙ ap (λ (v : ℕ). last_digits 16 c.hex-count.result v) c.pattern_of.ensures) c.put-end.ensures.value c.put-end.ensures.grown c.put.ensures.value c.put.ensures.grown
