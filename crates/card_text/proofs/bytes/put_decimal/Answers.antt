-- `card_text::bytes::put_decimal` meets its contract.
use native.Mathlib.Omega.{arith}
use Rattle.card_text.proofs.Texts.{decimal_places, decimal_put}
use Rattle.card_text.proofs.bytes.put_decimal.Goals as goal

pub put-requires : goal.put-requires
put-requires c = omega (arith, decimal_places c.args.number c.decimal-count.result (omega (arith, c.ranges.number)) c.decimal-count.ensures.len, c.decimal-count.ensures.in_bounds.1, c.requires)

pub returns : goal.returns
returns c = decimal_put c.args.number c.args.at c.decimal-count.result c.put.result c.args.text.now _ _ (decimal_places c.args.number c.decimal-count.result (omega (arith, c.ranges.number)) c.decimal-count.ensures.len) c.decimal-count.ensures.in_bounds.1 c.decimal-count.ensures.len c.decimal-count.ensures.digits c.put.ensures.value c.put.ensures.grown
