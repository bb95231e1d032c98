-- `card_text::bytes::put_numbers` meets its contract: the text grows by a line at a time.
use borrow.Author.Rules.{rules}
use native.Mathlib.Omega.{arith}
use mathlib.Core.Path.{◌≡◌, refl}
use lib.ListN.{length}
use Rattle.card_text.proofs.Texts.{lines_none, lines_more, lines_all}
use Rattle.card_text.proofs.bytes.put_numbers.Goals as goal

pub loop-number-init : goal.loop-number-init
loop-number-init c = (omega arith, lines_none c.args.at c.args.text.now c.args.numbers.now, refl)

pub put_number-end-requires : goal.put_number-end-requires
put_number-end-requires c = omega (arith, c.loop-number.invariant, c.requires)

pub loop-number-preserved : goal.loop-number-preserved
loop-number-preserved c = (omega (arith, c.put_number-end.ensures.value), lines_more c.args.at c.loop-number.end c.put_number-end.result c.loop-number.number-index c.args.text.now c.loop-number.text _ c.args.numbers.now c.loop-number.invariant.1 (omega arith) (omega (arith, c.put_number-end.ensures.value)) c.put_number-end.ensures.grown, search rules)

pub returns : goal.returns
returns c = let e : c.loop-number.number-index ≡ length c.args.numbers.now = omega arith in record { value = omega arith; grown = lines_all c.args.at c.loop-number.end c.loop-number.number-index c.args.text.now c.loop-number.text c.args.numbers.now c.loop-number.invariant.1 e }
