-- `card_text::bytes::put_numbers` meets its contract: the text grows by a line at a time.
use Prim.Native.Nat.{◌+◌, ◌*◌}
use mathlib.Core.Path.{◌≡◌}
use lib.ListN.{length, take}
use Rattle.card_text.specs.Text.{number_lines}
use Rattle.card_text.specs.Growing.{Grown}
use Rattle.card_text.proofs.bytes.put_numbers.Given as goal

abbrev pub invariant-loop-number : goal.invariant-loop-number
invariant-loop-number l = (l.end ≡ l.at + 17 * l.number-index) × Grown l.at l.initial.text (number_lines (take l.number-index l.numbers)) l.end l.text × (length l.text ≡ length l.initial.text)
