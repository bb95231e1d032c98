-- `card_writer::card_bit` meets its contract: a field for each stretch of places.
use native.Mathlib.Omega.{arith}
use Prim.Native.Nat.{◌-◌, ◌/◌}
use mathlib.Core.Path.{sym, ◌∙◌}
use Rattle.card_writer.specs.Outcome.{card_of}
use Rattle.card_writer.proofs.Fronts.{edition_bit, flag_bit, n_bit, m_bit, count_bit, words_bit, max_iter_bit, sweep_limit_bit, numbers_bit, past_bit}
use Rattle.card_writer.proofs.card_bit.Goals as goal

pub returns-then-at-lt4 : goal.returns-then-at-lt4
returns-then-at-lt4 c = record { value = c.bit_of.ensures.value ∙ sym (edition_bit (card_of c.args.head c.args.words.now c.args.numbers.now) c.args.at (omega arith)); bound = c.bit_of.ensures.bound }

pub returns-then-at-lt5 : goal.returns-then-at-lt5
returns-then-at-lt5 c = record { value = (rw c.flag_of.ensures at c.bit_of-then-at-lt5.ensures.value) ∙ sym (flag_bit (card_of c.args.head c.args.words.now c.args.numbers.now) c.args.at (omega arith) (omega arith)); bound = c.bit_of-then-at-lt5.ensures.bound }

pub returns-then-at-lt11 : goal.returns-then-at-lt11
returns-then-at-lt11 c = record { value = c.bit_of-then-at-lt11.ensures.value ∙ sym (n_bit (card_of c.args.head c.args.words.now c.args.numbers.now) c.args.at (omega arith) (omega arith)); bound = c.bit_of-then-at-lt11.ensures.bound }

pub returns-then-at-lt17 : goal.returns-then-at-lt17
returns-then-at-lt17 c = record { value = c.bit_of-then-at-lt17.ensures.value ∙ sym (m_bit (card_of c.args.head c.args.words.now c.args.numbers.now) c.args.at (omega arith) (omega arith)); bound = c.bit_of-then-at-lt17.ensures.bound }

pub returns-then-at-lt23 : goal.returns-then-at-lt23
returns-then-at-lt23 c = record { value = c.bit_of-then-at-lt23.ensures.value ∙ sym (count_bit (card_of c.args.head c.args.words.now c.args.numbers.now) c.args.at (omega arith) (omega arith)); bound = c.bit_of-then-at-lt23.ensures.bound }

pub overflow_cast-words : goal.overflow_cast-words
overflow_cast-words c = omega (arith, c.type_inv.words ((c.args.at - 23) / 16))

pub returns-then-at-after_words : goal.returns-then-at-after_words
returns-then-at-after_words c = record { value = c.bit_of-then-at-after_words.ensures.value ∙ sym (words_bit (card_of c.args.head c.args.words.now c.args.numbers.now) c.args.at (omega arith) (omega arith)); bound = c.bit_of-then-at-after_words.ensures.bound }

pub returns-then-at-after_words-2 : goal.returns-then-at-after_words-2
returns-then-at-after_words-2 c = record { value = c.bit_of-then-at-after_words-2.ensures.value ∙ sym (max_iter_bit (card_of c.args.head c.args.words.now c.args.numbers.now) c.args.at (omega arith) (omega arith)); bound = c.bit_of-then-at-after_words-2.ensures.bound }

pub returns-then-at-first : goal.returns-then-at-first
returns-then-at-first c = record { value = c.bit_of-then-at-first.ensures.value ∙ sym (sweep_limit_bit (card_of c.args.head c.args.words.now c.args.numbers.now) c.args.at (omega arith) (omega arith)); bound = c.bit_of-then-at-first.ensures.bound }

pub returns-then-at-first-2 : goal.returns-then-at-first-2
returns-then-at-first-2 c = record { value = c.bit_of-then-at-first-2.ensures.value ∙ sym (numbers_bit (card_of c.args.head c.args.words.now c.args.numbers.now) c.args.at (omega arith) (omega arith)); bound = c.bit_of-then-at-first-2.ensures.bound }

pub returns : goal.returns
returns c = record { value = sym (past_bit (card_of c.args.head c.args.words.now c.args.numbers.now) c.args.at (omega arith)); bound = omega arith }
