-- The tests of a record that is read, one after another, and how the writer shows its outcome.
use Prim.Native.Nat.{ℕ, ◌^◌, ◌≤◌, ◌<◌}
use borrow.Author.Tests.{lt-leb, le-leb, lt-ltb, le-ltb}
use mathlib.Core.Path.{◌≡◌, ◌∙◌}
use mathlib.Core.Bool.{true, false}
use mathlib.Core.List.{List, ◌++◌}
use lib.ListN.{length, drop}
use Rattle.run_record.specs.Record.{word, are_patterns, is_record, record_words, WriteRecordOutcome}
use Rattle.piece_rules.specs.declared.RunRecord.{RunRecord}

module _ (words : List ℕ) where
  pub too_few : length words < 21 → is_record words ≡ false
  unfolding is_record
  too_few few = rw (lt-leb 21 (length words) few)

  pub long_period : 21 ≤ length words → 2 ^ 32 ≤ word words 11 → is_record words ≡ false
  unfolding is_record
  long_period enough h = rw (le-leb 21 (length words) enough, le-ltb (word words 11) (2 ^ 32) h)

  pub long_edition : 21 ≤ length words → word words 11 < 2 ^ 32 → 2 ^ 32 ≤ word words 12 → is_record words ≡ false
  unfolding is_record
  long_edition enough p h = rw (le-leb 21 (length words) enough, lt-ltb (word words 11) (2 ^ 32) p, le-ltb (word words 12) (2 ^ 32) h)

  pub no_flag : 21 ≤ length words → word words 11 < 2 ^ 32 → word words 12 < 2 ^ 32 → 2 ≤ word words 20 → is_record words ≡ false
  unfolding is_record
  no_flag enough p e h =
      rw (le-leb 21 (length words) enough, lt-ltb (word words 11) (2 ^ 32) p, lt-ltb (word words 12) (2 ^ 32) e, le-ltb (word words 20) 2 h)

  pub by_patterns : 21 ≤ length words → word words 11 < 2 ^ 32 → word words 12 < 2 ^ 32 → word words 20 < 2 → is_record words ≡ are_patterns words
  unfolding is_record
  by_patterns enough p e h =
      rw (le-leb 21 (length words) enough, lt-ltb (word words 11) (2 ^ 32) p, lt-ltb (word words 12) (2 ^ 32) e, lt-ltb (word words 20) 2 h)

pub no_room : (r : RunRecord) (words : List ℕ) → length words < 21 → WriteRecordOutcome r words false words
no_room r words few =
    let no = lt-leb 21 (length words) few in
    record { answered = rw no; words_left = rw no }

pub written : (r : RunRecord) (words from left : List ℕ) → 21 ≤ length words → from ≡ record_words r → left ≡ from ++ drop 21 words → WriteRecordOutcome r words true left
written r words from left enough is put =
    let yes = le-leb 21 (length words) enough in
    record { answered = rw yes; words_left = rw yes (put ∙ rw is) }
