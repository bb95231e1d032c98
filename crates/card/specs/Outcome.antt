-- The complete outcome of the reader, and how many numbers A has.
use Rattle.std.specs.Prelude.{ℕ, ◌+◌, ◌*◌, ◌≤◌, ◌≡◌, Bool, cond, ◌&&◌, List, ◌++◌, leb, length, drop, Result, Ok, Err}
use Rattle.rules.specs.declared.Rows.{Rows}
use Rattle.rules.specs.declared.Cols.{Cols}
use Rattle.rules.specs.declared.Storage.{Storage}
use Rattle.rules.specs.declared.Storage.TheVariants.{Dense, Packed}
use Rattle.rules.specs.Refusals.{is_packed}
use Rattle.card.specs.Card.{Card, Reading, fault, read, read_card, numbers_of_a, number_count}
use Rattle.card.specs.declared.CardHead.{CardHead}
use Rattle.card.specs.declared.Fault.{Fault}
use Rattle.card.specs.declared.Fault.TheVariants.{SmallBuffers}

-- m is the number of rows, n of columns
abbrev pub rows_of : Card → Rows
rows_of k = record { 0 = k.m }

abbrev pub cols_of : Card → Cols
cols_of k = record { 0 = k.n }

abbrev pub storage_of : Bool → Storage
storage_of packed = cond packed Packed Dense

-- what a card says beside its lists
abbrev pub head_of : Card → CardHead
head_of k =
    record { storage = storage_of k.packed; rows = rows_of k; cols = cols_of k; words = length k.words; max_iter = k.max_iter; sweep_limit = k.sweep_limit }

-- whether two buffers hold the lists of any card: 63 words, and 3 + 32 + 32 * 32 + 32 numbers
abbrev pub holds_any : List ℕ → List ℕ → Bool
holds_any words numbers = leb 63 (length words) && leb 1091 (length numbers)

-- the reader's answer, and what it leaves in its buffers, where they hold any card
abbrev pub answer_of : Reading → Result CardHead Fault
answer_of (fault f) = Err f
answer_of (read k) = Ok (head_of k)

abbrev pub words_after : Reading → List ℕ → List ℕ
words_after (fault f) words = words
words_after (read k) words = k.words ++ drop (length k.words) words

abbrev pub numbers_after : Reading → List ℕ → List ℕ
numbers_after (fault f) numbers = numbers
numbers_after (read k) numbers = k.numbers ++ drop (length k.numbers) numbers

pub record ReadOutcome (bytes words numbers : List ℕ) (answer : Result CardHead Fault) (left_words left_numbers : List ℕ) : Type 0 where
  pub answered : answer ≡ cond (holds_any words numbers) (answer_of (read_card bytes)) (Err SmallBuffers)
  pub words_left : left_words ≡ cond (holds_any words numbers) (words_after (read_card bytes) words) words
  pub numbers_left : left_numbers ≡ cond (holds_any words numbers) (numbers_after (read_card bytes) numbers) numbers

-- the bounds of a head that is read of bytes, and that the lists lie within them
pub record Bounds (bytes : List ℕ) (head : CardHead) : Type 0 where
  pub words_most : head.words ≤ 63
  pub rows_most : head.rows.0 ≤ 32
  pub cols_most : head.cols.0 ≤ 32
  pub inside : 23 + 16 * head.words + 20 + 7 + 64 * number_count (is_packed head.storage) head.cols.0 head.rows.0 ≤ 8 * length bytes

-- how many numbers A has; none where n or m is above 32, as in no card
unfoldable pub stored_of : Storage → Rows → Cols → ℕ
stored_of storage rows cols = cond (leb cols.0 32 && leb rows.0 32) (numbers_of_a (is_packed storage) cols.0 rows.0) 0
