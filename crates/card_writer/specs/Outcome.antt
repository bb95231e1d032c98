-- The complete outcome of the writer.
use Rattle.std.specs.Prelude.{ℕ, ◌≡◌, Bool, cond, ◌&&◌, List, ◌++◌, leb, ltb, eqb, length, drop, Option, Some, None}
use Rattle.rules.specs.Refusals.{is_packed}
use Rattle.card.specs.declared.CardHead.{CardHead}
use Rattle.card.specs.Card.{Card, number_count, bytes_for, card_bits, written_card}

-- the card that is to be written: m is the number of rows, n of columns
abbrev pub card_of : CardHead → List ℕ → List ℕ → Card
card_of head words numbers =
    record { packed = is_packed head.storage; n = head.cols.0; m = head.rows.0; words = words; max_iter = head.max_iter; sweep_limit = head.sweep_limit; numbers = numbers }

-- whether each field holds what it is to say, there are as many numbers as n and m ask, and so many bytes are enough
abbrev pub is_written : Card → ℕ → Bool
is_written k space =
    leb k.n 32 && leb k.m 32 && leb (length k.words) 63 && ltb k.max_iter 1048576 && ltb k.sweep_limit 128 && eqb (length k.numbers) (number_count k.packed k.n k.m) && leb (bytes_for (length (card_bits k))) space

pub record WriteOutcome (k : Card) (bytes : List ℕ) (answer : Option ℕ) (left_bytes : List ℕ) : Type 0 where
  pub answered : answer ≡ cond (is_written k (length bytes)) (Some (length (written_card k))) None
  pub bytes_left : left_bytes ≡ cond (is_written k (length bytes)) (written_card k ++ drop (length (written_card k)) bytes) bytes
