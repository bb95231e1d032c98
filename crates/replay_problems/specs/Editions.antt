-- What the word before those of a run says.
use Rattle.std.specs.Prelude.{ℕ, ◌^◌, cond, List, nat_lt}
use Rattle.replay.specs.Records.{word_of}

-- the edition of sums; what is too large for one counts as 0, which is none
unfoldable pub edition_of : List ℕ → ℕ
edition_of words = cond (nat_lt (word_of words 0) (2 ^ 32)) (word_of words 0) 0
