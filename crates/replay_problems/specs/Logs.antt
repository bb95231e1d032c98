-- What the words of a progress record say.
use Rattle.std.specs.Prelude.{ℕ, ◌^◌, cond, List, nat_lt}
use Rattle.replay.specs.Records.{word_of}

-- the period; what is too large for one counts as none
unfoldable pub period_of : List ℕ → ℕ
period_of log = cond (nat_lt (word_of log 0) (2 ^ 32)) (word_of log 0) 0
