-- What the readers of a list with groups leave.
use Rattle.std.specs.Prelude.{ℕ, ◌+◌, ◌≡◌, Bool, cond, List, ◌++◌, leb, length, drop, Option, Some, None}
use Rattle.rules.specs.Groups.{plain_words}
use Rattle.rules.specs.Growing.{Grown}

-- words put into a buffer from a place on, and the place after them
pub record Put (at : ℕ) (before put : List ℕ) (end : ℕ) (after : List ℕ) : Type 0 where
  pub ends : end ≡ at + length put
  pub grown : Grown at before put end after

-- a buffer that has as many places as a list has words
abbrev pub holds_all : List ℕ → List ℕ → Bool
holds_all words plain = leb (length words) (length plain)

-- The plain words of a list stand at the front of a buffer that is long enough, and all other places are kept; one that is not is kept whole.
pub record FlattenOutcome (words before : List ℕ) (answer : Option ℕ) (after : List ℕ) : Type 0 where
  pub answered : answer ≡ cond (holds_all words before) (Some (length (plain_words words))) None
  pub left : after ≡ cond (holds_all words before) (plain_words words ++ drop (length (plain_words words)) before) before

abbrev pub count_of : Option ℕ → ℕ
count_of (Some count) = count
count_of None = 0
