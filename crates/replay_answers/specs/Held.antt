-- What a run answered and left, held to a record. From a place on the record has: the answer's number, k, q, three words of what the
-- ending carries, the required places of work and of cone work, and then what these places hold.
use Rattle.std.specs.Prelude.{ℕ, ◌+◌, ◌*◌, ◌/◌, Bool, cond, ◌&&◌, List, [], ◌++◌, eqb, Float, length, take}
use Rattle.std.specs.Float.{binary64}
use Rattle.std.specs.Float.Ieee.{to_bits}
use Rattle.rules.specs.declared.Ending.{Ending}
use Rattle.rules.specs.declared.Ending.TheVariants.{ConeFailure}
use Rattle.rules.specs.Outcome.{OnPaper, turned_away, ends, on_paper}
use Rattle.rules.specs.Prepare.{zeros}
use Rattle.rules.specs.Product.{none, block}
use Rattle.replay.specs.Records.{word_of, number_of, stand_from, stand_before}
use Rattle.replay_answers.specs.Numbers.{number_in_lists}

-- criteria as three numbers; where there are fewer, +0 after them
abbrev pub three_of : List Float → List Float
three_of criteria = take 3 (criteria ++ zeros 3)

-- what an answer carries stands there: its criteria, or the number of the block that failed
abbrev pub carried : List ℕ → ℕ → OnPaper → Bool
carried bytes at (turned_away i) = stand_from bytes at (three_of [])
carried bytes at (ends row criteria none solution) = stand_from bytes at (three_of criteria)
carried bytes at (ends row criteria (block b) solution) = eqb (word_of bytes at) b

-- the ending, k and q are the record's
unfoldable pub is_told : List ℕ → ℕ → Ending → ℕ → ℕ → Bool
is_told bytes at e k q = eqb (number_in_lists e) (word_of bytes at) && eqb (word_of bytes (at + 1)) k && eqb (word_of bytes (at + 2)) q && carried bytes (at + 3) (on_paper e)

-- The record ends after the last of the places that it says are required; after a cone's failure it leaves them out, since all are +0.
abbrev pub ends_after : List ℕ → ℕ → ℕ → ℕ → Bool
ends_after bytes at used cone_used = eqb (length bytes / 8) (cond (eqb (word_of bytes at) (number_in_lists (ConeFailure 0))) (at + 8) (at + 8 + used + cone_used))

-- both buffers hold in their required places what the record says, and the pattern in all others
unfoldable pub is_left : List ℕ → ℕ → ℕ → List Float → List Float → Bool
is_left bytes at pattern work cone =
    let used = word_of bytes (at + 6) in
    let cone_used = word_of bytes (at + 7) in
    stand_before bytes (at + 8) work used pattern && stand_before bytes (at + 8 + used) cone cone_used pattern && ends_after bytes at used cone_used

-- a log and the counts of its rows are as these words say: the period, the log's places, what each of them held before, the rows written, the rows dropped, and then
-- the rows; all places after them hold what they held, and nothing follows
unfoldable pub is_logged : List ℕ → ℕ → ℕ → List Float → Bool
is_logged bytes written dropped log = eqb (word_of bytes 3) written && eqb (word_of bytes 4) dropped && stand_before bytes 5 log (4 * written) (to_bits binary64 (number_of bytes 2)) && eqb (length bytes / 8) (5 + 4 * written)
