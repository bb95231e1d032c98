-- When two runs came to the same, bit for bit. Every NaN is one pattern.
use Rattle.std.specs.Prelude.{ℕ, ◌+◌, Bool, ◌&&◌, List, [], ◌∷◌, length, take, drop, nat_eq, nat_le, Float}
use Rattle.std.specs.Cmp.Lexicographic.{pointwise}
use Rattle.std.specs.Float.{binary64}
use Rattle.std.specs.Float.Ieee.{to_bits}
use Rattle.patterns.specs.Same.{same_bits}
use Rattle.rules.specs.declared.Ending.{Ending}
use Rattle.rules.specs.declared.Ending.TheVariants.{BadParam, TooLarge, InvalidOp, BadCone, NotFinite, WorkShortage, Converged, ExcessIter, ExcessIterUnscaled, Unbounded, Infeasible, ConeFailure}
use Rattle.rules.specs.declared.Logged.{Logged}
use Rattle.replay_answers.specs.Numbers.{number_in_lists}

-- the same words, and as many
abbrev pub same_words : List ℕ → List ℕ → Bool
same_words = pointwise nat_eq

-- what an ending carries: its criteria, or the number of the block that failed, and 0 after them
abbrev pub carried_by : Ending → List ℕ
carried_by (Converged pri dual gap) = to_bits binary64 pri ∷ to_bits binary64 dual ∷ to_bits binary64 gap ∷ []
carried_by (ExcessIter pri dual gap) = to_bits binary64 pri ∷ to_bits binary64 dual ∷ to_bits binary64 gap ∷ []
carried_by (ExcessIterUnscaled unbdd infeas) = to_bits binary64 unbdd ∷ to_bits binary64 infeas ∷ 0 ∷ []
carried_by (Unbounded unbdd) = to_bits binary64 unbdd ∷ 0 ∷ 0 ∷ []
carried_by (Infeasible infeas) = to_bits binary64 infeas ∷ 0 ∷ 0 ∷ []
carried_by (ConeFailure block) = block ∷ 0 ∷ 0 ∷ []
carried_by BadParam = 0 ∷ 0 ∷ 0 ∷ []
carried_by TooLarge = 0 ∷ 0 ∷ 0 ∷ []
carried_by InvalidOp = 0 ∷ 0 ∷ 0 ∷ []
carried_by BadCone = 0 ∷ 0 ∷ 0 ∷ []
carried_by NotFinite = 0 ∷ 0 ∷ 0 ∷ []
carried_by WorkShortage = 0 ∷ 0 ∷ 0 ∷ []

-- an answer's number, k, q, and the rows written and dropped
abbrev pub counts_of : Logged → List ℕ
counts_of l =
    number_in_lists l.answer.ending ∷ l.answer.steps ∷ l.answer.rotations ∷ l.written ∷ l.dropped ∷ []

-- the same ending with the same criteria, k, q and rows
unfoldable pub same_answer : Logged → Logged → Bool
same_answer one other =
    same_words (counts_of one) (counts_of other) && same_words (carried_by one.answer.ending) (carried_by other.answer.ending)

-- three buffers are those that stand in one list, one after another
unfoldable pub are_left : List Float → List Float → List Float → List Float → Bool
are_left left work cone log =
    nat_le (length work + length cone) (length left)
    && same_bits work (take (length work) left)
    && same_bits cone (take (length cone) (drop (length work) left))
    && same_bits log (drop (length work + length cone) left)
