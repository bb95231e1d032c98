-- A run's record as 21 words of 64 bits: how it is written, and how it is read.
use Rattle.std.specs.Prelude.{ℕ, ◌^◌, ◌≡◌, Bool, cond, not, ◌&&◌, ◌||◌, List, [], ◌∷◌, ◌++◌, leb, ltb, eqb, Float, length, drop, get_or, Option, Some, None}
use Rattle.std.specs.Float.{binary64}
use Rattle.std.specs.Float.Ieee.{of_bits, to_bits, is_nan}
use Rattle.rules.specs.declared.SolverParam.{SolverParam}
use Rattle.rules.specs.Parameters.{param_made}
use Rattle.piece_rules.specs.declared.RunRecord.{RunRecord}

-- ---- how it is written

-- a number as its pattern, 7ff8000000000000 for a NaN
abbrev pub pattern : Float → ℕ
pattern x = to_bits binary64 x

-- Six lengths, seven parameters, the two norms, tau, steps, rotations, rows written and dropped, and 1 where the run has ended.
unfoldable pub record_words : RunRecord → List ℕ
record_words r =
    r.lengths.cols
    ∷ r.lengths.rows
    ∷ r.lengths.words
    ∷ r.lengths.work
    ∷ r.lengths.cone_work
    ∷ r.lengths.log
    ∷ r.par.max_iter
    ∷ pattern r.par.eps_acc
    ∷ pattern r.par.eps_inf
    ∷ pattern r.par.eps_zero
    ∷ r.par.sweep_limit
    ∷ r.par.log_period
    ∷ r.par.«edition»
    ∷ pattern r.norms.b
    ∷ pattern r.norms.c
    ∷ pattern r.tau
    ∷ r.steps
    ∷ r.rotations
    ∷ r.written
    ∷ r.dropped
    ∷ cond r.ended 1 0
    ∷ []

-- It answers whether there are 21 words. If so, the first 21 are the record's and the others are kept, and if not, all are.
pub record WriteRecordOutcome (r : RunRecord) (words : List ℕ) (answer : Bool) (left : List ℕ) : Type 0 where
  pub answered : answer ≡ leb 21 (length words)
  pub words_left : left ≡ cond (leb 21 (length words)) (record_words r ++ drop 21 words) words

-- ---- how it is read

-- the word at a place, and the number whose pattern it is
abbrev pub word : List ℕ → ℕ → ℕ
word words k = get_or words k 0

abbrev pub number : List ℕ → ℕ → Float
number words k = of_bits binary64 (word words k)

unfoldable pub parameters_in : List ℕ → SolverParam
parameters_in words =
    param_made (word words 6) (number words 7) (number words 8) (number words 9) (word words 10) (word words 11) (word words 12)

unfoldable pub record_of : List ℕ → RunRecord
unfolding parameters_in
record_of words =
    record {
      lengths =
          record {
            cols = word words 0;
            rows = word words 1;
            words = word words 2;
            work = word words 3;
            cone_work = word words 4;
            log = word words 5;
          };
      par = parameters_in words;
      norms = record { b = number words 13; c = number words 14 };
      tau = number words 15;
      steps = word words 16;
      rotations = word words 17;
      written = word words 18;
      dropped = word words 19;
      ended = eqb (word words 20) 1;
    }

-- a NaN has the pattern 7ff8000000000000 and no other
unfoldable pub is_pattern : ℕ → Bool
is_pattern w = not (is_nan (of_bits binary64 w)) || eqb w 0x7ff8000000000000

unfoldable pub are_patterns : List ℕ → Bool
unfolding is_pattern
are_patterns words =
    is_pattern (word words 7) && is_pattern (word words 8) && is_pattern (word words 9) && is_pattern (word words 13) && is_pattern (word words 14)
    && is_pattern (word words 15)

-- 21 words, a log_period and an edition of 32 bits, an ended that is 0 or 1, and patterns where numbers are
unfoldable pub is_record : List ℕ → Bool
unfolding are_patterns
is_record words =
    leb 21 (length words) && ltb (word words 11) (2 ^ 32) && ltb (word words 12) (2 ^ 32) && ltb (word words 20) 2 && are_patterns words

unfoldable pub record_in : List ℕ → Option RunRecord
unfolding is_record record_of
record_in words = cond (is_record words) (Some (record_of words)) None
