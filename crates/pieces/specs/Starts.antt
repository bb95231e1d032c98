-- A piece that was accepted: the first of a run, or a later one by its record.
use Rattle.std.specs.Prelude.{ℕ, ◌≡◌, List, Float, length, Option, Some, None}
use Rattle.rules.specs.declared.Shape.{Shape}
use Rattle.rules.specs.Problem.{Problem}
use Rattle.piece_rules.specs.declared.RunLengths.{RunLengths}
use Rattle.piece_rules.specs.declared.RunRecord.{RunRecord}
use Rattle.piece_rules.specs.Pieces.{PieceLeft, first_taken, later_taken}
use Rattle.pieces.specs.Taking.{Fresh}

-- which piece of a run: the first, or a later one, taken up by its record
abbrev pub Start : Type 0
Start = Option RunRecord

pattern abbrev pub First : Start
First = None

pattern abbrev pub Later : RunRecord → Start
Later r = Some r

-- what is asked of its record
pub record Begins (start : Start) (p : Problem) : Type 0 where
  pub fresh : (r : RunRecord) → start ≡ Later r → Fresh r p

abbrev pub taken_by : Start → ℕ → RunLengths → Problem → List Float → List Float → List Float → PieceLeft
taken_by First given lengths p work cone log = first_taken given lengths p work cone log
taken_by (Later r) given lengths p work cone log = later_taken given r lengths p work cone log

-- the lengths of what is lent
abbrev pub lengths_lent : Shape → List ℕ → List Float → List Float → List Float → RunLengths
lengths_lent shape words work cone log =
    record {
      cols = shape.cols.0;
      rows = shape.rows.0;
      words = length words;
      work = length work;
      cone_work = length cone;
      log = length log;
    }
