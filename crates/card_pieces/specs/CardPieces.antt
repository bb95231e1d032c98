-- Document 02, request (xii): a piece of the run of a card's problem. Cards run without a progress record, so the third buffer has no place.
use Rattle.std.specs.Prelude.{ℕ, ◌≡◌, List, [], Float, Option, Some, None, Result, Ok, Err}
use Rattle.rules.specs.Problem.{Problem}
use Rattle.piece_rules.specs.declared.PieceAnswer.{PieceAnswer}
use Rattle.piece_rules.specs.declared.RunRecord.{RunRecord}
use Rattle.piece_rules.specs.Pieces.{PieceLeft, first_piece, later_piece}
use Rattle.card.specs.Card.{Reading, fault, read, read_card}
use Rattle.card.specs.Outcome.{rows_of, cols_of}
use Rattle.card_problem.specs.Problem.{problem_of_card}
use Rattle.card.specs.declared.Fault.{Fault}
use Rattle.card_problem.specs.declared.Told.{Told}

-- the first piece of a problem's run, and a later one by its record
abbrev pub first_of : ℕ → List Float → List Float → Problem → PieceLeft
first_of given work cone p = first_piece p given work cone []

abbrev pub later_of : RunRecord → ℕ → List Float → List Float → Problem → PieceLeft
later_of r given work cone p = later_piece p given work cone [] r

-- the card's fault, or m and n and what the piece answers
abbrev pub told_piece : Reading → (Problem → PieceLeft) → Result (Told PieceAnswer) Fault
told_piece (fault f) piece = Err f
told_piece (read k) piece = Ok (record { rows = rows_of k; cols = cols_of k; answer = (piece (problem_of_card k)).answer })

-- a card with a fault keeps both buffers
abbrev pub left_work : Reading → (Problem → PieceLeft) → List Float → List Float
left_work (fault f) piece work = work
left_work (read k) piece work = (piece (problem_of_card k)).work

abbrev pub left_cone : Reading → (Problem → PieceLeft) → List Float → List Float
left_cone (fault f) piece cone = cone
left_cone (read k) piece cone = (piece (problem_of_card k)).cone

pub record CardPieceOutcome (bytes : List ℕ) (piece : Problem → PieceLeft) (work cone : List Float) (told : Result (Told PieceAnswer) Fault) (work' cone' : List Float) : Type 0 where
  pub answered : told ≡ told_piece (read_card bytes) piece
  pub work_left : work' ≡ left_work (read_card bytes) piece work
  pub cone_left : cone' ≡ left_cone (read_card bytes) piece cone

-- ---- what the crate's own functions are held to

-- a later piece of a run that has this record, or else the first
abbrev pub piece_by : Option RunRecord → ℕ → List Float → List Float → Problem → PieceLeft
piece_by None = first_of
piece_by (Some r) = later_of r

pub record PieceOutcome (left : PieceLeft) (answer : PieceAnswer) (work cone : List Float) : Type 0 where
  pub piece_answered : answer ≡ left.answer
  pub piece_work : work ≡ left.work
  pub piece_cone : cone ≡ left.cone
