-- Request (xii) of document 02 over whole runs, in words over its rules (Pieces.antt). `proofs/InPieces.antt` proves them.
use Rattle.std.specs.Prelude.{ℕ, ◌+◌, ◌-◌, ◌*◌, ◌≤◌, ◌≡◌, ◌↔◌, true, List, [], ◌∷◌, Float, length, take, drop}
use Rattle.piece_rules.specs.declared.LaterRefusal.{LaterRefusal}
use Rattle.piece_rules.specs.declared.PieceAnswer.{PieceAnswer}
use Rattle.piece_rules.specs.declared.PieceAnswer.TheVariants.{Refused, StaleRun, Halted, Ended}
use Rattle.piece_rules.specs.declared.RunLengths.{RunLengths}
use Rattle.piece_rules.specs.declared.RunRecord.{RunRecord}
use Rattle.rules.specs.Problem.{Problem, blocks}
use Rattle.rules.specs.Step.{State}
use Rattle.rules.specs.Prepare.{prepared_norms}
use Rattle.rules.specs.Run.{GoesOn, Piece, allowance}
use Rattle.rules.specs.Refusals.{Fact}
use Rattle.rules.specs.Split.{SplitProblem}
use Rattle.rules.specs.Progress.{LoggedLeft, log_from, log_after}
use Rattle.rules.specs.Demands.{FirstToHold, NoneHolds, GoesByTheRules, state_after, rotations_up_to}
use Rattle.piece_rules.specs.Pieces.{PieceLeft, left_halted, left_by_piece, from_work, with_tau, log_kept, most_rotations, piece_number, kept_with, first_piece, later_piece, first_split_piece, later_split_piece}

-- ---- one piece after another

-- a piece is taken up by its record, from the buffers as they were left; where it did not halt nothing more is done
abbrev pub taken_up_by : (RunRecord → PieceLeft) → PieceAnswer → PieceLeft → PieceLeft
taken_up_by later (Refused e) left = left
taken_up_by later StaleRun left = left
taken_up_by later (Halted r) left = later r
taken_up_by later (Ended answer r) left = left

abbrev pub gone_on : Problem → ℕ → PieceLeft → PieceLeft
gone_on p given left = taken_up_by (later_piece p given left.work left.cone left.log) left.answer left

-- later pieces of so many steps each, after what was left
unfoldable pub gone_on_by : Problem → List ℕ → PieceLeft → PieceLeft
unfolding later_piece
gone_on_by p [] left = left
gone_on_by p (given ∷ later) left = gone_on_by p later (gone_on p given left)

-- a whole run, cut so: a first piece, and then later ones
abbrev pub in_pieces : Problem → ℕ → List ℕ → List Float → List Float → List Float → PieceLeft
in_pieces p first later work cone log = gone_on_by p later (first_piece p first work cone log)

-- the same of a problem whose A stands in two slices
abbrev pub split_gone_on : SplitProblem → ℕ → PieceLeft → PieceLeft
split_gone_on p given left = taken_up_by (later_split_piece p given left.work left.cone left.log) left.answer left

unfoldable pub split_gone_on_by : SplitProblem → List ℕ → PieceLeft → PieceLeft
unfolding later_split_piece
split_gone_on_by p [] left = left
split_gone_on_by p (given ∷ later) left = split_gone_on_by p later (split_gone_on p given left)

abbrev pub split_in_pieces : SplitProblem → ℕ → List ℕ → List Float → List Float → List Float → PieceLeft
split_in_pieces p first later work cone log = split_gone_on_by p later (first_split_piece p first work cone log)

-- the steps of them all
unfoldable pub all_steps : List ℕ → ℕ
all_steps [] = 0
all_steps (given ∷ later) = given + all_steps later

-- ---- "However it is cut, the last piece answers as the uncut run: ending, k, q, rows, all buffers."

pub record EndsAsUncut (uncut : LoggedLeft) (left : PieceLeft) : Type 0 where
  pub kept : RunRecord
  pub answered : left.answer ≡ Ended uncut.answer kept
  pub has_ended : kept.ended ≡ true
  pub kept_steps : kept.steps ≡ uncut.answer.answer.steps
  pub kept_rotations : kept.rotations ≡ uncut.answer.answer.rotations
  pub kept_written : kept.written ≡ uncut.answer.written
  pub kept_dropped : kept.dropped ≡ uncut.answer.dropped
  pub work_left : left.work ≡ uncut.work
  pub cone_left : left.cone ≡ uncut.cone
  pub log_left : left.log ≡ uncut.log

-- "a piece that halts leaves all buffers as after its last step, unscaled": of the problem as it is read, after k steps of the whole run
abbrev pub halted_after : ℕ → RunLengths → Problem → List Float → List Float → List Float → PieceLeft
halted_after k lengths p work cone log =
    left_halted lengths p (prepared_norms p) work cone
    (record { said = GoesOn; steps = k; rotations = rotations_up_to p k; state = state_after p k }) (log_after p log k)

-- of what two pieces leave that halt, whose buffers held other numbers: the same answer, with its record, and the same required parts of work and cone work, and the same rows
pub record SameWhereItHalts (required needed : ℕ) (one other : PieceLeft) : Type 0 where
  pub answer : one.answer ≡ other.answer
  pub work_required : take required one.work ≡ take required other.work
  pub cone_required : take needed one.cone ≡ take needed other.cone
  pub rows : (r : RunRecord) → one.answer ≡ Halted r → take (4 * r.written) one.log ≡ take (4 * r.written) other.log

-- ---- "An accepted later piece is proved equal to 01's steps taken from what record and buffers hold when it is called, altered or not"

-- what record and buffers hold, as a state
abbrev pub held : Problem → RunRecord → List Float → List Float → State
held p r work cone = with_tau p r.tau (from_work p work cone)

-- of the problem as it is read: "such a piece still answers and ends"
pub record TakenUpByTheRules (given : ℕ) (r : RunRecord) (lengths : RunLengths) (p : Problem) (work cone log : List Float) (left : PieceLeft) : Type 0 where
  pub came_to : Piece
  pub by_the_rules : GoesByTheRules given p r.norms r.steps r.rotations (held p r work cone) came_to
  pub at_most : came_to.steps ≤ allowance p.par
  pub bounded : came_to.rotations ≤ most_rotations p.par (blocks p) came_to.steps
  pub left_so :
      left
      ≡ left_by_piece came_to.said lengths p r.norms work cone came_to (log_from p r.norms r.steps (held p r work cone) (log_kept r log) (came_to.steps - r.steps))

-- ---- "exactly if .. the answer is a new refusal 7, StaleRun, after check 6, with all kept"

-- of a table's rows: a refusal is given exactly when its fact is the first to hold, and changes no buffer
pub record PieceTurnedAwayBy (rows : List (Fact LaterRefusal)) (left : PieceLeft) (work cone log : List Float) : Type 0 where
  pub exactly : (i : ℕ) → 1 ≤ i → (piece_number left.answer ≡ i) ↔ FirstToHold rows i
  pub none_otherwise : NoneHolds rows → piece_number left.answer ≡ 0
  pub changes_nothing : (i : ℕ) → FirstToHold rows i → left ≡ kept_with left.answer work cone log

-- ---- "places beyond it are never changed", nor by a piece

-- of what a piece leaves: each buffer is as long as before, and of work and cone work the places beyond the required ones stay
pub record KeptByPiece (required needed : ℕ) (work cone log : List Float) (left : PieceLeft) : Type 0 where
  pub work_length_lem : length left.work ≡ length work
  pub cone_length : length left.cone ≡ length cone
  pub log_length : length left.log ≡ length log
  pub work_beyond : drop required left.work ≡ drop required work
  pub cone_beyond : drop needed left.cone ≡ drop needed cone
