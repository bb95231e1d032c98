-- However a run is cut, its last piece answers and leaves what the uncut run does.
use Prim.Native.Nat.{ℕ, ◌+◌, ◌≤◌, ◌<◌}
use native.Mathlib.Omega.{arith}
use mathlib.Core.Path.{◌≡◌, refl, sym, ◌∙◌, ap}
use mathlib.Core.List.{List, [], ◌∷◌}
use lib.Ieee.{Float}
use lib.ListN.{length}
use Rattle.rules.specs.declared.Ending.{Ending}
use Rattle.rules.specs.Problem.{Problem}
use Rattle.rules.specs.Run.{run}
use Rattle.rules.specs.Refusals.{Accepted, Refused as TurnedAway, refusal, read_problem, left_turned_away}
use Rattle.rules.specs.Progress.{untouched, with_log, logged_solved}
use Rattle.rules.proofs.Accepted.{accepted_as_read}
use Rattle.rules.proofs.LoggedRuns.{logged_accepted, refused_records_nothing}
use Rattle.piece_rules.specs.declared.PieceAnswer.TheVariants.{Refused}
use Rattle.piece_rules.specs.declared.RunRecord.{RunRecord}
use Rattle.piece_rules.specs.Pieces.{PieceLeft, lengths_with, first_taken, later_taken, later_after, kept_with, first_piece, later_piece}
use Rattle.piece_rules.specs.InPieces.{taken_up_by, gone_on, gone_on_by, in_pieces, all_steps, EndsAsUncut, halted_after}
use Rattle.piece_rules.proofs.Kept.{later_is}
use Rattle.piece_rules.proofs.TakenUp.{first_by, again_by, on_by, first_gone_on}
use Rattle.piece_rules.proofs.Uncut.{halts_so, ends_so}

-- ---- the pieces of a problem are those by its table

module _ (p : Problem) (given : ℕ) (work cone log : List Float) where
  pub first_is : first_piece p given work cone log ≡ first_by (refusal p) p given work cone log
  unfolding first_piece
  first_is = refl

  pub again_is : (r : RunRecord) → later_piece p given work cone log r ≡ again_by (refusal p) p given work cone log r
  unfolding later_piece
  again_is r =
      ap (λ x. later_after x (later_taken given r (lengths_with p work cone log) (read_problem p) work cone log) work cone log) (later_is r p (length work) (length cone) (length log))

pub gone_on_is : (p : Problem) (given : ℕ) (left : PieceLeft) → gone_on p given left ≡ on_by (refusal p) p given left
gone_on_is p given left = λ i. taken_up_by (λ r. again_is p given left.work left.cone left.log r i) left.answer left

-- ---- two pieces, and any number of them

pub cut_once : (p : Problem) (a b : ℕ) (work cone log : List Float) → gone_on p b (first_piece p a work cone log) ≡ first_piece p (a + b) work cone log
cut_once p a b work cone log =
    gone_on_is p b (first_piece p a work cone log)
    ∙ ap (on_by (refusal p) p b) (first_is p a work cone log)
    ∙ first_gone_on (refusal p) p work cone log (accepted_as_read p (length work) (length cone)) a b
    ∙ sym (first_is p (a + b) work cone log)

no_more_pieces : (p : Problem) (left : PieceLeft) → gone_on_by p [] left ≡ left
unfolding gone_on_by
no_more_pieces p left = refl

one_piece_more : (p : Problem) (given : ℕ) (later : List ℕ) (left : PieceLeft) → gone_on_by p (given ∷ later) left ≡ gone_on_by p later (gone_on p given left)
unfolding gone_on_by
one_piece_more p given later left = refl

pub no_more_steps : all_steps [] ≡ 0
unfolding all_steps
no_more_steps = refl

pub more_steps : (given : ℕ) (later : List ℕ) → all_steps (given ∷ later) ≡ given + all_steps later
unfolding all_steps
more_steps given later = refl

-- of what a piece leaves after any number of steps, if two of them join
pub cut_by : (p : Problem) (after : ℕ → PieceLeft) → ((a b : ℕ) → gone_on p b (after a) ≡ after (a + b)) → (first : ℕ) (later : List ℕ) → gone_on_by p later (after first) ≡ after (first + all_steps later)
cut_by p after join first [] =
    let all : first + all_steps [] ≡ first = omega (arith, no_more_steps) in
    rw all (no_more_pieces p (after first))
cut_by p after join first (given ∷ later) =
    let all : first + given + all_steps later ≡ first + all_steps (given ∷ later) = omega (arith, more_steps given later) in
    one_piece_more p given later (after first)
    ∙ ap (gone_on_by p later) (join first given)
    ∙ cut_by p after join (first + given) later
    ∙ rw all

pub however_it_is_cut : (p : Problem) (first : ℕ) (later : List ℕ) (work cone log : List Float) → in_pieces p first later work cone log ≡ first_piece p (first + all_steps later) work cone log
however_it_is_cut p first later work cone log =
    cut_by p (λ a. first_piece p a work cone log) (λ a b. cut_once p a b work cone log) first later

-- ---- against the uncut run

module _ (p : Problem) (work cone log : List Float) where
  pub refused-first_piece : (given : ℕ) (e : Ending) → refusal p (length work) (length cone) ≡ TurnedAway e → first_piece p given work cone log ≡ kept_with (Refused e) work cone log
  refused-first_piece given e is = first_is p given work cone log ∙ rw is

  -- However it is cut, what turns the uncut run away turns it away: the same ending, k = q = 0, no rows, and all buffers as they were.
  pub refused_as_the_uncut_run : (first : ℕ) (later : List ℕ) (e : Ending) → refusal p (length work) (length cone) ≡ TurnedAway e → (in_pieces p first later work cone log ≡ kept_with (Refused e) work cone log) × (logged_solved p work cone log ≡ with_log (left_turned_away e work cone) (untouched log))
  refused_as_the_uncut_run first later e is = (
    however_it_is_cut p first later work cone log ∙ refused-first_piece (first + all_steps later) e is,
    refused_records_nothing p work cone log e is,
  )

  module _ (accepted : refusal p (length work) (length cone) ≡ Accepted) where
    pub first_taken_lem : (given : ℕ) → first_piece p given work cone log ≡ first_taken given (lengths_with p work cone log) (read_problem p) work cone log
    first_taken_lem given = first_is p given work cone log ∙ rw accepted

    pub as_the_uncut_run : (given : ℕ) → (run (read_problem p)).steps ≤ given → EndsAsUncut (logged_solved p work cone log) (first_piece p given work cone log)
    as_the_uncut_run given enough =
        rw (logged_accepted p work cone log accepted, first_taken_lem given)
        (ends_so given (lengths_with p work cone log) (read_problem p) work cone log enough)

    pub halts_as_after_its_last_step : (given : ℕ) → given < (run (read_problem p)).steps → first_piece p given work cone log ≡ halted_after given (lengths_with p work cone log) (read_problem p) work cone log
    halts_as_after_its_last_step given fewer =
        first_taken_lem given ∙ halts_so given (lengths_with p work cone log) (read_problem p) work cone log fewer

    pub the_last_piece_is_the_uncut_run : (first : ℕ) (later : List ℕ) → (run (read_problem p)).steps ≤ first + all_steps later → EndsAsUncut (logged_solved p work cone log) (in_pieces p first later work cone log)
    the_last_piece_is_the_uncut_run first later enough =
        rw (however_it_is_cut p first later work cone log) (as_the_uncut_run (first + all_steps later) enough)

    -- .. and where its steps are fewer, it halts as the uncut run stands after them.
    pub in_pieces_halts : (first : ℕ) (later : List ℕ) → first + all_steps later < (run (read_problem p)).steps → in_pieces p first later work cone log ≡ halted_after (first + all_steps later) (lengths_with p work cone log) (read_problem p) work cone log
    in_pieces_halts first later fewer =
        however_it_is_cut p first later work cone log ∙ halts_as_after_its_last_step (first + all_steps later) fewer
