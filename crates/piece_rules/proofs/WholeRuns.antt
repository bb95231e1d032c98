-- Demand 3, the old-contents law and request (x)'s law, read over whole runs from their first piece.
use Prim.Native.Nat.{ℕ, ◌+◌, ◌≤◌}
use native.Mathlib.Omega.{arith}
use mathlib.Core.Path.{◌≡◌, refl, sym, ◌∙◌, ap}
use mathlib.Core.List.{List}
use lib.Ieee.{Float}
use lib.ListN.{length}
use Rattle.rules.specs.declared.Ending.{Ending}
use Rattle.rules.specs.declared.Logged.{Logged}
use Rattle.rules.specs.Problem.{Problem}
use Rattle.rules.specs.Run.{run, left_by}
use Rattle.rules.specs.Refusals.{Refusal, Accepted, Refused as TurnedAway, refusal, read_problem}
use Rattle.rules.specs.Progress.{LoggedLeft, log_after, with_log, logged_solved, LoggedAs}
use Rattle.rules.specs.Demands.{AnsweredByTheRules, RecordedByTheRules, work_needed, cone_needed, SameOverThree, with_period, SameButForTheLog}
use Rattle.rules.proofs.Columns.{by_less}
use Rattle.rules.proofs.Refusals.{none_holds}
use Rattle.rules.proofs.Answered.{accepted_runs_as_demanded}
use Rattle.rules.proofs.LoggedRuns.{logged_accepted, logged_outcome_is_the_plain, recorded_by_the_rules, old_contents_of_three}
use Rattle.rules.proofs.AnyPeriod.{neither_period_nor_log_alters}
use Rattle.piece_rules.specs.declared.PieceAnswer.{PieceAnswer}
use Rattle.piece_rules.specs.declared.PieceAnswer.TheVariants.{Refused, StaleRun, Halted, Ended as EndedSo}
use Rattle.piece_rules.specs.declared.RunRecord.{RunRecord}
use Rattle.piece_rules.specs.Pieces.{PieceLeft, lengths_with, first_taken}
use Rattle.piece_rules.specs.InPieces.{in_pieces, all_steps, EndsAsUncut}
use Rattle.piece_rules.proofs.TakenUp.{first_by}
use Rattle.piece_rules.proofs.Uncut.{halts_so, ends_so}
use Rattle.piece_rules.proofs.InPieces.{first_is, however_it_is_cut}

-- ---- what has ended

-- the answer of a run, of a piece that has one
abbrev answer_of : Logged → PieceAnswer → Logged
answer_of other (EndedSo a r) = a
answer_of other (Refused e) = other
answer_of other StaleRun = other
answer_of other (Halted r) = other

-- a piece ends in one way
ends_once : (one other : LoggedLeft) (left : PieceLeft) → EndsAsUncut one left → EndsAsUncut other left → one ≡ other
ends_once one other left f g =
    let a : one.answer ≡ other.answer = ap (answer_of one.answer) (sym f.answered ∙ g.answered) in
    let w : one.work ≡ other.work = sym f.work_left ∙ g.work_left in
    let c : one.cone ≡ other.cone = sym f.cone_left ∙ g.cone_left in
    let l : one.log ≡ other.log = sym f.log_left ∙ g.log_left in
    λ i. record { answer = a i; work = w i; cone = c i; log = l i }

not_refused : {e : Ending} {a : Logged} {r : RunRecord} → Refused e ≡ EndedSo a r → ⊥
not_refused h =
    let z : ◌≡◌ {A = ℕ} 0 1 = cc in
    omega arith

not_halted : {s : RunRecord} {a : Logged} {r : RunRecord} → Halted s ≡ EndedSo a r → ⊥
not_halted h =
    let z : ◌≡◌ {A = ℕ} 0 1 = cc in
    omega arith

-- .. and then it was not turned away, and has come to what the uncut run comes to
pub record EndedSoBy (test : ℕ → ℕ → Refusal) (p : Problem) (work cone log : List Float) (one : LoggedLeft) : Type 0 where
  pub accepted : test (length work) (length cone) ≡ Accepted
  pub so : one ≡ with_log (left_by (read_problem p) work cone (run (read_problem p))) (log_after (read_problem p) log (run (read_problem p)).steps)

module _ (test : ℕ → ℕ → Refusal) (p : Problem) (given : ℕ) (work cone log : List Float) (one : LoggedLeft) (e : EndsAsUncut one (first_by test p given work cone log)) where
  pub ended_so_by : EndedSoBy test p work cone log one
  ended_so_by = go (test (length work) (length cone)) refl e
    where
      enough : EndsAsUncut one (first_taken given (lengths_with p work cone log) (read_problem p) work cone log) → (run (read_problem p)).steps ≤ given
      enough f =
          by_less given (run (read_problem p)).steps
          (λ fewer. absurd (not_halted (sym (ap (λ (l : PieceLeft). l.answer) (halts_so given (lengths_with p work cone log) (read_problem p) work cone log fewer)) ∙ f.answered)))
          (λ h. h)

      go : (r : Refusal) → test (length work) (length cone) ≡ r → EndsAsUncut one (first_by test p given work cone log) → EndedSoBy test p work cone log one
      go (TurnedAway x) is f = absurd (not_refused (rw is at f.answered))
      go Accepted is f =
          let g : EndsAsUncut one (first_taken given (lengths_with p work cone log) (read_problem p) work cone log) = rw is at f in
          record { accepted = is; so = ends_once one _ _ g (ends_so given (lengths_with p work cone log) (read_problem p) work cone log (enough g)) }

-- ---- of a problem

module _ (p : Problem) (first : ℕ) (later : List ℕ) (work cone log : List Float) (one : LoggedLeft) (e : EndsAsUncut one (in_pieces p first later work cone log)) where
  so_ended : EndedSoBy (refusal p) p work cone log one
  so_ended =
      ended_so_by (refusal p) p (first + all_steps later) work cone log one
      (rw (however_it_is_cut p first later work cone log, first_is p (first + all_steps later) work cone log) at e)

  pub ended_was_accepted : refusal p (length work) (length cone) ≡ Accepted
  ended_was_accepted = so_ended.accepted

  -- However it was cut: where it has ended, it is the uncut run.
  pub ended_is_the_uncut_run : one ≡ logged_solved p work cone log
  ended_is_the_uncut_run = so_ended.so ∙ sym (logged_accepted p work cone log ended_was_accepted)

  outcome_of_uncut : LoggedAs (logged_solved p work cone log) one.answer one.work one.cone one.log
  outcome_of_uncut =
      let same = ended_is_the_uncut_run in
      record {
        answered = ap (λ (l : LoggedLeft). l.answer) same;
        work_left = ap (λ (l : LoggedLeft). l.work) same;
        cone_left = ap (λ (l : LoggedLeft). l.cone) same;
        log_left = ap (λ (l : LoggedLeft). l.log) same;
      }

  -- demand 3
  pub in_pieces_as_demanded : AnsweredByTheRules (read_problem p) one.answer.answer one.work one.cone
  in_pieces_as_demanded =
      accepted_runs_as_demanded p work cone one.answer.answer one.work one.cone (logged_outcome_is_the_plain p work cone log one.answer one.work one.cone one.log outcome_of_uncut) (none_holds p (length work) (length cone) ended_was_accepted)

  -- the progress record
  pub in_pieces-recorded : RecordedByTheRules (read_problem p) log one.answer one.log
  in_pieces-recorded =
      recorded_by_the_rules p work cone log one.answer one.work one.cone one.log outcome_of_uncut (none_holds p (length work) (length cone) ended_was_accepted)

-- What three buffers held before the first piece changes neither the answer, nor the required parts, nor the rows that both have.
pub in_pieces_old_contents : (p : Problem) (first first' : ℕ) (later later' : List ℕ) (work cone log work' cone' log' : List Float) (one other : LoggedLeft) → EndsAsUncut one (in_pieces p first later work cone log) → EndsAsUncut other (in_pieces p first' later' work' cone' log') → SameOverThree (work_needed p) (cone_needed p) log log' one other
in_pieces_old_contents p first first' later later' work cone log work' cone' log' one other e e' =
    rw (ended_is_the_uncut_run p first later work cone log one e, ended_is_the_uncut_run p first' later' work' cone' log' other e')
    (old_contents_of_three p work cone log work' cone' log' (ended_was_accepted p first later work cone log one e) (ended_was_accepted p first' later' work' cone' log' other e'))

-- Neither the period nor the third buffer alters anything but the record.
pub in_pieces_neither_period_nor_log_alters : (p : Problem) (period period' first first' : ℕ) (later later' : List ℕ) (work cone log log' : List Float) (one other : LoggedLeft) → EndsAsUncut one (in_pieces (with_period period p) first later work cone log) → EndsAsUncut other (in_pieces (with_period period' p) first' later' work cone log') → SameButForTheLog one other
in_pieces_neither_period_nor_log_alters p period period' first first' later later' work cone log log' one other e e' =
    rw (ended_is_the_uncut_run (with_period period p) first later work cone log one e, ended_is_the_uncut_run (with_period period' p) first' later' work cone log' other e')
    (neither_period_nor_log_alters p period period' work cone log log')
