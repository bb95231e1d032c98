-- A piece is turned away exactly when a fact of its table is the first to hold, and changes no buffer then. Of any table.
use Prim.Native.Nat.{ℕ, zero, suc, ◌-◌, ◌≤◌}
use native.Mathlib.Omega.{arith}
use mathlib.Core.Path.{◌≡◌, refl, sym, ◌∙◌, ap}
use mathlib.Core.Bool.{true, false, true≢false}
use mathlib.Core.List.{List, [], ◌∷◌}
use lib.Ieee.{Float}
use Rattle.rules.specs.declared.Ending.{Ending}
use Rattle.rules.specs.declared.Norms.{Norms}
use Rattle.rules.specs.Problem.{Problem}
use Rattle.rules.specs.Step.{State}
use Rattle.rules.specs.Run.{Verdict, GoesOn, Ends, Piece, piece_from}
use Rattle.rules.specs.Refusals.{Fact, ◌when◌, First, none_applies, applies, first_of, as_refusal}
use Rattle.rules.specs.Progress.{Log, log_from}
use Rattle.rules.specs.Demands.{FirstToHold, NumberedFrom, number_given}
use Rattle.rules.proofs.Refusals.{given_exactly}
use Rattle.piece_rules.specs.declared.LaterRefusal.{LaterRefusal}
use Rattle.piece_rules.specs.declared.LaterRefusal.TheVariants.{Refused as ByTest, StaleRun}
use Rattle.piece_rules.specs.declared.RunLengths.{RunLengths}
use Rattle.piece_rules.specs.declared.RunRecord.{RunRecord}
use Rattle.piece_rules.specs.Pieces.{PieceLeft, left_by_piece, steps_taken, later_taken, from_work, with_tau, log_kept, by_tests, as_later, piece_number, later_number, kept_with, first_after, later_after}
use Rattle.piece_rules.specs.InPieces.{PieceTurnedAwayBy}
use Rattle.piece_rules.proofs.Cut.{steps_taken_are}

-- ---- a piece that is taken has no number

by_verdict : (v : Verdict) (lengths : RunLengths) (p : Problem) (ns : Norms) (work cone : List Float) (c : Piece) (log : Log) → piece_number (left_by_piece v lengths p ns work cone c log).answer ≡ 0
by_verdict GoesOn lengths p ns work cone c log = refl
by_verdict (Ends e) lengths p ns work cone c log = refl

pub steps_unnumbered : (given : ℕ) (lengths : RunLengths) (p : Problem) (ns : Norms) (k q : ℕ) (s : State) (log : Log) (work cone : List Float) → piece_number (steps_taken given lengths p ns k q s log work cone).answer ≡ 0
steps_unnumbered given lengths p ns k q s log work cone =
    let c = piece_from given p ns k q s in
    ap (λ (l : PieceLeft). piece_number l.answer) (steps_taken_are lengths p ns k q s log work cone given c refl)
    ∙ by_verdict c.said lengths p ns work cone c (log_from p ns k s log (c.steps - k))

pub later_unnumbered : (given : ℕ) (r : RunRecord) (lengths : RunLengths) (p : Problem) (work cone log : List Float) → piece_number (later_taken given r lengths p work cone log).answer ≡ 0
later_unnumbered zero r lengths p work cone log = refl
later_unnumbered (suc more) r lengths p work cone log =
    steps_unnumbered (suc more) lengths p r.norms r.steps r.rotations (with_tau p r.tau (from_work p work cone)) (log_kept r log) work cone

-- ---- the table

module _ (rows : List (Fact LaterRefusal)) (numbered : NumberedFrom later_number 1 rows) (taken : PieceLeft) (unnumbered : piece_number taken.answer ≡ 0) (work cone log : List Float) where
  abbrev after : First LaterRefusal → PieceLeft
  after x = later_after (as_later x) taken work cone log

  number_given_lem : (x : First LaterRefusal) → piece_number (after x).answer ≡ number_given later_number x
  number_given_lem none_applies = unnumbered
  number_given_lem (applies (ByTest e)) = refl
  number_given_lem (applies StaleRun) = refl

  kept_or_none : (x : First LaterRefusal) (i : ℕ) → 1 ≤ i → number_given later_number x ≡ i → after x ≡ kept_with (after x).answer work cone log
  kept_or_none none_applies i least e = absurd (omega arith)
  kept_or_none (applies (ByTest x)) i least e = refl
  kept_or_none (applies StaleRun) i least e = refl

  some_place : (i : ℕ) → FirstToHold rows i → 1 ≤ i
  some_place zero f = absurd (true≢false (sym f.holds))
  some_place (suc i) f = omega arith

  pub turned_away_by : (left : PieceLeft) → left ≡ after (first_of rows) → PieceTurnedAwayBy rows left work cone log
  turned_away_by left is =
      let table = given_exactly later_number rows numbered in
      let number : piece_number left.answer ≡ number_given later_number (first_of rows) = rw is (number_given_lem (first_of rows)) in
      record {
        exactly = λ i h. (λ e. (table.refuses i h).0 (sym number ∙ e), λ f. number ∙ (table.refuses i h).1 f);
        none_otherwise = λ h. number ∙ ap (number_given later_number) (table.accepts.1 h);
        changes_nothing = λ i f. rw is (kept_or_none (first_of rows) i (some_place i f) ((table.refuses i (some_place i f)).1 f));
      }

-- a first piece is turned away by the six tests alone
pub by_tests_first : (rows : List (Fact Ending)) (taken : PieceLeft) (work cone log : List Float) → first_after (as_refusal (first_of rows)) taken work cone log ≡ later_after (as_later (first_of (by_tests rows))) taken work cone log
unfolding first_of by_tests
by_tests_first [] taken work cone log = refl
by_tests_first ((e when true) ∷ rows) taken work cone log = refl
by_tests_first ((e when false) ∷ rows) taken work cone log = by_tests_first rows taken work cone log
