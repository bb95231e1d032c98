-- The line of a card that is solved with a progress record, of any period, is the first of its text without one.
use Prim.Native.Nat.{ℕ}
use mathlib.Core.Path.{◌≡◌, sym, ◌∙◌}
use mathlib.Core.List.{List, [], ◌++◌, append-nil, append_assoc}
use lib.Ieee.{Float}
use lib.ListN.{replicate}
use Rattle.rules.specs.declared.Ending.{Ending}
use Rattle.rules.specs.declared.Ending.TheVariants.{BadParam, TooLarge, InvalidOp, BadCone, NotFinite, WorkShortage, Converged, ExcessIter, ExcessIterUnscaled, Unbounded, Infeasible, ConeFailure}
use Rattle.rules.specs.Arithmetic.{+0}
use Rattle.std.specs.Prelude.{Result, Ok, Err}
use Rattle.rules.specs.declared.Logged.{Logged}
use Rattle.card.specs.Card.{read_card, fault_number}
use Rattle.card.specs.declared.Fault.{Fault}
use Rattle.card_answer.specs.Answer.{work_places, work_after, logged_told_of}
use Rattle.card_problem.specs.declared.Told.{Told}
use Rattle.card_answer.proofs.Outcome.{plain_told, plain_told_lem}
use Rattle.card_text.specs.Text.{Ended, number_lines, AnswerText, ToldText, CardText, by_number, LoggedLine}
use Rattle.card_text.proofs.Coincide.{same_numbered, same_first}

pub record StartsWith (line text : List ℕ) : Type 0 where
  pub rest : List ℕ
  pub is : text ≡ line ++ rest

whole : (line text : List ℕ) → text ≡ line → StartsWith line text
whole line text e = record { rest = []; is = e ∙ sym (append-nil line) }

no_lines : (first : List ℕ) → first ++ number_lines [] ++ number_lines [] ≡ first
unfolding number_lines
no_lines first = append-nil (first ++ []) ∙ append-nil first

ended : (name : List ℕ) (k q : ℕ) (x y : List Float) (text line : List ℕ) → Ended name k q x y text → Ended name k q [] [] line → StartsWith line text
ended name k q x y text line d e =
    let one = same_first name k q d.first e.first d.is_first e.is_first in
    let alone : line ≡ e.first = e.is ∙ no_lines e.first in
    record { rest = number_lines x ++ number_lines y; is = d.is ∙ rw (one, alone) (append_assoc e.first (number_lines x) (number_lines y)) }

answered : (a : Ending) (k q : ℕ) (x y : List Float) (text line : List ℕ) → AnswerText a k q x y text → AnswerText a k q [] [] line → StartsWith line text
answered BadParam k q x y text line d e = whole line text (same_numbered _ 1 text line d e)
answered TooLarge k q x y text line d e = whole line text (same_numbered _ 2 text line d e)
answered InvalidOp k q x y text line d e = whole line text (same_numbered _ 3 text line d e)
answered BadCone k q x y text line d e = whole line text (same_numbered _ 4 text line d e)
answered NotFinite k q x y text line d e = whole line text (same_numbered _ 5 text line d e)
answered WorkShortage k q x y text line d e = whole line text (same_numbered _ 6 text line d e)
answered (Converged a b c) k q x y text line d e = ended _ k q x y text line d e
answered (ExcessIter a b c) k q x y text line d e = ended _ k q x y text line d e
answered (ExcessIterUnscaled a b) k q x y text line d e = ended _ k q x y text line d e
answered (Unbounded a) k q x y text line d e = ended _ k q x y text line d e
answered (Infeasible a) k q x y text line d e = ended _ k q x y text line d e
answered (ConeFailure b) k q x y text line d e = ended _ k q x y text line d e

told : (t : Result (Told Logged) Fault) (work : List Float) (text line : List ℕ) → ToldText (plain_told t) work text → LoggedLine (by_number t) line → StartsWith line text
told (Err f) work text line d e = whole line text (same_numbered _ (fault_number f) text line d e)
told (Ok t) work text line d e =
    answered t.answer.answer.ending t.answer.answer.steps t.answer.answer.rotations _ _ text line d e

pub the_first_line_is_the_same : (bytes : List ℕ) (period : ℕ) (log : List Float) (text line : List ℕ) → CardText (read_card bytes) text → LoggedLine (by_number (logged_told_of (read_card bytes) period (replicate work_places +0) log)) line → StartsWith line text
the_first_line_is_the_same bytes period log text line d e =
    told (logged_told_of (read_card bytes) period (replicate work_places +0) log) (work_after (read_card bytes) (replicate work_places +0)) text line (rw (plain_told_lem period (replicate work_places +0) log (read_card bytes)) d) e
