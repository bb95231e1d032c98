-- Document 02, (i): "The program writes `Card N`, `Refused N`, or the ending's name, k and q, then x and y as 16 lowercase hex digits a line, any NaN as
-- 7ff8000000000000." Text is bytes, in ASCII.
use Rattle.std.specs.Prelude.{ℕ, ◌≤◌, ◌<◌, ◌≡◌, List, [], ◌∷◌, ◌++◌, Float, length, take, drop, replicate, Result, Ok, Err}
use Rattle.std.specs.Float.{binary64}
use Rattle.std.specs.Float.Ieee.{to_bits}
use Rattle.io.specs.Digits.{last_digits, IsDigitCount}
use Rattle.rules.specs.declared.Ending.{Ending}
use Rattle.rules.specs.declared.Ending.TheVariants.{BadParam, TooLarge, InvalidOp, BadCone, NotFinite, WorkShortage, Converged, ExcessIter, ExcessIterUnscaled, Unbounded, Infeasible, ConeFailure}
use Rattle.rules.specs.Arithmetic.{+0}
use Rattle.rules.specs.Refusals.{number_of}
use Rattle.rules.specs.Run.{solution_x, solution_y}
use Rattle.rules.specs.declared.Answer.{Answer}
use Rattle.rules.specs.declared.Logged.{Logged}
use Rattle.card.specs.Card.{Reading, read_card, fault_number}
use Rattle.card.specs.declared.Fault.{Fault}
use Rattle.card_answer.specs.Answer.{work_places, told_of, work_after}
use Rattle.card_problem.specs.declared.Told.{Told}

abbrev pub newline : List ℕ
newline = 10 ∷ []

abbrev pub space : List ℕ
space = 32 ∷ []

-- the decimal digits of a number, none too many
pub record Decimal (n : ℕ) (text : List ℕ) : Type 0 where
  pub places : ℕ
  pub fewest : IsDigitCount 10 1 n places
  pub spelled : text ≡ last_digits 10 places n

-- "16 lowercase hex digits a line"
abbrev pub number_line : Float → List ℕ
number_line x = last_digits 16 16 (to_bits binary64 x) ++ newline

unfoldable pub number_lines : List Float → List ℕ
number_lines [] = []
number_lines (x ∷ xs) = number_line x ++ number_lines xs

-- a word and a number on a line
pub record Numbered (word : List ℕ) (n : ℕ) (text : List ℕ) : Type 0 where
  pub number : List ℕ
  pub is_number : Decimal n number
  pub is : text ≡ word ++ number ++ newline

-- "the ending's name, k and q" on a line; the name has a space after it
pub record FirstLine (name : List ℕ) (k q : ℕ) (text : List ℕ) : Type 0 where
  pub steps : List ℕ
  pub rotations : List ℕ
  pub is_steps : Decimal k steps
  pub is_rotations : Decimal q rotations
  pub is : text ≡ name ++ steps ++ space ++ rotations ++ newline

-- "then x and y"
pub record Ended (name : List ℕ) (k q : ℕ) (x y : List Float) (text : List ℕ) : Type 0 where
  pub first : List ℕ
  pub is_first : FirstLine name k q first
  pub is : text ≡ first ++ number_lines x ++ number_lines y

-- "Card ", "Refused "
abbrev pub card : List ℕ
card = 67 ∷ 97 ∷ 114 ∷ 100 ∷ 32 ∷ []

abbrev pub refused : List ℕ
refused = 82 ∷ 101 ∷ 102 ∷ 117 ∷ 115 ∷ 101 ∷ 100 ∷ 32 ∷ []

-- "Converged ", "ExcessIter ", "Unbounded ", "Infeasible ", "ConeFailure "
abbrev pub converged : List ℕ
converged = 67 ∷ 111 ∷ 110 ∷ 118 ∷ 101 ∷ 114 ∷ 103 ∷ 101 ∷ 100 ∷ 32 ∷ []

abbrev pub excess_iter : List ℕ
excess_iter = 69 ∷ 120 ∷ 99 ∷ 101 ∷ 115 ∷ 115 ∷ 73 ∷ 116 ∷ 101 ∷ 114 ∷ 32 ∷ []

abbrev pub unbounded : List ℕ
unbounded = 85 ∷ 110 ∷ 98 ∷ 111 ∷ 117 ∷ 110 ∷ 100 ∷ 101 ∷ 100 ∷ 32 ∷ []

abbrev pub infeasible : List ℕ
infeasible = 73 ∷ 110 ∷ 102 ∷ 101 ∷ 97 ∷ 115 ∷ 105 ∷ 98 ∷ 108 ∷ 101 ∷ 32 ∷ []

abbrev pub cone_failure : List ℕ
cone_failure = 67 ∷ 111 ∷ 110 ∷ 101 ∷ 70 ∷ 97 ∷ 105 ∷ 108 ∷ 117 ∷ 114 ∷ 101 ∷ 32 ∷ []

-- "`Refused N`", with document 01's number, "or the ending's name", which is ExcessIter in both its cases
abbrev pub AnswerText : Ending → ℕ → ℕ → List Float → List Float → List ℕ → Type 0
AnswerText BadParam k q x y = Numbered refused (number_of BadParam)
AnswerText TooLarge k q x y = Numbered refused (number_of TooLarge)
AnswerText InvalidOp k q x y = Numbered refused (number_of InvalidOp)
AnswerText BadCone k q x y = Numbered refused (number_of BadCone)
AnswerText NotFinite k q x y = Numbered refused (number_of NotFinite)
AnswerText WorkShortage k q x y = Numbered refused (number_of WorkShortage)
AnswerText (Converged a b c) k q x y = Ended converged k q x y
AnswerText (ExcessIter a b c) k q x y = Ended excess_iter k q x y
AnswerText (ExcessIterUnscaled a b) k q x y = Ended excess_iter k q x y
AnswerText (Unbounded a) k q x y = Ended unbounded k q x y
AnswerText (Infeasible a) k q x y = Ended infeasible k q x y
AnswerText (ConeFailure b) k q x y = Ended cone_failure k q x y

-- what is told, as text
abbrev pub ToldText : Result (Told Answer) Fault → List Float → List ℕ → Type 0
ToldText (Err f) work = Numbered card (fault_number f)
ToldText (Ok told) work = AnswerText told.answer.ending told.answer.steps told.answer.rotations (solution_x told.cols.0 work) (solution_y told.rows.0 told.cols.0 work)

-- "The program writes .." for a card that is read so: what is told of it over zeroed work
abbrev pub CardText : Reading → List ℕ → Type 0
CardText r = ToldText (told_of r (replicate work_places +0)) (work_after r (replicate work_places +0))

-- ---- text in a buffer

-- so many bytes of a buffer say something, and the others are kept
pub record Says (something : List ℕ → Type 0) (before : List ℕ) (count : ℕ) (after : List ℕ) : Type 0 where
  pub said : something (take count after)
  pub kept : drop count after ≡ drop count before

-- A buffer of so many bytes holds the text of any card, and a few more.
abbrev pub text_room : ℕ
text_room = 1200

-- The first bytes are the card's text, and all after them are kept. A buffer without that room is kept whole, and its text is of no bytes.
pub record TextOutcome (bytes before : List ℕ) (count : ℕ) (after : List ℕ) : Type 0 where
  pub inside : count ≤ length after
  pub too_short : length before < text_room → (count ≡ 0) × (after ≡ before)
  pub written : text_room ≤ length before → Says (CardText (read_card bytes)) before count after

-- ---- the first line alone, of a card that was solved with a progress record: that of an answer without x and y

-- a fault is told by its number
abbrev pub by_number : Result (Told Logged) Fault → Result (Told Logged) ℕ
by_number (Err f) = Err (fault_number f)
by_number (Ok told) = Ok told

abbrev pub LoggedLine : Result (Told Logged) ℕ → List ℕ → Type 0
LoggedLine (Err f) = Numbered card f
LoggedLine (Ok told) = AnswerText told.answer.answer.ending told.answer.answer.steps told.answer.answer.rotations [] []

pub record FirstLineOutcome (told : Result (Told Logged) ℕ) (before : List ℕ) (count : ℕ) (after : List ℕ) : Type 0 where
  pub inside : count ≤ length after
  pub too_short : length before < text_room → (count ≡ 0) × (after ≡ before)
  pub written : text_room ≤ length before → Says (LoggedLine told) before count after
