-- What is told of a card: its sizes, and its text.
use Prim.Native.Nat.{ℕ, ◌+◌, ◌≤◌, ◌<◌}
use native.Mathlib.Omega.{arith}
use mathlib.Core.Path.{◌≡◌, refl, sym, ap}
use mathlib.Core.Bool.{Bool, true, false, cond}
use mathlib.Core.List.{List, []}
use lib.Dec.{leb}
use lib.Ieee.{Float}
use lib.ListN.{length, take, drop, replicate, length-take}
use lib.Seq.{length-take-le}
use Rattle.io.specs.Counts.{IsPrefixLen}
use Rattle.rules.specs.Arithmetic.{+0}
use Rattle.rules.specs.Run.{solution_x, solution_y}
use Rattle.std.specs.Prelude.{Result}
use Rattle.rules.specs.declared.Answer.{Answer}
use Rattle.rules.specs.declared.Logged.{Logged}
use Rattle.card.specs.declared.Fault.{Fault}
use Rattle.card.specs.Card.{Reading, fault, read, read_card}
use Rattle.card.specs.Outcome.{answer_of, head_of}
use Rattle.card.proofs.Found.{bounds}
use Rattle.card_answer.specs.Answer.{work_places, told_of, CardOutcome}
use Rattle.card_text.specs.Text.{text_room, ToldText, Says, TextOutcome, LoggedLine, FirstLineOutcome}
use Rattle.card_text.specs.Growing.{columns_of, rows_of}
use Rattle.card_problem.specs.declared.Told.{Told}

-- ---- x and y are no longer than n and m

short : (holds : Bool) (n : ℕ) (xs : List Float) → n ≤ 32 → length (cond holds (take n xs) []) ≤ 32
short true n xs h = rw (length-take n xs) (omega arith)
short false n xs h = omega arith

pub x_within : (n : ℕ) (work : List Float) → n ≤ 32 → length (solution_x n work) ≤ 32
unfolding solution_x
x_within n work h = short (leb n (length work)) n work h

pub y_within : (m n : ℕ) (work : List Float) → m ≤ 32 → length (solution_y m n work) ≤ 32
unfolding solution_y
y_within m n work h = short (leb (n + m) (length work)) m (drop n work) h

-- ---- n and m of a card

columns : (bytes : List ℕ) (work : List Float) (r : Reading) → read_card bytes ≡ r → columns_of (told_of r work) ≤ 32
columns bytes work (fault f) e = omega arith
columns bytes work (read k) e = (bounds bytes (head_of k) (ap answer_of e)).cols_most

pub columns_within : (bytes : List ℕ) (work : List Float) (told : Result (Told Answer) Fault) → told ≡ told_of (read_card bytes) work → columns_of told ≤ 32
columns_within bytes work told e = rw e (columns bytes work (read_card bytes) refl)

rows : (bytes : List ℕ) (work : List Float) (r : Reading) → read_card bytes ≡ r → rows_of (told_of r work) ≤ 32
rows bytes work (fault f) e = omega arith
rows bytes work (read k) e = (bounds bytes (head_of k) (ap answer_of e)).rows_most

pub rows_within : (bytes : List ℕ) (work : List Float) (told : Result (Told Answer) Fault) → told ≡ told_of (read_card bytes) work → rows_of told ≤ 32
rows_within bytes work told e = rw e (rows bytes work (read_card bytes) refl)

-- ---- the whole text

pub counts : (count : ℕ) (text : List ℕ) → count ≤ text_room → text_room ≤ length text → IsPrefixLen count text
counts count text h g = (omega arith, sym (length-take-le count text (omega arith)))

pub text_too_short : (bytes before : List ℕ) → length before < text_room → TextOutcome bytes before 0 before
text_too_short bytes before h = record { inside = omega arith; too_short = λ _. (refl, refl); written = λ g. absurd (omega arith) }

pub text_written : (bytes before : List ℕ) (told : Result (Told Answer) Fault) (work' : List Float) (count : ℕ) (after : List ℕ) → text_room ≤ length before → count ≤ length after
    → CardOutcome bytes (replicate work_places +0) told work'
    → Says (ToldText told work') before count after
    → TextOutcome bytes before count after
text_written bytes before told work' count after h g o t =
    record { inside = g; too_short = λ l. absurd (omega arith); written = λ _. rw (o.answered, o.work_left) at t }

-- ---- the first line alone

pub line_written : (told : Result (Told Logged) ℕ) (before : List ℕ) (count : ℕ) (after : List ℕ) → text_room ≤ length before → length after ≡ length before → count ≤ text_room → Says (LoggedLine told) before count after
    → record { prefix_len : IsPrefixLen count after; first_line_outcome : FirstLineOutcome told before count after }
line_written told before count after h kept few t =
    record { prefix_len = counts count after few (omega arith); first_line_outcome = record { inside = omega arith; too_short = λ l. absurd (omega arith); written = λ _. t } }
