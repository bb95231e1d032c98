-- Document 02, (i), "A problem file for the bench": what becomes of the problem that a card says, which stands in card_problem.
use Rattle.std.specs.Prelude.{ℕ, ◌≡◌, List, Float, replicate, Result, Ok, Err}
use Rattle.rules.specs.declared.Rows.{Rows}
use Rattle.rules.specs.declared.Cols.{Cols}
use Rattle.rules.specs.declared.Answer.{Answer}
use Rattle.rules.specs.declared.Logged.{Logged}
use Rattle.rules.specs.Arithmetic.{+0}
use Rattle.rules.specs.Problem.{Problem}
use Rattle.rules.specs.Run.{Left}
use Rattle.rules.specs.Refusals.{solved}
use Rattle.rules.specs.Progress.{LoggedLeft, logged_solved}
use Rattle.rules.specs.Demands.{with_period}
use Rattle.card.specs.Card.{Reading, fault, read, read_card}
use Rattle.card.specs.Outcome.{rows_of, cols_of}
use Rattle.card.specs.declared.Fault.{Fault}
use Rattle.card_problem.specs.declared.Told.{Told}
pub use Rattle.card_problem.specs.Problem.{number_at, storage_of, problem_of_card}
unfoldable pub use Rattle.card_problem.specs.Problem.{numbers_at, parameters_of, problem_from}

-- ---- what becomes of a card

-- The places of work that are lent: enough for n and m of 32.
abbrev pub work_places : ℕ
work_places = 518

-- The places of cone work that are lent: d + d * d for the largest order d of a block of at most 32 places, 7.
abbrev pub cone_places : ℕ
cone_places = 56

abbrev pub left_of : Problem → List Float → Left
left_of p work = solved p work (replicate cone_places +0)

-- m and n, how the problem ends or why it is turned away, k and q
abbrev pub answered_of : Rows → Cols → Left → Told Answer
answered_of rows cols left = record { rows = rows; cols = cols; answer = left.answer }

-- the card's fault, or its answer
abbrev pub told_of : Reading → List Float → Result (Told Answer) Fault
told_of (fault f) work = Err f
told_of (read k) work = Ok (answered_of (rows_of k) (cols_of k) (left_of (problem_of_card k) work))

abbrev pub work_after : Reading → List Float → List Float
work_after (fault f) work = work
work_after (read k) work = (left_of (problem_of_card k) work).work

pub record CardOutcome (bytes : List ℕ) (work : List Float) (told : Result (Told Answer) Fault) (work' : List Float) : Type 0 where
  pub answered : told ≡ told_of (read_card bytes) work
  pub work_left : work' ≡ work_after (read_card bytes) work

-- ---- the same with a progress record: document 02, (x). "Cards themselves run without a record", so this is a door of its own

-- the problem with this log_period, over the record that is lent
abbrev pub logged_left_of : ℕ → Problem → List Float → List Float → LoggedLeft
logged_left_of period p work log = logged_solved (with_period period p) work (replicate cone_places +0) log

-- m and n, and what the run answers, with the rows written and dropped
abbrev pub logged_told_of : Reading → ℕ → List Float → List Float → Result (Told Logged) Fault
logged_told_of (fault f) period work log = Err f
logged_told_of (read k) period work log =
    Ok (record { rows = rows_of k; cols = cols_of k; answer = (logged_left_of period (problem_of_card k) work log).answer })

abbrev pub logged_work_after : Reading → ℕ → List Float → List Float → List Float
logged_work_after (fault f) period work log = work
logged_work_after (read k) period work log = (logged_left_of period (problem_of_card k) work log).work

abbrev pub record_after : Reading → ℕ → List Float → List Float → List Float
record_after (fault f) period work log = log
record_after (read k) period work log = (logged_left_of period (problem_of_card k) work log).log

pub record CardLogOutcome (bytes : List ℕ) (period : ℕ) (work log : List Float) (told : Result (Told Logged) Fault) (work' log' : List Float) : Type 0 where
  pub answered : told ≡ logged_told_of (read_card bytes) period work log
  pub work_left : work' ≡ logged_work_after (read_card bytes) period work log
  pub log_left : log' ≡ record_after (read_card bytes) period work log

-- the same of a card's problem
pub record RunOutcome (p : Problem) (period : ℕ) (work log : List Float) (logged : Logged) (work' log' : List Float) : Type 0 where
  pub answered : logged ≡ (logged_left_of period p work log).answer
  pub work_left : work' ≡ (logged_left_of period p work log).work
  pub log_left : log' ≡ (logged_left_of period p work log).log
