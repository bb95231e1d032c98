-- Document 02, request (x): "A progress record. Parameters gain log_period (any 32-bit number, 0 means none), and a third buffer of f64 is lent, of any length."
use Rattle.std.specs.Prelude.{ℕ, zero, suc, ◌+◌, ◌-◌, ◌*◌, ◌%◌, ◌≡◌, Bool, cond, ◌&&◌, List, [], ◌∷◌, ◌++◌, leb, ltb, eqb, Float, length, take, drop}
use Rattle.rules.specs.declared.Criteria.{Criteria}
use Rattle.rules.specs.declared.Criteria.TheVariants.{Conv, Inf}
use Rattle.rules.specs.declared.Logged.{Logged}
use Rattle.rules.specs.declared.Norms.{Norms}
use Rattle.rules.specs.Arithmetic.{+0}
use Rattle.rules.specs.Product.{is_none}
use Rattle.rules.specs.Problem.{Problem, embed}
use Rattle.rules.specs.Step.{State}
use Rattle.rules.specs.Criteria.{tau_of}
use Rattle.rules.specs.Prepare.{prepared, prepared_norms}
use Rattle.rules.specs.Run.{WholeStep, whole_step, state_from, run, Left}
use Rattle.rules.specs.Refusals.{Refusal, Accepted, Refused, read_problem, refusal, solved}
use Rattle.rules.specs.Split.{SplitProblem, joined_problem, split_refusal, split_solved}

-- "At steps 1, 1 + period, 1 + 2·period and so on": steps are counted from 1, and a period of 0 means none
unfoldable pub is_due : ℕ → ℕ → Bool
is_due period k = ltb 0 period && ltb 0 k && eqb ((k - 1) % period) 0

-- "a row is written: tau, then the three convergence criteria, or the two others and +0"
abbrev pub row_of : Float → Criteria → List Float
row_of tau (Conv pri dual gap) = tau ∷ pri ∷ dual ∷ gap ∷ []
row_of tau (Inf unbdd infeas) = tau ∷ unbdd ∷ infeas ∷ +0 ∷ []

-- ---- the record: its places, and the rows written and dropped so far

pub record Log : Type 0 where
  pub places : List Float
  pub written : ℕ
  pub dropped : ℕ

-- as it is lent
abbrev pub untouched : List Float → Log
untouched places = record { places = places; written = 0; dropped = 0 }

-- whether a row fits whole after so many rows, and the places with it there: "Rows stand one after another from the buffer's first place, four places each."
abbrev pub row_fits : ℕ → List Float → Bool
row_fits written places = leb (4 * written + 4) (length places)

unfoldable pub row_put : ℕ → List Float → List Float → List Float
row_put written row places = take (4 * written) places ++ row ++ drop (4 * written + 4) places

-- "Rows that don't fit whole are dropped"
unfoldable pub log_row : List Float → Log → Log
unfolding row_put
log_row row log =
    let put : Log = record { places = row_put log.written row log.places; written = log.written + 1; dropped = log.dropped } in
    let missed : Log = record { places = log.places; written = log.written; dropped = log.dropped + 1 } in
    cond (row_fits log.written log.places) put missed

-- step k, where its row is due; "A step with ConeFailure writes no row and drops none."
unfoldable pub log_step : Problem → ℕ → WholeStep → Log → Log
unfolding is_due log_row
log_step p k t log =
    cond (is_due p.par.log_period k && is_none t.failure) (log_row (row_of (tau_of (embed p) t.state.x) t.criteria) log) log

-- the record after i steps from s, when k steps were behind
unfoldable pub log_from : Problem → Norms → ℕ → State → Log → ℕ → Log
unfolding log_step whole_step state_from
log_from p ns k s log zero = log
log_from p ns k s log (suc i) = log_step p (k + suc i) (whole_step p ns (state_from p ns s i)) (log_from p ns k s log i)

-- the whole run's, after k steps: "up to k"
abbrev pub log_after : Problem → List Float → ℕ → Log
log_after p log k = log_from p (prepared_norms p) 0 (prepared p) (untouched log) k

-- ---- the whole outcome: "the answer gains rows written and rows dropped"

pub record LoggedLeft : Type 0 where
  pub answer : Logged
  pub work : List Float
  pub cone : List Float
  pub log : List Float

-- "a refusal writes none and answers 0 for both counts"
abbrev pub log_of : Refusal → Problem → List Float → Log
log_of Accepted p log = log_after p log (run p).steps
log_of (Refused e) p log = untouched log

-- what a problem leaves without a record, and the record
abbrev pub with_log : Left → Log → LoggedLeft
with_log left log =
    record {
      answer = record { answer = left.answer; written = log.written; dropped = log.dropped };
      work = left.work;
      cone = left.cone;
      log = log.places;
    }

unfoldable pub logged_solved : Problem → List Float → List Float → List Float → LoggedLeft
unfolding solved log_from refusal read_problem run
logged_solved p work cone log =
    with_log (solved p work cone) (log_of (refusal p (length work) (length cone)) (read_problem p) log)

-- the same of a problem whose A stands in two slices
unfoldable pub split_logged_solved : SplitProblem → List Float → List Float → List Float → LoggedLeft
unfolding split_solved log_from split_refusal read_problem run
split_logged_solved p work cone log =
    with_log (split_solved p work cone) (log_of (split_refusal p (length work) (length cone)) (read_problem (joined_problem p)) log)

-- It answers by the rule, and all three buffers hold what the rule says, place by place, on refusal too.
pub record LoggedAs (left : LoggedLeft) (answer : Logged) (work cone log : List Float) : Type 0 where
  pub answered : answer ≡ left.answer
  pub work_left : work ≡ left.work
  pub cone_left : cone ≡ left.cone
  pub log_left : log ≡ left.log

abbrev pub LoggedOutcome : Problem → List Float → List Float → List Float → Logged → List Float → List Float → List Float → Type 0
LoggedOutcome p work cone log = LoggedAs (logged_solved p work cone log)

abbrev pub SplitLoggedOutcome : SplitProblem → List Float → List Float → List Float → Logged → List Float → List Float → List Float → Type 0
SplitLoggedOutcome p work cone log = LoggedAs (split_logged_solved p work cone log)
