-- How a card's answer is shown: its head and lists make its problem, and what was read is the card.
use Prim.Native.Nat.{ℕ, ◌+◌, ◌≤◌}
use mathlib.Core.Path.{◌≡◌, refl, sym, ap, ◌∙◌}
use mathlib.Core.List.{List}
use lib.Ieee.{Float}
use lib.ListN.{take, replicate}
use Rattle.std.specs.Prelude.{Result, Ok, Err}
use Rattle.rules.specs.declared.Answer.{Answer}
use Rattle.rules.specs.declared.Logged.{Logged}
use Rattle.rules.specs.declared.SolverParam.{SolverParam}
use Rattle.rules.specs.Arithmetic.{+0}
use Rattle.rules.specs.Parameters.{with_log_period}
use Rattle.rules.specs.Problem.{Problem, problem_of}
use Rattle.rules.specs.Progress.{LoggedOutcome}
use Rattle.rules.specs.Demands.{with_period}
use Rattle.rules.proofs.Demands.{any_period}
use Rattle.rules.proofs.LoggedRuns.{logged_is}
use Rattle.card.specs.Card.{Reading, fault, read, read_card}
use Rattle.card.specs.Outcome.{answer_of, words_after, numbers_after, stored_of}
use Rattle.card.specs.declared.CardHead.{CardHead}
use Rattle.card.specs.declared.Fault.{Fault}
use Rattle.card.proofs.Counts.{stored_is}
use Rattle.card_problem.specs.Problem.{numbers_at, parameters_of, problem_from, problem_of_card}
use Rattle.card_problem.specs.declared.Told.{Told}
use Rattle.card_problem.proofs.Fields.{same_problem, zero_list, ReadsAs, reads_as}
use Rattle.card_answer.specs.Answer.{cone_places, left_of, told_of, work_after, CardOutcome, logged_left_of, logged_told_of, logged_work_after, CardLogOutcome, RunOutcome}

-- ---- the problem of a card's head and lists

pub logged_problem : (head : CardHead) (stored : ℕ) (words numbers : List ℕ) (period : ℕ) (c a b : List Float) (par logged : SolverParam)
    → head.rows.0 ≤ 32
    → head.cols.0 ≤ 32
    → stored ≤ 1024
    → stored ≡ stored_of head.storage head.rows head.cols
    → c ≡ numbers_at numbers 3 32
    → a ≡ numbers_at numbers (3 + head.cols.0) 1024
    → b ≡ numbers_at numbers (3 + head.cols.0 + stored) 32
    → par ≡ parameters_of head.max_iter head.sweep_limit numbers
    → logged ≡ with_log_period par period
    → problem_of head.rows.0 head.cols.0 head.storage (take head.cols.0 c) (take stored a) (take head.rows.0 b) words logged ≡ with_period period (problem_from head words numbers)
logged_problem head stored words numbers period c a b par logged hm hn hs es ec ea eb ep el =
    rw el (ap (with_period period) (same_problem head stored words numbers c a b par hn hs hm (es ∙ stored_is head.storage head.rows head.cols hn hm) ec ea eb ep))

pub run_outcome : (p q : Problem) (period : ℕ) (work log : List Float) {logged : Logged} {work' cone' log' : List Float}
    → q ≡ with_period period p → LoggedOutcome q work (replicate 56 +0) log logged work' cone' log' → RunOutcome p period work log logged work' log'
run_outcome p q period work log e o = record { answered = rw e at o.answered; work_left = rw e at o.work_left; log_left = rw e at o.log_left }

-- ---- what was read

module _ (bytes : List ℕ) (period : ℕ) (work log : List Float) where
  of_card : (head : CardHead) (p : Problem) (logged : Logged) (work' log' : List Float)
      → ReadsAs (read_card bytes) head p → RunOutcome p period work log logged work' log'
      → CardLogOutcome bytes period work log (Ok (record { rows = head.rows; cols = head.cols; answer = logged })) work' log'
  of_card head p logged work' log' reads o =
      record {
        answered = rw (o.answered, reads.head_is, reads.problem_is, reads.is);
        work_left = o.work_left ∙ rw (reads.problem_is, reads.is);
        log_left = o.log_left ∙ rw (reads.problem_is, reads.is);
      }

  pub card_outcome : (head : CardHead) (zero_words : List ℕ) (places : ℕ) (left_words left_numbers : List ℕ) (logged : Logged) (work' log' : List Float)
      → answer_of (read_card bytes) ≡ Ok head
      → left_words ≡ words_after (read_card bytes) zero_words
      → left_numbers ≡ numbers_after (read_card bytes) (zero_list places)
      → RunOutcome (problem_from head (take head.words left_words) left_numbers) period work log logged work' log'
      → CardLogOutcome bytes period work log (Ok (record { rows = head.rows; cols = head.cols; answer = logged })) work' log'
  card_outcome head zero_words places left_words left_numbers logged work' log' e ew en o =
      of_card head _ logged work' log' (reads_as (read_card bytes) head zero_words places e) (rw (ew, en) at o)

-- ---- the card's answer without a record is that with one, of any period, but for the record and its counts

abbrev pub plain_told : Result (Told Logged) Fault → Result (Told Answer) Fault
plain_told (Err f) = Err f
plain_told (Ok told) = Ok (record { rows = told.rows; cols = told.cols; answer = told.answer.answer })

module _ (period : ℕ) (work log : List Float) where
  same_answer : (p : Problem) → (logged_left_of period p work log).answer.answer ≡ (left_of p work).answer
  same_answer p =
      ap (λ l. l.answer.answer) (logged_is (with_period period p) work (replicate cone_places +0) log)
      ∙ ap (λ l. l.answer) (any_period p period work (replicate cone_places +0))

  same_work : (p : Problem) → (logged_left_of period p work log).work ≡ (left_of p work).work
  same_work p =
      ap (λ l. l.work) (logged_is (with_period period p) work (replicate cone_places +0) log)
      ∙ ap (λ l. l.work) (any_period p period work (replicate cone_places +0))

  pub plain_told_lem : (r : Reading) → plain_told (logged_told_of r period work log) ≡ told_of r work
  plain_told_lem (fault f) = refl
  plain_told_lem (read k) = rw (same_answer (problem_of_card k))

  plain_work : (r : Reading) → logged_work_after r period work log ≡ work_after r work
  plain_work (fault f) = refl
  plain_work (read k) = same_work (problem_of_card k)

pub a_record_changes_no_answer : (bytes : List ℕ) (period : ℕ) (work log : List Float) (told : Result (Told Logged) Fault) (work' log' : List Float) → CardLogOutcome bytes period work log told work' log' → CardOutcome bytes work (plain_told told) work'
a_record_changes_no_answer bytes period work log told work' log' o =
    record {
      answered = ap plain_told o.answered ∙ plain_told_lem period work log (read_card bytes);
      work_left = o.work_left ∙ plain_work period work log (read_card bytes);
    }

-- ---- any two answers that a contract allows coincide, in what is told and in each place of work, and of the record

pub any_two_answers_coincide : {bytes : List ℕ} {work : List Float} {a b : Result (Told Answer) Fault} {v w : List Float} → CardOutcome bytes work a v → CardOutcome bytes work b w → (a ≡ b) × (v ≡ w)
any_two_answers_coincide p q = (p.answered ∙ sym q.answered, p.work_left ∙ sym q.work_left)

pub any_two_logged_answers_coincide : {bytes : List ℕ} {period : ℕ} {work log : List Float} {a b : Result (Told Logged) Fault} {v w l m : List Float} → CardLogOutcome bytes period work log a v l → CardLogOutcome bytes period work log b w m → (a ≡ b) × (v ≡ w) × (l ≡ m)
any_two_logged_answers_coincide p q = (p.answered ∙ sym q.answered, p.work_left ∙ sym q.work_left, p.log_left ∙ sym q.log_left)
