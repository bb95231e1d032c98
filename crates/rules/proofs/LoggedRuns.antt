-- A run with a progress record answers and leaves what the run without one does, and its record beside that; a refusal writes none.
use Prim.Native.Nat.{ℕ, ◌+◌}
use native.Mathlib.Omega.{arith}
use mathlib.Core.Path.{◌≡◌, refl, sym, ◌∙◌, ap}
use mathlib.Core.Bool.{true}
use mathlib.Core.List.{List}
use lib.Ieee.{Float}
use lib.ListN.{length, take}
use Rattle.rules.specs.declared.Ending.{Ending}
use Rattle.rules.specs.declared.Logged.{Logged}
use Rattle.rules.specs.Problem.{Problem}
use Rattle.rules.specs.Run.{run, left_by}
use Rattle.rules.specs.Refusals.{Refusal, Accepted, Refused, facts, refusal, read_problem, left_turned_away, solved, SolveOutcome}
use Rattle.rules.specs.Split.{SplitProblem, slices_fit, joined_problem, split_facts, split_refusal, split_solved, SplitOutcome}
use Rattle.rules.specs.Progress.{untouched, log_after, LoggedLeft, log_of, with_log, logged_solved, split_logged_solved, LoggedAs, LoggedOutcome, SplitLoggedOutcome}
use Rattle.rules.specs.Demands.{NoneHolds, RecordedByTheRules, SameOverThree, OldContentsOfThree, SplitOldContentsOfThree}
use Rattle.rules.proofs.OldContents.{solved_accepted, solved-refused, old_contents_change_nothing}
use Rattle.rules.proofs.Refusals.{accepted_if_none_holds}
use Rattle.rules.proofs.Answered.{left_answer_is}
use Rattle.rules.proofs.Recorded.{recorded}
use Rattle.rules.proofs.SplitRuns.{same_facts, same_refusal, split_runs_as_joined, slices_fit_if_none_holds, slices_fit_if_accepted}

-- The record's period is the one that was handed over.
pub period_as_handed : (p : Problem) → (read_problem p).par.log_period ≡ p.par.log_period
unfolding read_problem
period_as_handed p = refl

module _ (p : Problem) (work cone log : List Float) where
  pub logged_is : logged_solved p work cone log ≡ with_log (solved p work cone) (log_of (refusal p (length work) (length cone)) (read_problem p) log)
  unfolding logged_solved
  logged_is = refl

  pub logged_accepted : refusal p (length work) (length cone) ≡ Accepted → logged_solved p work cone log ≡ with_log (left_by (read_problem p) work cone (run (read_problem p))) (log_after (read_problem p) log (run (read_problem p)).steps)
  logged_accepted e = logged_is ∙ rw (solved_accepted p work cone e, e)

  -- A refusal writes no row, and answers 0 for both counts.
  pub refused_records_nothing : (e : Ending) → refusal p (length work) (length cone) ≡ Refused e → logged_solved p work cone log ≡ with_log (left_turned_away e work cone) (untouched log)
  refused_records_nothing e is = logged_is ∙ rw (solved-refused p work cone e is, is)

  -- What it answers but for the counts, and both buffers, are those of the run without a record.
  pub logged_outcome_is_the_plain : (answer : Logged) (work' cone' log' : List Float) → LoggedOutcome p work cone log answer work' cone' log' → SolveOutcome p work cone answer.answer work' cone'
  logged_outcome_is_the_plain answer work' cone' log' o =
      record {
        answered = ap (λ a. a.answer) (o.answered ∙ ap (λ l. l.answer) logged_is);
        work_left = o.work_left ∙ ap (λ l. l.work) logged_is;
        cone_left = o.cone_left ∙ ap (λ l. l.cone) logged_is;
      }

  recorded_there : refusal p (length work) (length cone) ≡ Accepted → RecordedByTheRules (read_problem p) log (logged_solved p work cone log).answer (logged_solved p work cone log).log
  recorded_there e =
      rw (logged_accepted e, left_answer_is (read_problem p) work cone (run (read_problem p))) (recorded (read_problem p) log)

  -- Where no fact of the table holds, the record is as demanded.
  pub recorded_by_the_rules : (answer : Logged) (work' cone' log' : List Float) → LoggedOutcome p work cone log answer work' cone' log' → NoneHolds (facts p (length work) (length cone)) → RecordedByTheRules (read_problem p) log answer log'
  recorded_by_the_rules answer work' cone' log' o none_holds =
      rw (o.answered, o.log_left) (recorded_there (accepted_if_none_holds p (length work) (length cone) none_holds))

  -- The record is as long as the buffer was, refused or not.
  pub log_as_long : length (logged_solved p work cone log).log ≡ length log
  log_as_long = go (refusal p (length work) (length cone)) refl
    where
      go : (r : Refusal) → refusal p (length work) (length cone) ≡ r → length (logged_solved p work cone log).log ≡ length log
      go Accepted e = (recorded_there e).as_long
      go (Refused x) e = rw (refused_records_nothing x e)

-- ---- what the three buffers held before

same_logged : (a b : Logged) → a.answer ≡ b.answer → a.written ≡ b.written → a.dropped ≡ b.dropped → a ≡ b
same_logged a b e f g = λ i. record { answer = e i; written = f i; dropped = g i }

-- of two runs of one problem, by what is demanded of each
module _ {q : Problem} {log log' : List Float} {one other : LoggedLeft} (r : RecordedByTheRules q log one.answer one.log) (r' : RecordedByTheRules q log' other.answer other.log) where
  same_over_three : {required needed : ℕ} → one.answer.answer ≡ other.answer.answer → take required one.work ≡ take required other.work → take needed one.cone ≡ take needed other.cone → SameOverThree required needed log log' one other
  same_over_three answer work cone =
      record {
        answer = answer;
        work_required = work;
        cone_required = cone;
        rows_due = due;
        rows_of_both = λ j l l'. r.rows j l ∙ sym (r'.rows j l');
        as_long_as_many = λ long. same_logged one.answer other.answer answer (fitting long) (omega (arith, due, fitting long));
      }
    where
      due : one.answer.written + one.answer.dropped ≡ other.answer.written + other.answer.dropped
      due = rw (r.all_counted, answer, r'.all_counted)

      fitting : length log ≡ length log' → one.answer.written ≡ other.answer.written
      fitting long = rw (r.as_many_as_fit, answer, long, r'.as_many_as_fit)

-- They change neither the answer, nor the required parts, nor the rows that both have.
pub old_contents_of_three : (p : Problem) (work cone log work' cone' log' : List Float) → refusal p (length work) (length cone) ≡ Accepted → refusal p (length work') (length cone') ≡ Accepted → OldContentsOfThree p work cone log work' cone' log'
old_contents_of_three p work cone log work' cone' log' e e' =
    let plain = old_contents_change_nothing p work cone work' cone' e e' in
    let one = logged_is p work cone log in
    let other = logged_is p work' cone' log' in
    same_over_three (recorded_there p work cone log e) (recorded_there p work' cone' log' e') (rw (one, other) plain.answer) (rw (one, other) plain.work_required) (rw (one, other) plain.cone_required)

-- ---- a problem whose A stands in two slices

module _ (p : SplitProblem) (work cone log : List Float) where
  pub split_logged_is : split_logged_solved p work cone log ≡ with_log (split_solved p work cone) (log_of (split_refusal p (length work) (length cone)) (read_problem (joined_problem p)) log)
  unfolding split_logged_solved
  split_logged_is = refl

  -- the record too is that of the run over the joined matrix
  pub split_logged_as_joined : slices_fit p ≡ true → split_logged_solved p work cone log ≡ logged_solved (joined_problem p) work cone log
  split_logged_as_joined h =
      split_logged_is
      ∙ rw (split_runs_as_joined p work cone h, same_refusal p (length work) (length cone) h) (sym (logged_is (joined_problem p) work cone log))

  split_solved-refused : (e : Ending) → split_refusal p (length work) (length cone) ≡ Refused e → split_solved p work cone ≡ left_turned_away e work cone
  unfolding split_solved
  split_solved-refused e is = rw is

  pub split_refused_records_nothing : (e : Ending) → split_refusal p (length work) (length cone) ≡ Refused e → split_logged_solved p work cone log ≡ with_log (left_turned_away e work cone) (untouched log)
  split_refused_records_nothing e is = split_logged_is ∙ rw (split_solved-refused e is, is)

  pub split_logged_outcome_is_the_plain : (answer : Logged) (work' cone' log' : List Float) → SplitLoggedOutcome p work cone log answer work' cone' log' → SplitOutcome p work cone answer.answer work' cone'
  split_logged_outcome_is_the_plain answer work' cone' log' o =
      record {
        answered = ap (λ a. a.answer) (o.answered ∙ ap (λ l. l.answer) split_logged_is);
        work_left = o.work_left ∙ ap (λ l. l.work) split_logged_is;
        cone_left = o.cone_left ∙ ap (λ l. l.cone) split_logged_is;
      }

  -- The outcome of such a problem is an outcome of the problem over the joined matrix.
  logged_over_joined : (answer : Logged) (work' cone' log' : List Float) → SplitLoggedOutcome p work cone log answer work' cone' log' → slices_fit p ≡ true → LoggedOutcome (joined_problem p) work cone log answer work' cone' log'
  logged_over_joined answer work' cone' log' o h = rw (split_logged_as_joined h) at o

  pub split_recorded_by_the_rules : (answer : Logged) (work' cone' log' : List Float) → SplitLoggedOutcome p work cone log answer work' cone' log' → NoneHolds (split_facts p (length work) (length cone)) → RecordedByTheRules (read_problem (joined_problem p)) log answer log'
  split_recorded_by_the_rules answer work' cone' log' o none =
      let h = slices_fit_if_none_holds p (length work) (length cone) none in
      recorded_by_the_rules (joined_problem p) work cone log answer work' cone' log' (logged_over_joined answer work' cone' log' o h) (rw (same_facts p (length work) (length cone) h) at none)

  pub split_log_as_long : length (split_logged_solved p work cone log).log ≡ length log
  split_log_as_long = go (split_refusal p (length work) (length cone)) refl
    where
      go : (r : Refusal) → split_refusal p (length work) (length cone) ≡ r → length (split_logged_solved p work cone log).log ≡ length log
      go Accepted e = rw (split_logged_as_joined (slices_fit_if_accepted p work cone e)) (log_as_long (joined_problem p) work cone log)
      go (Refused x) e = rw (split_refused_records_nothing x e)

pub split_old_contents_of_three : (p : SplitProblem) (work cone log work' cone' log' : List Float) → split_refusal p (length work) (length cone) ≡ Accepted → split_refusal p (length work') (length cone') ≡ Accepted → SplitOldContentsOfThree p work cone log work' cone' log'
split_old_contents_of_three p work cone log work' cone' log' e e' =
    let h = slices_fit_if_accepted p work cone e in
    let joined = old_contents_of_three (joined_problem p) work cone log work' cone' log' (sym (same_refusal p (length work) (length cone) h) ∙ e) (sym (same_refusal p (length work') (length cone') h) ∙ e') in
    rw (split_logged_as_joined p work cone log h, split_logged_as_joined p work' cone' log' h) joined

-- ---- the contract

-- Any two outcomes that it allows coincide: the answer with both counts, and each place of all three buffers.
pub any_two_logged_outcomes_coincide : {left : LoggedLeft} {a a' : Logged} {w w' c c' l l' : List Float} → LoggedAs left a w c l → LoggedAs left a' w' c' l' → (a ≡ a') × (w ≡ w') × (c ≡ c') × (l ≡ l')
any_two_logged_outcomes_coincide s t = (s.answered ∙ sym t.answered, s.work_left ∙ sym t.work_left, s.cone_left ∙ sym t.cone_left, s.log_left ∙ sym t.log_left)
