-- The owner's demands hold of the rules: each statement of `specs/Demands.antt`, with its proof's place.
use Prim.Native.Nat.{ℕ, ◌+◌, ◌-◌, ◌/◌, ◌≤◌}
use native.Mathlib.Omega.{arith}
use mathlib.Core.Path.{◌≡◌, refl}
use mathlib.Core.Logic.{◌↔◌}
use mathlib.Core.Bool.{true, false}
use mathlib.Core.List.{List}
use lib.IntN.{ℤ}
use lib.Ieee.{Float}
use lib.ListN.{length}
use Rattle.rules.specs.declared.Answer.{Answer}
use Rattle.rules.specs.declared.Ending.{Ending}
use Rattle.rules.specs.declared.Logged.{Logged}
use Rattle.rules.specs.Arithmetic.{◌+ᶠ◌, +0}
use Rattle.rules.specs.Editions.{sum_by_halves, sum_by}
use Rattle.rules.specs.Product.{Failure}
use Rattle.rules.specs.Limits.{limit, most_deep}
use Rattle.rules.specs.Blocks.{Bad, read_word, is_bad_cone}
use Rattle.rules.specs.Groups.{is_group, plain_words, Says, Unreadable, Reading, has_group, without_groups}
use Rattle.rules.specs.Matrices.{triangle}
use Rattle.rules.specs.Problem.{Problem, with_words, work_length}
use Rattle.rules.specs.Step.{State}
use Rattle.rules.specs.declared.Norms.{Norms}
use Rattle.rules.specs.declared.Criteria.{Criteria}
use Rattle.rules.specs.Run.{state_from, piece_from, taken_up, Ended, run, left_by}
use Rattle.rules.specs.Refusals.{Accepted, Refused, Fact, facts, too_large, bad_cone, refusal, read_problem, plain_problem, number_of, left_turned_away, solved, SolveOutcome}
use Rattle.rules.specs.Split.{SplitProblem, slices_fit, joined_problem, plain_split, split_facts, split_refusal, split_solved, SplitOutcome}
use Rattle.rules.specs.Progress.{is_due, untouched, with_log, LoggedLeft, logged_solved, split_logged_solved, LoggedAs, LoggedOutcome, SplitLoggedOutcome, Log, log_from}
use Rattle.rules.specs.Demands.{NoneHolds, NumberedFrom, GivenExactly, TurnedAwayExactly, SplitTurnedAwayExactly, AsJoinedOrInvalid, GoesByTheRules, EndsFirst, GoesOnExactly, ConvergedExactly, RotationsBounded, AnsweredByTheRules, OldContentsChangeNothing, SplitOldContentsChangeNothing, PlacesBeyondKept, SplitPlacesBeyondKept, with_period, with_split_period, SameButForTheLog, DueStep, due_up_to, RecordedByTheRules, OldContentsOfThree, SplitOldContentsOfThree, IsWhole, whole_sum, WholeTerms}
use Rattle.rules.proofs.Refusals as Refusals
use Rattle.rules.proofs.Run as Run
use Rattle.rules.proofs.Converged as Converged
use Rattle.rules.proofs.Rotations as Rotations
use Rattle.rules.proofs.OldContents as OldContents
use Rattle.rules.proofs.Answered as Answered
use Rattle.rules.proofs.SplitRuns as SplitRuns
use Rattle.rules.proofs.Triangle.{triangle_grows}
use Rattle.rules.proofs.Enough as Enough
use Rattle.rules.proofs.Groups as Groups
use Rattle.rules.proofs.Unreadable as Unreadable
use Rattle.rules.proofs.GroupedRuns as GroupedRuns
use Rattle.rules.proofs.Due as Due
use Rattle.rules.proofs.LoggedRuns as LoggedRuns
use Rattle.rules.proofs.RecordedOnce as RecordedOnce
use Rattle.rules.proofs.Progress as Progress
use Rattle.rules.proofs.AnyPeriod as AnyPeriod
use Rattle.rules.proofs.Editions as Editions
use Rattle.rules.proofs.WholeSums as WholeSums

-- ---- demand 1

-- "the first that applies answers, and none is given otherwise": of any table whose refusals are numbered from 1 on
pub given_exactly : {R : Type 0} (number : R → ℕ) (rows : List (Fact R)) → NumberedFrom number 1 rows → GivenExactly number rows
given_exactly = Refusals.given_exactly

-- "A refusal has its number, is given exactly when its fact is the first in document 01 to hold, and changes no buffer."
pub turned_away_exactly : (p : Problem) (work cone : List Float) → TurnedAwayExactly p work cone
turned_away_exactly = Refusals.turned_away_exactly

-- Where none holds, the run of the problem as read is what the solver leaves: the theorems below are about that run.
pub accepted_runs : (p : Problem) (work cone : List Float) → refusal p (length work) (length cone) ≡ Accepted → solved p work cone ≡ left_by (read_problem p) work cone (run (read_problem p))
accepted_runs = OldContents.solved_accepted

-- ---- the solver's outcome

-- "That any pair of outcomes allowed by it coincide is itself proved"
pub any_two_outcomes_coincide : {p : Problem} {work cone : List Float} {a a' : Answer} {w w' k k' : List Float} → SolveOutcome p work cone a w k → SolveOutcome p work cone a' w' k' → (a ≡ a') × (w ≡ w') × (k ≡ k')
any_two_outcomes_coincide s t = Refusals.any_two_outcomes_coincide s t

-- "places beyond it are never changed"
pub places_beyond_kept : (p : Problem) (work cone : List Float) → PlacesBeyondKept p work cone
places_beyond_kept = OldContents.places_beyond_kept

-- ---- demand 3, in one

-- Where no fact of the table holds: k and its law, the ending and its row, q and its bound, and x and y as they are handed back.
pub accepted_runs_as_demanded : (p : Problem) (work cone : List Float) (answer : Answer) (work' cone' : List Float) → SolveOutcome p work cone answer work' cone' → NoneHolds (facts p (length work) (length cone)) → AnsweredByTheRules (read_problem p) answer work' cone'
accepted_runs_as_demanded = Answered.accepted_runs_as_demanded

-- ---- demand 3, of the run, for the problem as the run reads it

-- "k is the first step where a cone fails, an ending test holds or the allowance is met, never above max(max_iter, 1)."
pub ends_first : (p : Problem) → EndsFirst p (run p)
ends_first = Run.ends_first

-- the same of a piece: at most so many steps, from any state, halt or end by the rules
pub goes_by_the_rules : (given : ℕ) (p : Problem) (ns : Norms) (k q : ℕ) (s : State) → GoesByTheRules given p ns k q s (piece_from given p ns k q s)
goes_by_the_rules = Run.goes_by_the_rules

-- and however a piece is cut, its parts come to the whole
pub pieces_join : (a b : ℕ) (p : Problem) (ns : Norms) (k q : ℕ) (s : State) → piece_from (a + b) p ns k q s ≡ taken_up b p ns (piece_from a p ns k q s)
pieces_join = Run.pieces_join

-- no other ending, count or state is allowed by that
pub ends_first_once : {p : Problem} {d e : Ended} → EndsFirst p d → EndsFirst p e → d ≡ e
ends_first_once f g = Run.ends_first_once f g

-- a cone fails, an ending test holds or the allowance is met: otherwise it goes on
pub goes_on_exactly : (p : Problem) (k : ℕ) (failure : Failure) (criteria : Criteria) → GoesOnExactly p k failure criteria
goes_on_exactly = Run.goes_on_exactly

-- "Converged is answered exactly when at step k no cone failed, tau > eps_zero and all three criteria are at most eps_acc."
pub converged_exactly : (p : Problem) → ConvergedExactly p (run p)
converged_exactly = Converged.converged_exactly

-- "at most k × sweep limit × the sum of d(d−1) over semidefinite blocks of order d"
pub rotations_bounded : (p : Problem) → RotationsBounded p (run p)
rotations_bounded = Rotations.run_bounded

-- "What the buffers held before changes none of it"
pub old_contents_change_nothing : (p : Problem) (work cone work' cone' : List Float) → refusal p (length work) (length cone) ≡ Accepted → refusal p (length work') (length cone') ≡ Accepted → OldContentsChangeNothing p work cone work' cone'
old_contents_change_nothing = OldContents.old_contents_change_nothing

-- ---- request (v): a problem whose dense A stands in two slices, the first columns in one and the rest in the other

-- demand 1, by its own table
pub split_turned_away_exactly : (p : SplitProblem) (work cone : List Float) → SplitTurnedAwayExactly p work cone
split_turned_away_exactly = SplitRuns.split_turned_away_exactly

-- "Prove the run equal to the run over the joined matrix": where the slices have their lengths, what `solve_split` may answer and leave is what `solve` may over
-- the joined matrix: answer, k, q and every place of both buffers, refusals too
pub split_outcome_is_the_joined : (p : SplitProblem) (work cone : List Float) (answer : Answer) (work' cone' : List Float) → SplitOutcome p work cone answer work' cone' → slices_fit p ≡ true → SolveOutcome (joined_problem p) work cone answer work' cone'
split_outcome_is_the_joined = SplitRuns.outcome_over_joined

-- the same of the rules
pub split_runs_as_joined : (p : SplitProblem) (work cone : List Float) → slices_fit p ≡ true → split_solved p work cone ≡ solved (joined_problem p) work cone
split_runs_as_joined = SplitRuns.split_runs_as_joined

-- of any problem in two slices: only InvalidOp is new
pub as_joined_or_invalid : (p : SplitProblem) (work cone : List Float) → AsJoinedOrInvalid p work cone
as_joined_or_invalid = SplitRuns.as_joined_or_invalid

-- "all other demands then carrying over, k and q included"
pub split_runs_as_demanded : (p : SplitProblem) (work cone : List Float) (answer : Answer) (work' cone' : List Float) → SplitOutcome p work cone answer work' cone' → NoneHolds (split_facts p (length work) (length cone)) → AnsweredByTheRules (read_problem (joined_problem p)) answer work' cone'
split_runs_as_demanded = SplitRuns.split_runs_as_demanded

pub split_old_contents_change_nothing : (p : SplitProblem) (work cone work' cone' : List Float) → split_refusal p (length work) (length cone) ≡ Accepted → split_refusal p (length work') (length cone') ≡ Accepted → SplitOldContentsChangeNothing p work cone work' cone'
split_old_contents_change_nothing = SplitRuns.split_old_contents_change_nothing

pub split_places_beyond_kept : (p : SplitProblem) (work cone : List Float) → SplitPlacesBeyondKept p work cone
split_places_beyond_kept = SplitRuns.split_places_beyond_kept

pub any_two_split_outcomes_coincide : {p : SplitProblem} {work cone : List Float} {a a' : Answer} {w w' k k' : List Float} → SplitOutcome p work cone a w k → SplitOutcome p work cone a' w' k' → (a ≡ a') × (w ≡ w') × (k ≡ k')
any_two_split_outcomes_coincide s t = SplitRuns.any_two_split_outcomes_coincide s t

-- ---- request (vii): what the limits come to

-- "The largest semidefinite order is then 44"
pub largest_order : (d : ℕ) → (triangle d ≤ limit) ↔ (d ≤ 44)
largest_order d = (Enough.none_larger limit 44 (omega arith) d, λ h. omega (arith, triangle_grows d 44 h))

-- "and work at the limit is 16,390 places"
pub work_at_the_limit : work_length limit limit ≡ 16390
work_at_the_limit = refl

-- who lends as much, and cone work for that order, is never refused by 6, whatever the problem
pub never_short_of_work : (p : Problem) (work cone : List Float) → 16390 ≤ length work → 1980 ≤ length cone → number_of (solved p work cone).answer.ending ≡ 6 → ⊥
never_short_of_work p work cone hw hc = Enough.never_short_at_the_limit 44 (omega arith) p work cone hw hc

pub split_never_short_of_work : (p : SplitProblem) (work cone : List Float) → 16390 ≤ length work → 1980 ≤ length cone → number_of (split_solved p work cone).answer.ending ≡ 6 → ⊥
split_never_short_of_work p work cone hw hc = Enough.split_never_short_at_the_limit 44 (omega arith) p work cone hw hc

-- ---- request (viii): cones in groups

-- What the reader makes of a list is what the request says of it: "A list is read item by item, and an item that is a group is read as a list. At most 8 groups
-- deep"; where no group is left unread, and only there.
pub read_exactly : (words said : List ℕ) → Says most_deep words said ↔ ((plain_words words ≡ said) × (has_group said ≡ false))
read_exactly = Groups.read_exactly

-- every list says something or can't be read, and none does both
pub reading : (words : List ℕ) → Reading most_deep words
reading = Unreadable.reading

pub unreadable_says_nothing : (levels : ℕ) (words : List ℕ) → Unreadable levels words → (said : List ℕ) → Says levels words said → ⊥
unreadable_says_nothing = Unreadable.unreadable_says_nothing

-- what it says are its own words but for the groups, in order: none is lost, and none comes twice
pub says_without_groups : (levels : ℕ) (words said : List ℕ) → Says levels words said → said ≡ without_groups words
says_without_groups = Unreadable.says_without_groups

-- a list without groups is its own plain list
pub plain_is_itself : (words : List ℕ) → has_group words ≡ false → plain_words words ≡ words
plain_is_itself = Groups.plain_is_itself

-- "deeper, or running past the enclosing list, is BadCone"
pub unreadable_is_bad_cone : (p : Problem) → Unreadable most_deep p.words → bad_cone p ≡ true
unreadable_is_bad_cone = GroupedRuns.unreadable_is_bad_cone

-- .. and any other list exactly when its plain words are
pub bad_cone_as_said : (p : Problem) (said : List ℕ) → Says most_deep p.words said → bad_cone p ≡ is_bad_cone said p.m
bad_cone_as_said = GroupedRuns.bad_cone_as_said

-- "Prove that an accepted grouped list runs as its plain blocks in order": answer, k, q, the number of a block that failed and every place of both buffers
pub runs_as_its_plain_blocks : (p : Problem) (work cone : List Float) → refusal p (length work) (length cone) ≡ Accepted → solved p work cone ≡ solved (plain_problem p) work cone
runs_as_its_plain_blocks = GroupedRuns.runs_as_its_plain_blocks

pub split_runs_as_its_plain_blocks : (p : SplitProblem) (work cone : List Float) → split_refusal p (length work) (length cone) ≡ Accepted → split_solved p work cone ≡ split_solved (plain_split p) work cone
split_runs_as_its_plain_blocks = GroupedRuns.split_runs_as_its_plain_blocks

-- refusals too, where the list can be read and the problem is not TooLarge, by which group words count
pub runs_as_said : (p : Problem) (said : List ℕ) → Says most_deep p.words said → too_large p ≡ false → (work cone : List Float) → solved p work cone ≡ solved (with_words said p) work cone
runs_as_said = GroupedRuns.runs_as_said

-- What is below the entries takes plain lists, and in these a group counts as a word of a reserved kind: no block, and the list a BadCone for any number of places.
pub group_is_no_block : (word : ℕ) → is_group word ≡ true → read_word word ≡ Bad
group_is_no_block = Groups.group_is_no_block

pub group_is_bad_cone : (words : List ℕ) (m : ℕ) → has_group words ≡ true → is_bad_cone words m ≡ true
group_is_bad_cone = Groups.group_is_bad_cone

-- ---- request (x): a progress record

-- "At steps 1, 1 + period, 1 + 2·period and so on", and "0 means none"
pub due_exactly : (period k : ℕ) → (is_due period k ≡ true) ↔ DueStep period k
due_exactly = Due.due_exactly

-- how many of the first k steps these are: k over the period, rounded up, and none without a period
pub due_steps : (period k : ℕ) → 1 ≤ period → due_up_to period k ≡ (k + period - 1) / period
due_steps = Due.due_steps

pub no_period_no_steps : (k : ℕ) → due_up_to 0 k ≡ 0
no_period_no_steps = Due.no_period_no_steps

-- "a third buffer of f64 is lent": but for the record and its counts, what may be answered and left is what `solve` may answer and leave, so that demands 1 to 3
-- carry over
pub logged_outcome_is_the_plain : (p : Problem) (work cone log : List Float) (answer : Logged) (work' cone' log' : List Float) → LoggedOutcome p work cone log answer work' cone' log' → SolveOutcome p work cone answer.answer work' cone'
logged_outcome_is_the_plain = LoggedRuns.logged_outcome_is_the_plain

pub split_logged_outcome_is_the_plain : (p : SplitProblem) (work cone log : List Float) (answer : Logged) (work' cone' log' : List Float) → SplitLoggedOutcome p work cone log answer work' cone' log' → SplitOutcome p work cone answer.answer work' cone'
split_logged_outcome_is_the_plain = LoggedRuns.split_logged_outcome_is_the_plain

-- "a refusal writes none and answers 0 for both counts"
pub refused_records_nothing : (p : Problem) (work cone log : List Float) (e : Ending) → refusal p (length work) (length cone) ≡ Refused e → logged_solved p work cone log ≡ with_log (left_turned_away e work cone) (untouched log)
refused_records_nothing = LoggedRuns.refused_records_nothing

pub split_refused_records_nothing : (p : SplitProblem) (work cone log : List Float) (e : Ending) → split_refusal p (length work) (length cone) ≡ Refused e → split_logged_solved p work cone log ≡ with_log (left_turned_away e work cone) (untouched log)
split_refused_records_nothing = LoggedRuns.split_refused_records_nothing

-- where the slices have their lengths, all of it is that of the joined matrix, the record too
pub split_logged_as_joined : (p : SplitProblem) (work cone log : List Float) → slices_fit p ≡ true → split_logged_solved p work cone log ≡ logged_solved (joined_problem p) work cone log
split_logged_as_joined = LoggedRuns.split_logged_as_joined

-- "At steps 1, 1 + period, 1 + 2·period and so on up to k, a row is written: tau, then the three convergence criteria, or the two others and +0. A step with
-- ConeFailure writes no row and drops none. Rows stand one after another from the buffer's first place, four places each. Rows that don't fit whole are dropped; the
-- answer gains rows written and rows dropped. Every place not in a written row keeps its contents": where no fact of the table holds
pub recorded_by_the_rules : (p : Problem) (work cone log : List Float) (answer : Logged) (work' cone' log' : List Float) → LoggedOutcome p work cone log answer work' cone' log' → NoneHolds (facts p (length work) (length cone)) → RecordedByTheRules (read_problem p) log answer log'
recorded_by_the_rules = LoggedRuns.recorded_by_the_rules

pub split_recorded_by_the_rules : (p : SplitProblem) (work cone log : List Float) (answer : Logged) (work' cone' log' : List Float) → SplitLoggedOutcome p work cone log answer work' cone' log' → NoneHolds (split_facts p (length work) (length cone)) → RecordedByTheRules (read_problem (joined_problem p)) log answer log'
split_recorded_by_the_rules = LoggedRuns.split_recorded_by_the_rules

-- the problem as it is read has the period that was handed over
pub period_as_handed : (p : Problem) → (read_problem p).par.log_period ≡ p.par.log_period
period_as_handed = LoggedRuns.period_as_handed

-- no other record is allowed by that
pub recorded_once : {p : Problem} {log : List Float} {a b : Logged} {l m : List Float} → RecordedByTheRules p log a l → RecordedByTheRules p log b m → a.answer ≡ b.answer → (a.written ≡ b.written) × (a.dropped ≡ b.dropped) × (l ≡ m)
recorded_once r t same = RecordedOnce.recorded_once r t same

-- from any state, and however steps are cut: their rows come to the whole's
pub logs_join : (p : Problem) (ns : Norms) (s : State) (k : ℕ) (log : Log) (a b : ℕ) → log_from p ns k s log (a + b) ≡ log_from p ns (k + a) (state_from p ns s a) (log_from p ns k s log a) b
logs_join = Progress.logs_join

-- refused or not, no place comes or goes
pub log_as_long : (p : Problem) (work cone log : List Float) → length (logged_solved p work cone log).log ≡ length log
log_as_long = LoggedRuns.log_as_long

pub split_log_as_long : (p : SplitProblem) (work cone log : List Float) → length (split_logged_solved p work cone log).log ≡ length log
split_log_as_long = LoggedRuns.split_log_as_long

-- "Neither the period nor this buffer's contents or length may alter verdict, k, q, work or cone work"
pub neither_period_nor_log_alters : (p : Problem) (period period' : ℕ) (work cone log log' : List Float) → SameButForTheLog (logged_solved (with_period period p) work cone log) (logged_solved (with_period period' p) work cone log')
neither_period_nor_log_alters = AnyPeriod.neither_period_nor_log_alters

pub split_neither_period_nor_log_alters : (p : SplitProblem) (period period' : ℕ) (work cone log log' : List Float) → SameButForTheLog (split_logged_solved (with_split_period period p) work cone log) (split_logged_solved (with_split_period period' p) work cone log')
split_neither_period_nor_log_alters = AnyPeriod.split_neither_period_nor_log_alters

-- the same of the run without a record
pub any_period : (p : Problem) (period : ℕ) (work cone : List Float) → solved (with_period period p) work cone ≡ solved p work cone
any_period = AnyPeriod.any_period

pub any_split_period : (p : SplitProblem) (period : ℕ) (work cone : List Float) → split_solved (with_split_period period p) work cone ≡ split_solved p work cone
any_split_period = AnyPeriod.any_split_period

-- "the old-contents law now covers three buffers"
pub old_contents_of_three : (p : Problem) (work cone log work' cone' log' : List Float) → refusal p (length work) (length cone) ≡ Accepted → refusal p (length work') (length cone') ≡ Accepted → OldContentsOfThree p work cone log work' cone' log'
old_contents_of_three = LoggedRuns.old_contents_of_three

pub split_old_contents_of_three : (p : SplitProblem) (work cone log work' cone' log' : List Float) → split_refusal p (length work) (length cone) ≡ Accepted → split_refusal p (length work') (length cone') ≡ Accepted → SplitOldContentsOfThree p work cone log work' cone' log'
split_old_contents_of_three = LoggedRuns.split_old_contents_of_three

-- "That any pair of outcomes allowed by it coincide is itself proved": of one A and of one in two slices
pub any_two_logged_outcomes_coincide : {left : LoggedLeft} {a a' : Logged} {w w' c c' l l' : List Float} → LoggedAs left a w c l → LoggedAs left a' w' c' l' → (a ≡ a') × (w ≡ w') × (c ≡ c') × (l ≡ l')
any_two_logged_outcomes_coincide s t = LoggedRuns.any_two_logged_outcomes_coincide s t

-- ---- request (xi): a second edition of sums

-- "a range of one is its term, a longer range of length L is the sum of its first floor(L/2) and the sum of the rest, an empty one is +0"
pub one_by_halves : (f : ℕ → Float) → sum_by_halves 1 f ≡ f 0
one_by_halves = Editions.one_by_halves

pub more_by_halves : (n : ℕ) (f : ℕ → Float) → 2 ≤ n → sum_by_halves n f ≡ sum_by_halves (n / 2) f +ᶠ sum_by_halves (n - n / 2) (λ k. f (n / 2 + k))
more_by_halves = Editions.more_by_halves

pub none_by_halves : (f : ℕ → Float) → sum_by_halves 0 f ≡ +0
none_by_halves = Editions.none_by_halves

-- "Where all terms are whole and their absolute values sum to at most 2^53, prove both sums equal the exact whole number (−0 counting as 0)."
pub whole_sums_exact : (edition n : ℕ) (f : ℕ → Float) (z : ℕ → ℤ) → WholeTerms n f z → IsWhole (sum_by edition n f) (whole_sum n z)
whole_sums_exact = WholeSums.whole_sums_exact
