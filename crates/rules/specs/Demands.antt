-- The owner's demands, in words over the rules. `proofs/Demands.antt` proves them.
use Rattle.std.specs.Prelude.{ℕ, zero, suc, ◌+◌, ◌-◌, ◌*◌, ◌/◌, ◌^◌, ◌≤◌, ◌<◌, max, min, ◌≡◌, ◌↔◌, ◌⊎◌, Bool, true, false, cond, ◌&&◌, ◌||◌, List, [], ◌∷◌, ℤ, pos, neg_ℤ, nat_abs, ◌+ℤ◌, ◌*ℤ◌, Float, length, take, drop}
use Rattle.std.specs.Float.{nan, inf, fin}
use Rattle.std.specs.Float.Ieee.{up, down, lt, le}
use Rattle.rules.specs.declared.Cone.{Cone}
use Rattle.rules.specs.declared.Cone.TheVariants.{Zero, RPos, SOC, RotSOC, PSD}
use Rattle.rules.specs.declared.Answer.{Answer}
use Rattle.rules.specs.declared.Ending.{Ending}
use Rattle.rules.specs.declared.Logged.{Logged}
use Rattle.rules.specs.declared.Ending.TheVariants.{Converged, InvalidOp}
use Rattle.rules.specs.Product.{Failure, none, block, cone_work}
use Rattle.rules.specs.Parameters.{with_log_period}
use Rattle.rules.specs.Problem.{Problem, problem_of, embed, blocks, work_length}
use Rattle.rules.specs.Step.{State, part, x_x, x_y}
use Rattle.rules.specs.declared.Criteria.{Criteria}
use Rattle.rules.specs.declared.Criteria.TheVariants.{Conv, Inf}
use Rattle.rules.specs.Criteria.{tau_of}
use Rattle.rules.specs.declared.Norms.{Norms}
use Rattle.rules.specs.Prepare.{prepared, prepared_norms, zeros}
use Rattle.rules.specs.Run.{Verdict, Ends, GoesOn, WholeStep, whole_step, verdict, allowance, state_from, Piece, Ended, Left, is_cone_failure, laid_out, solution_x, solution_y}
use Rattle.rules.specs.Outcome.{Solution, times_1/tau, unscaled, all_zero, ends, on_paper}
use Rattle.rules.specs.Helpers.{reciprocal}
use Rattle.rules.specs.Vectors.{scaled}
use Rattle.rules.specs.Refusals.{Fact, ◌when◌, First, none_applies, applies, first_of, facts, number_of, read_problem, solved, left_turned_away}
use Rattle.rules.specs.Split.{SplitProblem, split_of, slices_fit, joined_problem, split_facts, split_solved}
use Rattle.rules.specs.Progress.{is_due, row_of, LoggedLeft, logged_solved, split_logged_solved}

-- ---- demand 1

-- whether row i of a table of refusals holds, counted from 1
abbrev pub holds_at : {R : Type 0} → List (Fact R) → ℕ → Bool
holds_at rows zero = false
holds_at [] (suc i) = false
holds_at ((r when holds) ∷ rows) (suc zero) = holds
holds_at (row ∷ rows) (suc (suc i)) = holds_at rows (suc i)

abbrev pub NoneHolds : {R : Type 0} → List (Fact R) → Type 0
NoneHolds rows = (i : ℕ) → holds_at rows i ≡ false

-- fact i holds, and none before it
pub record FirstToHold {R : Type 0} (rows : List (Fact R)) (i : ℕ) : Type 0 where
  pub holds : holds_at rows i ≡ true
  pub none_before : (j : ℕ) → j < i → holds_at rows j ≡ false

-- the refusals of a table have the numbers k, k + 1, ..
abbrev pub NumberedFrom : {R : Type 0} → (R → ℕ) → ℕ → List (Fact R) → Type 0
NumberedFrom number k [] = Unit
NumberedFrom number k ((r when holds) ∷ rows) = (number r ≡ k) × NumberedFrom number (suc k) rows

-- the number that is answered, 0 where none is
abbrev pub number_given : {R : Type 0} → (R → ℕ) → First R → ℕ
number_given number none_applies = 0
number_given number (applies r) = number r

-- of any table: refusal i is given exactly when fact i is the first to hold, and none exactly when none holds
pub record GivenExactly {R : Type 0} (number : R → ℕ) (rows : List (Fact R)) : Type 0 where
  pub refuses : (i : ℕ) → 1 ≤ i → (number_given number (first_of rows) ≡ i) ↔ FirstToHold rows i
  pub accepts : (first_of rows ≡ none_applies) ↔ NoneHolds rows

-- "A refusal has its number, is given exactly when its fact is the first in document 01 to hold, and changes no buffer.": of a table's rows, and what is left
-- of the two buffers
pub record TurnedAwayBy (rows : List (Fact Ending)) (left : Left) (work cone : List Float) : Type 0 where
  pub exactly : (i : ℕ) → 1 ≤ i → (number_of left.answer.ending ≡ i) ↔ FirstToHold rows i
  pub none_otherwise : NoneHolds rows → number_of left.answer.ending ≡ 0
  pub changes_nothing : (i : ℕ) → FirstToHold rows i → left ≡ left_turned_away left.answer.ending work cone

abbrev pub TurnedAwayExactly : Problem → List Float → List Float → Type 0
TurnedAwayExactly p work cone = TurnedAwayBy (facts p (length work) (length cone)) (solved p work cone) work cone

-- the same of a problem whose A stands in two slices, by its own table
abbrev pub SplitTurnedAwayExactly : SplitProblem → List Float → List Float → Type 0
SplitTurnedAwayExactly p work cone =
    TurnedAwayBy (split_facts p (length work) (length cone)) (split_solved p work cone) work cone

-- .. which comes to what the problem over the joined matrix comes to, or, where a slice's length is wrong or n1 is above n, to InvalidOp
abbrev pub AsJoinedOrInvalid : SplitProblem → List Float → List Float → Type 0
AsJoinedOrInvalid p work cone =
    (split_solved p work cone ≡ solved (joined_problem p) work cone)
    ⊎ ((slices_fit p ≡ false) × (split_solved p work cone ≡ left_turned_away InvalidOp work cone))

-- ---- demand 2: `solve` promises `SolveOutcome` (Refusals.antt), that answer and buffers are those of `solved`

-- ---- demand 3, for the problem as the run reads it: "Against 01's step rules written without stopping"

-- From any state: the i-th further step, from 1, what it says when k steps were behind, and the rotations up to it.
unfoldable pub step_from : Problem → Norms → State → ℕ → WholeStep
step_from p ns s i = whole_step p ns (state_from p ns s (i - 1))

abbrev pub verdict_from : Problem → Norms → ℕ → State → ℕ → Verdict
verdict_from p ns k s i = verdict p.par (k + i) (step_from p ns s i).failure (step_from p ns s i).criteria

unfoldable pub rotations_from : Problem → Norms → State → ℕ → ℕ
rotations_from p ns s zero = 0
rotations_from p ns s (suc i) = rotations_from p ns s i + (step_from p ns s (suc i)).rotations

-- A piece makes a number of steps. It stops at the first step that does not go on, or halts after as many as it was given, all of which go on.
pub record GoesByTheRules (given : ℕ) (p : Problem) (ns : Norms) (k q : ℕ) (s : State) (c : Piece) : Type 0 where
  pub made : ℕ
  pub at_most : made ≤ given
  pub steps_are : c.steps ≡ k + made
  pub state_there : c.state ≡ state_from p ns s made
  pub counts : c.rotations ≡ q + rotations_from p ns s made
  pub not_before : (i : ℕ) → 1 ≤ i → i < made → verdict_from p ns k s i ≡ GoesOn
  pub halts : c.said ≡ GoesOn → (made ≡ given) × ((i : ℕ) → 1 ≤ i → i ≤ made → verdict_from p ns k s i ≡ GoesOn)
  pub ends : (e : Ending) → c.said ≡ Ends e → (1 ≤ made) × (verdict_from p ns k s made ≡ Ends e)

-- the whole run's: the state after k steps, the k-th step, from 1, and the rotations up to it
abbrev pub state_after : Problem → ℕ → State
state_after p k = state_from p (prepared_norms p) (prepared p) k

abbrev pub step : Problem → ℕ → WholeStep
step p k = step_from p (prepared_norms p) (prepared p) k

abbrev pub tau_after : Problem → ℕ → Float
tau_after p k = tau_of (embed p) (state_after p k).x

abbrev pub verdict_at : Problem → ℕ → Verdict
verdict_at p k = verdict p.par k (step p k).failure (step p k).criteria

abbrev pub rotations_up_to : Problem → ℕ → ℕ
rotations_up_to p k = rotations_from p (prepared_norms p) (prepared p) k

-- "k is the first step where a cone fails, an ending test holds or the allowance is met, never above max(max_iter, 1)."
pub record EndsFirst (p : Problem) (e : Ended) : Type 0 where
  pub at_least_one : 1 ≤ e.steps
  pub at_most : e.steps ≤ allowance p.par
  pub ends_there : verdict_at p e.steps ≡ Ends e.ending
  pub not_before : (k : ℕ) → 1 ≤ k → k < e.steps → verdict_at p k ≡ GoesOn
  pub state_there : e.state ≡ state_after p e.steps
  -- "q counts the rotations of those k steps"
  pub counts : e.rotations ≡ rotations_up_to p e.steps

-- a cone fails, an ending test holds, or the allowance is met
abbrev pub ending_test : Problem → Criteria → Bool
ending_test p (Conv pri dual gap) = le pri p.par.eps_acc && le dual p.par.eps_acc && le gap p.par.eps_acc
ending_test p (Inf unbdd infeas) = le unbdd p.par.eps_inf || le infeas p.par.eps_inf

pub record GoesOnExactly (p : Problem) (k : ℕ) (failure : Failure) (criteria : Criteria) : Type 0 where
  pub exactly : (verdict p.par k failure criteria ≡ GoesOn) ↔ ((failure ≡ none) × (ending_test p criteria ≡ false) × (k < allowance p.par))

-- "Converged is answered exactly when at step k no cone failed, tau > eps_zero and all three criteria are at most eps_acc."
pub record ConvergedTest (p : Problem) (t : WholeStep) (pri dual gap : Float) : Type 0 where
  pub no_cone_failed : t.failure ≡ none
  pub tau_above : lt p.par.eps_zero (tau_of (embed p) t.state.x) ≡ true
  pub criteria_are : t.criteria ≡ Conv pri dual gap
  pub primal_small : le pri p.par.eps_acc ≡ true
  pub dual_small : le dual p.par.eps_acc ≡ true
  pub gap_small : le gap p.par.eps_acc ≡ true

pub record ConvergedExactly (p : Problem) (e : Ended) : Type 0 where
  pub exactly : (pri dual gap : Float) → (e.ending ≡ Converged pri dual gap) ↔ ConvergedTest p (step p e.steps) pri dual gap

-- d(d−1) over semidefinite blocks of order d
abbrev pub pairs_twice : Cone → ℕ
pairs_twice (Zero size) = 0
pairs_twice (RPos size) = 0
pairs_twice (SOC size) = 0
pairs_twice (RotSOC size) = 0
pairs_twice (PSD order) = order * (order - 1)

unfoldable pub all_pairs_twice : List Cone → ℕ
all_pairs_twice [] = 0
all_pairs_twice (b ∷ bs) = pairs_twice b + all_pairs_twice bs

-- "at most k × sweep limit × the sum of d(d−1) over semidefinite blocks of order d"
abbrev pub RotationsBounded : Problem → Ended → Type 0
RotationsBounded p e = e.rotations ≤ e.steps * (p.par.sweep_limit * all_pairs_twice (blocks p))

-- ---- demand 3 in one: what `solve` answers and leaves where no fact of the table holds

-- step k goes on: no cone fails, no ending test holds and the allowance is not met
pub record GoesOnAt (p : Problem) (k : ℕ) : Type 0 where
  pub no_cone_fails : (step p k).failure ≡ none
  pub no_test_holds : ending_test p (step p k).criteria ≡ false
  pub not_met : k < allowance p.par

-- "a cone fails, an ending test holds or the allowance is met"
pub data StopsAt (p : Problem) (k : ℕ) : Type 0 where
  cone_fails : (b : ℕ) → (step p k).failure ≡ block b → StopsAt p k
  test_holds : ending_test p (step p k).criteria ≡ true → StopsAt p k
  allowance_met : k ≡ allowance p.par → StopsAt p k

-- "Each ending carries the criteria that decided it as numbers": of a step's criteria those that a row of the table carries
abbrev pub CarriedAt : Criteria → ℕ → List Float → Type 0
CarriedAt (Conv pri dual gap) row carried = ((row ≡ 1) ⊎ (row ≡ 2)) × (carried ≡ pri ∷ dual ∷ gap ∷ [])
CarriedAt (Inf unbdd infeas) row carried =
    ((row ≡ 3) × (carried ≡ unbdd ∷ infeas ∷ [])) ⊎ (((row ≡ 4) × (carried ≡ unbdd ∷ [])) ⊎ ((row ≡ 5) × (carried ≡ infeas ∷ [])))

-- "x and y in work: times 1/tau / unscaled / +0"
abbrev pub handed_back : Solution → Float → List Float → List Float
handed_back times_1/tau tau v = scaled (reciprocal tau) v
handed_back unscaled tau v = v
handed_back all_zero tau v = zeros (length v)

-- Of the problem as it is read: the answer, and what stands in both buffers afterwards.
pub record AnsweredByTheRules (p : Problem) (answer : Answer) (work cone : List Float) : Type 0 where
  -- "k is the first step where a cone fails, an ending test holds or the allowance is met, never above max(max_iter, 1)."
  pub at_least_one : 1 ≤ answer.steps
  pub at_most : answer.steps ≤ max p.par.max_iter 1
  pub stops_there : StopsAt p answer.steps
  pub goes_on_before : (k : ℕ) → 1 ≤ k → k < answer.steps → GoesOnAt p k
  -- the ending: what step k says, and its row of the table of endings, with the criteria that it carries and the block that failed
  pub says : verdict_at p answer.steps ≡ Ends answer.ending
  pub row : ℕ
  pub carried : List Float
  pub failed : Failure
  pub solution : Solution
  pub on_paper_lem : on_paper answer.ending ≡ ends row carried failed solution
  pub carried_there : failed ≡ none → CarriedAt (step p answer.steps).criteria row carried
  pub failed_there : failed ≡ (step p answer.steps).failure
  pub converged : (pri dual gap : Float) → (answer.ending ≡ Converged pri dual gap) ↔ ConvergedTest p (step p answer.steps) pri dual gap
  -- "q counts the rotations of those k steps, at most k × sweep limit × the sum of d(d−1) over semidefinite blocks of order d"
  pub counts : answer.rotations ≡ rotations_up_to p answer.steps
  pub bounded : answer.rotations ≤ answer.steps * (p.par.sweep_limit * all_pairs_twice (blocks p))
  -- x and y as they are handed back, of the state after k steps
  pub x_back : solution_x p.n work ≡ handed_back solution (tau_after p answer.steps) (x_x (embed p) (state_after p answer.steps).x)
  pub y_back : solution_y p.m p.n work ≡ handed_back solution (tau_after p answer.steps) (x_y (embed p) (state_after p answer.steps).x)
  -- all of the required parts: as step k left them, but for x and y, or "required part of both buffers +0"
  pub laid : is_cone_failure answer.ending ≡ false → (take (work_length p.m p.n) work ≡ laid_out p answer.ending (state_after p answer.steps)) × (take (cone_work (blocks p)) cone ≡ (state_after p answer.steps).cone)
  pub zeroed : is_cone_failure answer.ending ≡ true → (take (work_length p.m p.n) work ≡ zeros (work_length p.m p.n)) × (take (cone_work (blocks p)) cone ≡ zeros (cone_work (blocks p)))

-- the required parts of both buffers, for the problem as it is read
abbrev pub work_needed : Problem → ℕ
work_needed p = work_length (read_problem p).m (read_problem p).n

abbrev pub cone_needed : Problem → ℕ
cone_needed p = cone_work (blocks (read_problem p))

-- of what two runs leave: the answer, and of either buffer the part that is required
pub record SameWhereRequired (required needed : ℕ) (one other : Left) : Type 0 where
  pub answer : one.answer ≡ other.answer
  pub work_required : take required one.work ≡ take required other.work
  pub cone_required : take needed one.cone ≡ take needed other.cone

-- "What the buffers held before changes none of it": two pairs of buffers, long enough for the problem
abbrev pub OldContentsChangeNothing : Problem → List Float → List Float → List Float → List Float → Type 0
OldContentsChangeNothing p work cone work' cone' =
    SameWhereRequired (work_needed p) (cone_needed p) (solved p work cone) (solved p work' cone')

abbrev pub SplitOldContentsChangeNothing : SplitProblem → List Float → List Float → List Float → List Float → Type 0
SplitOldContentsChangeNothing p work cone work' cone' =
    SameWhereRequired (work_needed (joined_problem p)) (cone_needed (joined_problem p)) (split_solved p work cone) (split_solved p work' cone')

-- of what is left of both buffers: as many places, and those beyond the required ones
pub record KeptBeyond (required needed : ℕ) (work cone : List Float) (left : Left) : Type 0 where
  pub work_length_lem : length left.work ≡ length work
  pub cone_length : length left.cone ≡ length cone
  pub work_beyond : drop required left.work ≡ drop required work
  pub cone_beyond : drop needed left.cone ≡ drop needed cone

-- "places beyond it are never changed": of both buffers, with any contents and on refusal too
abbrev pub PlacesBeyondKept : Problem → List Float → List Float → Type 0
PlacesBeyondKept p work cone = KeptBeyond (work_needed p) (cone_needed p) work cone (solved p work cone)

abbrev pub SplitPlacesBeyondKept : SplitProblem → List Float → List Float → Type 0
SplitPlacesBeyondKept p work cone =
    KeptBeyond (work_needed (joined_problem p)) (cone_needed (joined_problem p)) work cone (split_solved p work cone)

-- ---- request (x): a progress record

-- the same problem with another log_period
abbrev pub with_period : ℕ → Problem → Problem
with_period period p =
    problem_of p.m p.n p.storage p.c p.a p.b p.words (with_log_period p.par period)

abbrev pub with_split_period : ℕ → SplitProblem → SplitProblem
with_split_period period p =
    split_of p.m p.n p.n1 p.c p.factory p.lesson p.b p.words (with_log_period p.par period)

-- "Neither the period nor this buffer's contents or length may alter verdict, k, q, work or cone work": of what two runs leave
pub record SameButForTheLog (one other : LoggedLeft) : Type 0 where
  pub answer : one.answer.answer ≡ other.answer.answer
  pub work : one.work ≡ other.work
  pub cone : one.cone ≡ other.cone

-- "At steps 1, 1 + period, 1 + 2·period and so on", and "0 means none": k is one of these
pub record DueStep (period k : ℕ) : Type 0 where
  pub some : 1 ≤ period
  pub before : ℕ
  pub is : k ≡ 1 + before * period

-- how many of the first k steps are due
unfoldable pub due_up_to : ℕ → ℕ → ℕ
due_up_to period zero = 0
due_up_to period (suc k) = due_up_to period k + cond (is_due period (suc k)) 1 0

-- the steps of a run that were completed: "A step with ConeFailure writes no row and drops none."
abbrev pub completed : Answer → ℕ
completed answer = cond (is_cone_failure answer.ending) (answer.steps - 1) answer.steps

-- the row of step k of the whole run
abbrev pub row_at : Problem → ℕ → List Float
row_at p k = row_of (tau_after p k) (step p k).criteria

-- Of the problem as it is read: the record of a run, in a buffer that held other numbers before.
pub record RecordedByTheRules (p : Problem) (log : List Float) (answer : Logged) (log' : List Float) : Type 0 where
  -- "At steps 1, 1 + period, 1 + 2·period and so on up to k, a row is written .. Rows stand one after another from the buffer's first place, four places each."
  pub rows : (j : ℕ) → j < answer.written → part (4 * j) 4 log' ≡ row_at p (1 + j * p.par.log_period)
  pub up_to_k : (j : ℕ) → j < answer.written → 1 + j * p.par.log_period ≤ completed answer.answer
  -- "Rows that don't fit whole are dropped; the answer gains rows written and rows dropped.": written plus dropped is the number of due steps
  pub as_many_as_fit : answer.written ≡ min (length log / 4) (due_up_to p.par.log_period (completed answer.answer))
  pub all_counted : answer.written + answer.dropped ≡ due_up_to p.par.log_period (completed answer.answer)
  -- "Every place not in a written row keeps its contents"
  pub as_long : length log' ≡ length log
  pub others_kept : drop (4 * answer.written) log' ≡ drop (4 * answer.written) log

-- "the old-contents law now covers three buffers": of what two runs leave whose buffers held other numbers, or were longer
pub record SameOverThree (required needed : ℕ) (log log' : List Float) (one other : LoggedLeft) : Type 0 where
  pub answer : one.answer.answer ≡ other.answer.answer
  pub work_required : take required one.work ≡ take required other.work
  pub cone_required : take needed one.cone ≡ take needed other.cone
  pub rows_due : one.answer.written + one.answer.dropped ≡ other.answer.written + other.answer.dropped
  pub rows_of_both : (j : ℕ) → j < one.answer.written → j < other.answer.written → part (4 * j) 4 one.log ≡ part (4 * j) 4 other.log
  pub as_long_as_many : length log ≡ length log' → one.answer ≡ other.answer

abbrev pub OldContentsOfThree : Problem → List Float → List Float → List Float → List Float → List Float → List Float → Type 0
OldContentsOfThree p work cone log work' cone' log' =
    SameOverThree (work_needed p) (cone_needed p) log log' (logged_solved p work cone log) (logged_solved p work' cone' log')

abbrev pub SplitOldContentsOfThree : SplitProblem → List Float → List Float → List Float → List Float → List Float → List Float → Type 0
SplitOldContentsOfThree p work cone log work' cone' log' =
    SameOverThree (work_needed (joined_problem p)) (cone_needed (joined_problem p)) log log' (split_logged_solved p work cone log) (split_logged_solved p work' cone' log')

-- ---- request (xi): a second edition of sums

-- The value of v is exactly the whole number z, "−0 counting as 0": v is m * 2 ^ e with its sign, and 2 ^ e is `up e / down e`.
abbrev pub IsWhole : Float → ℤ → Type 0
IsWhole nan z = ⊥
IsWhole (inf sign) z = ⊥
IsWhole (fin sign m e) z = cond sign (neg_ℤ (pos (m * up e))) (pos (m * up e)) ≡ z *ℤ pos (down e)

-- the exact sum of z 0, z 1, .. z (n - 1), and that of their absolute values
unfoldable pub whole_sum : ℕ → (ℕ → ℤ) → ℤ
whole_sum zero z = pos 0
whole_sum (suc n) z = whole_sum n z +ℤ z n

unfoldable pub absolute_sum : ℕ → (ℕ → ℤ) → ℕ
absolute_sum zero z = 0
absolute_sum (suc n) z = absolute_sum n z + nat_abs (z n)

-- "all terms are whole and their absolute values sum to at most 2^53": the n terms f 0, f 1, .. are z 0, z 1, ..
pub record WholeTerms (n : ℕ) (f : ℕ → Float) (z : ℕ → ℤ) : Type 0 where
  pub whole : (k : ℕ) → k < n → IsWhole (f k) (z k)
  pub small : absolute_sum n z ≤ 2 ^ 53
