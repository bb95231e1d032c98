-- A problem whose A stands in two slices runs as the problem over the joined matrix, and is turned away by its own table.
use Prim.Native.Nat.{ℕ, ◌*◌}
use mathlib.Core.Path.{◌≡◌, refl, sym, ◌∙◌}
use mathlib.Core.Logic.{inl, inr}
use mathlib.Core.Bool.{Bool, true, false, not, ◌||◌}
use mathlib.Core.List.{List, ◌++◌}
use borrow.Author.Tests.{leb-true, eqb-true, eq-eqb, not-false}
use lib.Dec.{eqb}
use lib.Ieee.{Float}
use lib.ListN.{length}
use Rattle.rules.specs.declared.Answer.{Answer}
use Rattle.rules.specs.declared.Ending.TheVariants.{InvalidOp}
use Rattle.rules.specs.Problem.{Problem}
use Rattle.rules.specs.Run.{run, left_by}
use Rattle.rules.specs.Refusals.{Accepted, Refused, first_of, as_refusal, bad_param, too_large, invalid_op, refusal, facts, read_problem, number_of, left_turned_away, left_after, solved, SolveOutcome}
use Rattle.rules.specs.Split.{SplitProblem, slices_fit, joined_problem, invalid_split, split_facts, split_refusal, split_solved, SplitOutcome}
use Rattle.rules.specs.Demands.{NoneHolds, NumberedFrom, SplitTurnedAwayExactly, AsJoinedOrInvalid, AnsweredByTheRules, SplitOldContentsChangeNothing, SplitPlacesBeyondKept}
use Rattle.rules.proofs.Matrices.{both_true, neither}
use Rattle.rules.proofs.Slices.{lengths_join}
use Rattle.rules.proofs.Refusals.{given_exactly, accepted_is, turned_away_by, ran_unnumbered}
use Rattle.rules.proofs.Answered as Answered
use Rattle.rules.proofs.OldContents as OldContents

joined_long : (p : SplitProblem) → slices_fit p ≡ true → length (p.factory ++ p.lesson) ≡ p.m * p.n
joined_long p h =
    let q = both_true _ _ h in
    let r = both_true _ _ q.0 in
    lengths_join p.m p.n p.n1 p.factory p.lesson (leb-true _ _ r.0) (eqb-true _ _ r.1) (eqb-true _ _ q.1)

-- then fact 3 is that of the joined matrix
same_fact : (p : SplitProblem) → slices_fit p ≡ true → invalid_split p ≡ invalid_op (joined_problem p)
unfolding invalid_split invalid_op
same_fact p h = rw (h, eq-eqb _ _ (joined_long p h)) (or_none (not (eqb (length p.c) p.n)))
  where
    or_none : (t : Bool) → (t || false || not (eqb (length p.b) p.m)) ≡ (t || false || false || not (eqb (length p.b) p.m))
    or_none true = refl
    or_none false = refl

pub same_facts : (p : SplitProblem) (work cone : ℕ) → slices_fit p ≡ true → split_facts p work cone ≡ facts (joined_problem p) work cone
same_facts p work cone h = rw (same_fact p h)

split_refusal_is : (p : SplitProblem) (work cone : ℕ) → split_refusal p work cone ≡ as_refusal (first_of (split_facts p work cone))
unfolding split_refusal
split_refusal_is p work cone = refl

refusal_is : (p : Problem) (work cone : ℕ) → refusal p work cone ≡ as_refusal (first_of (facts p work cone))
unfolding refusal
refusal_is p work cone = refl

pub same_refusal : (p : SplitProblem) (work cone : ℕ) → slices_fit p ≡ true → split_refusal p work cone ≡ refusal (joined_problem p) work cone
same_refusal p work cone h = split_refusal_is p work cone ∙ rw (same_facts p work cone h) (sym (refusal_is (joined_problem p) work cone))

-- "Prove the run equal to the run over the joined matrix": answer, k, q and every place of both buffers, refusals too, where the slices have their lengths
pub split_runs_as_joined : (p : SplitProblem) (work cone : List Float) → slices_fit p ≡ true → split_solved p work cone ≡ solved (joined_problem p) work cone
unfolding split_solved solved
split_runs_as_joined p work cone h = rw (same_refusal p (length work) (length cone) h)

-- "InvalidOp covers each slice's length and n1 above n": where they have not, parameters and sizes being as they should
wrong_is_invalid : (p : SplitProblem) → slices_fit p ≡ false → invalid_split p ≡ true
unfolding invalid_split
wrong_is_invalid p h = rw h (or_wrong (not (eqb (length p.c) p.n)))
  where
    or_wrong : (t : Bool) → (t || true || not (eqb (length p.b) p.m)) ≡ true
    or_wrong true = refl
    or_wrong false = refl

third_answers : (p : SplitProblem) (work cone : ℕ) → bad_param p.par ≡ false → too_large (joined_problem p) ≡ false → invalid_split p ≡ true → as_refusal (first_of (split_facts p work cone)) ≡ Refused InvalidOp
unfolding first_of
third_answers p work cone first second third = rw (first, second, third)

pub wrong_slices_are_invalid : (p : SplitProblem) (work cone : List Float) → slices_fit p ≡ false → bad_param p.par ≡ false → too_large (joined_problem p) ≡ false → split_solved p work cone ≡ left_turned_away InvalidOp work cone
unfolding split_solved
wrong_slices_are_invalid p work cone h first second =
    rw (split_refusal_is p (length work) (length cone), third_answers p (length work) (length cone) first second (wrong_is_invalid p h))

-- a refusal by the facts before it is that of the joined matrix too: only InvalidOp is new
first_answers : (p : SplitProblem) (work cone : ℕ) → bad_param p.par ≡ true → first_of (split_facts p work cone) ≡ first_of (facts (joined_problem p) work cone)
unfolding first_of
first_answers p work cone first = rw first

second_answers : (p : SplitProblem) (work cone : ℕ) → bad_param p.par ≡ false → too_large (joined_problem p) ≡ true → first_of (split_facts p work cone) ≡ first_of (facts (joined_problem p) work cone)
unfolding first_of
second_answers p work cone first second = rw (first, second)

same_if_first : (p : SplitProblem) (work cone : List Float) → first_of (split_facts p (length work) (length cone)) ≡ first_of (facts (joined_problem p) (length work) (length cone)) → split_solved p work cone ≡ solved (joined_problem p) work cone
unfolding split_solved solved
same_if_first p work cone e =
    rw (split_refusal_is p (length work) (length cone), e, refusal_is (joined_problem p) (length work) (length cone))

pub as_joined_or_invalid : (p : SplitProblem) (work cone : List Float) → AsJoinedOrInvalid p work cone
as_joined_or_invalid p work cone = by_slices (slices_fit p) refl
  where
    by_sizes : slices_fit p ≡ false → bad_param p.par ≡ false → (t : Bool) → too_large (joined_problem p) ≡ t → AsJoinedOrInvalid p work cone
    by_sizes h first true e = inl (same_if_first p work cone (second_answers p (length work) (length cone) first e))
    by_sizes h first false e = inr (h, wrong_slices_are_invalid p work cone h first e)

    by_parameters : slices_fit p ≡ false → (t : Bool) → bad_param p.par ≡ t → AsJoinedOrInvalid p work cone
    by_parameters h true e = inl (same_if_first p work cone (first_answers p (length work) (length cone) e))
    by_parameters h false e = by_sizes h e (too_large (joined_problem p)) refl

    by_slices : (t : Bool) → slices_fit p ≡ t → AsJoinedOrInvalid p work cone
    by_slices true e = inl (split_runs_as_joined p work cone e)
    by_slices false e = by_parameters e (bad_param p.par) refl

-- demand 1, by the table of such a problem
module _ (p : SplitProblem) (work cone : List Float) where
  split_numbered : NumberedFrom number_of 1 (split_facts p (length work) (length cone))
  split_numbered = (refl, (refl, (refl, (refl, (refl, (refl, tt))))))

  pub split_solved_is : split_solved p work cone ≡ left_after (as_refusal (first_of (split_facts p (length work) (length cone)))) (left_by (read_problem (joined_problem p)) work cone (run (read_problem (joined_problem p)))) work cone
  unfolding split_solved
  split_solved_is = rw (split_refusal_is p (length work) (length cone))

  pub split_turned_away_exactly : SplitTurnedAwayExactly p work cone
  split_turned_away_exactly =
      turned_away_by (split_facts p (length work) (length cone)) (left_by (read_problem (joined_problem p)) work cone (run (read_problem (joined_problem p)))) work cone split_numbered (ran_unnumbered (joined_problem p) work cone) (split_solved p work cone) split_solved_is

-- where none of its facts holds the slices have their lengths
pub slices_fit_if_none_holds : (p : SplitProblem) (work cone : ℕ) → NoneHolds (split_facts p work cone) → slices_fit p ≡ true
unfolding invalid_split
slices_fit_if_none_holds p work cone none =
    let c = not (eqb (length p.c) p.n) in
    let f = neither (c || not (slices_fit p)) (not (eqb (length p.b) p.m)) (none 3) in
    let g = neither c (not (slices_fit p)) f.0 in
    not-false (slices_fit p) g.1

pub slices_fit_if_accepted : (p : SplitProblem) (work cone : List Float) → split_refusal p (length work) (length cone) ≡ Accepted → slices_fit p ≡ true
slices_fit_if_accepted p work cone e =
    let rows = split_facts p (length work) (length cone) in
    let none = accepted_is (first_of rows) (sym (split_refusal_is p (length work) (length cone)) ∙ e) in
    slices_fit_if_none_holds p (length work) (length cone) ((given_exactly number_of rows (split_numbered p work cone)).accepts.0 none)

-- The outcome of such a problem is an outcome of the problem over the joined matrix.
pub outcome_over_joined : (p : SplitProblem) (work cone : List Float) (answer : Answer) (work' cone' : List Float) → SplitOutcome p work cone answer work' cone' → slices_fit p ≡ true → SolveOutcome (joined_problem p) work cone answer work' cone'
outcome_over_joined p work cone answer work' cone' o h =
    let same = split_runs_as_joined p work cone h in
    record { answered = rw same at o.answered; work_left = rw same at o.work_left; cone_left = rw same at o.cone_left }

-- demand 3 carries over
pub split_runs_as_demanded : (p : SplitProblem) (work cone : List Float) (answer : Answer) (work' cone' : List Float) → SplitOutcome p work cone answer work' cone' → NoneHolds (split_facts p (length work) (length cone)) → AnsweredByTheRules (read_problem (joined_problem p)) answer work' cone'
split_runs_as_demanded p work cone answer work' cone' o none =
    let h = slices_fit_if_none_holds p (length work) (length cone) none in
    Answered.accepted_runs_as_demanded (joined_problem p) work cone answer work' cone' (outcome_over_joined p work cone answer work' cone' o h) (rw (same_facts p (length work) (length cone) h) at none)

-- Any two outcomes that the contract allows coincide: the answer, and each place of both buffers.
pub any_two_split_outcomes_coincide : {p : SplitProblem} {work cone : List Float} {a a' : Answer} {w w' k k' : List Float} → SplitOutcome p work cone a w k → SplitOutcome p work cone a' w' k' → (a ≡ a') × (w ≡ w') × (k ≡ k')
any_two_split_outcomes_coincide s t = (s.answered ∙ sym t.answered, s.work_left ∙ sym t.work_left, s.cone_left ∙ sym t.cone_left)

-- "What the buffers held before changes none of it", and "places beyond it are never changed"
pub split_old_contents_change_nothing : (p : SplitProblem) (work cone work' cone' : List Float) → split_refusal p (length work) (length cone) ≡ Accepted → split_refusal p (length work') (length cone') ≡ Accepted → SplitOldContentsChangeNothing p work cone work' cone'
split_old_contents_change_nothing p work cone work' cone' e e' =
    let h = slices_fit_if_accepted p work cone e in
    let joined = OldContents.old_contents_change_nothing (joined_problem p) work cone work' cone' (sym (same_refusal p (length work) (length cone) h) ∙ e) (sym (same_refusal p (length work') (length cone') h) ∙ e') in
    rw (split_runs_as_joined p work cone h, split_runs_as_joined p work' cone' h) joined

pub split_places_beyond_kept : (p : SplitProblem) (work cone : List Float) → SplitPlacesBeyondKept p work cone
split_places_beyond_kept p work cone = go (as_joined_or_invalid p work cone)
  where
    go : AsJoinedOrInvalid p work cone → SplitPlacesBeyondKept p work cone
    go (inl same) = rw same (OldContents.places_beyond_kept (joined_problem p) work cone)
    go (inr other) =
        rw other.1 (record { work_length_lem = refl; cone_length = refl; work_beyond = refl; cone_beyond = refl })
