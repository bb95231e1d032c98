-- A refusal is given exactly when its fact is the first of the table to hold, and changes no buffer.
use Prim.Native.Nat.{ℕ, zero, suc, ◌+◌, ◌<◌, ◌≤◌}
use native.Mathlib.Omega.{arith}
use mathlib.Core.Path.{◌≡◌, refl, sym, ◌∙◌, ap}
use mathlib.Core.Logic.{◌↔◌}
use mathlib.Core.Bool.{Bool, true, false, cond, ◌&&◌, true≢false}
use mathlib.Core.List.{List, [], ◌∷◌}
use lib.Dec.{leb}
use lib.Ieee.{Float, le}
use lib.ListN.{length}
use Rattle.rules.specs.declared.Answer.{Answer}
use Rattle.rules.specs.declared.Ending.{Ending}
use Rattle.rules.specs.declared.Ending.TheVariants.{Converged, ExcessIter, ExcessIterUnscaled, Unbounded, Infeasible, ConeFailure}
use Rattle.rules.specs.declared.SolverParam.{SolverParam}
use Rattle.rules.specs.Product.{Failure, none, block}
use Rattle.rules.specs.Problem.{Problem}
use Rattle.rules.specs.declared.Criteria.{Criteria}
use Rattle.rules.specs.declared.Criteria.TheVariants.{Conv, Inf}
use Rattle.rules.specs.Run.{Ends, GoesOn, verdict, allowance, run, Left, left_by}
use Rattle.rules.specs.Refusals.{Accepted, Fact, ◌when◌, First, none_applies, applies, first_of, facts, as_refusal, refusal, number_of, read_problem, left_turned_away, left_after, solved, SolveOutcome}
use Rattle.rules.specs.Demands.{holds_at, NoneHolds, FirstToHold, NumberedFrom, number_given, GivenExactly, TurnedAwayBy, TurnedAwayExactly, step}
use Rattle.rules.proofs.Columns.{by_less}
use Rattle.rules.proofs.Run.{ends_first}

-- ---- any table of refusals

module _ {R : Type 0} where
  none_before_one : (rows : List (Fact R)) (j : ℕ) → j < 1 → holds_at rows j ≡ false
  none_before_one rows zero h = refl
  none_before_one rows (suc j) h = absurd (omega arith)

  -- two facts are not both the first
  only_first : {rows : List (Fact R)} {i j : ℕ} → FirstToHold rows i → FirstToHold rows j → i ≡ j
  only_first {rows} {i} {j} f g =
      by_less i j (λ l. absurd (true≢false (sym f.holds ∙ g.none_before i l)))
      (λ l. by_less j i (λ k. absurd (true≢false (sym g.holds ∙ f.none_before j k))) (λ k. omega arith))

module _ {R : Type 0} (number : R → ℕ) where
  none_in_none : (i : ℕ) → holds_at {R = R} [] i ≡ false
  none_in_none zero = refl
  none_in_none (suc i) = refl

  -- what a table whose refusals are numbered from suc k on gives
  record GivenAt (k : ℕ) (rows : List (Fact R)) (e : R) : Type 0 where
    place : ℕ
    first : FirstToHold rows place
    numbered_so : number e ≡ k + place

  abbrev Says : ℕ → List (Fact R) → First R → Type 0
  Says k rows none_applies = NoneHolds rows
  Says k rows (applies e) = GivenAt k rows e

  -- a row that does not hold, before others
  one_more : (k : ℕ) (e : R) (rows : List (Fact R)) (r : First R) → Says (suc k) rows r → Says k ((e when false) ∷ rows) r
  one_more k e rows none_applies s = later
    where
      later : (i : ℕ) → holds_at ((e when false) ∷ rows) i ≡ false
      later zero = refl
      later (suc zero) = refl
      later (suc (suc i)) = s (suc i)
  one_more k e rows (applies x) s = go s.place refl
    where
      go : (i : ℕ) → s.place ≡ i → GivenAt k ((e when false) ∷ rows) x
      go zero is = absurd (true≢false (sym s.first.holds ∙ ap (holds_at rows) is))
      go (suc i) is =
          record {
            place = suc (suc i);
            first = record { holds = rw is at s.first.holds; none_before = before };
            numbered_so = omega (arith, s.numbered_so);
          }
        where
          before : (j : ℕ) → j < suc (suc i) → holds_at ((e when false) ∷ rows) j ≡ false
          before zero h = refl
          before (suc zero) h = refl
          before (suc (suc j)) h = s.first.none_before (suc j) (omega arith)

  says : (k : ℕ) (rows : List (Fact R)) → NumberedFrom number (suc k) rows → Says k rows (first_of rows)
  unfolding first_of
  says k [] n = none_in_none
  says k ((e when true) ∷ rows) n =
      let so : number e ≡ suc k = n.0 in
      record { place = 1; first = record { holds = refl; none_before = none_before_one ((e when true) ∷ rows) }; numbered_so = omega arith }
  says k ((e when false) ∷ rows) n = one_more k e rows (first_of rows) (says (suc k) rows n.1)

  given_by : (rows : List (Fact R)) (r : First R) → Says 0 rows r → (i : ℕ) → 1 ≤ i → (number_given number r ≡ i) ↔ FirstToHold rows i
  given_by rows none_applies s i h = (λ e. absurd (omega arith), λ f. absurd (true≢false (sym f.holds ∙ s i)))
  given_by rows (applies x) s i h = (
    λ e.
        let same : s.place ≡ i = omega (arith, s.numbered_so) in
        rw (← same) s.first,
    λ f.
        let same : s.place ≡ i = only_first s.first f in
        omega (arith, s.numbered_so),
  )

  accepts_by : (rows : List (Fact R)) (r : First R) → Says 0 rows r → (r ≡ none_applies) ↔ NoneHolds rows
  accepts_by rows none_applies s = (λ e. s, λ n. refl)
  accepts_by rows (applies x) s = (
    λ e.
        let z : ◌≡◌ {A = ℕ} 0 1 = cc in
        absurd (omega arith),
    λ n. absurd (true≢false (sym s.first.holds ∙ n s.place)),
  )

  -- the first fact to hold answers
  pub given_exactly : (rows : List (Fact R)) → NumberedFrom number 1 rows → GivenExactly number rows
  given_exactly rows n =
      let s = says 0 rows n in
      record { refuses = given_by rows (first_of rows) s; accepts = accepts_by rows (first_of rows) s }

-- ---- the table's

pub numbered : (p : Problem) (work cone : ℕ) → NumberedFrom number_of 1 (facts p work cone)
numbered p work cone = (refl, (refl, (refl, (refl, (refl, (refl, tt))))))

refusal_is : (p : Problem) (work cone : ℕ) → refusal p work cone ≡ as_refusal (first_of (facts p work cone))
unfolding refusal
refusal_is p work cone = refl

pub accepted_is : (r : First Ending) → as_refusal r ≡ Accepted → r ≡ none_applies
accepted_is none_applies e = refl
accepted_is (applies x) e =
    let z : ◌≡◌ {A = ℕ} 0 1 = cc in
    absurd (omega arith)

table_given : (p : Problem) (work cone : ℕ) → GivenExactly number_of (facts p work cone)
table_given p work cone = given_exactly number_of (facts p work cone) (numbered p work cone)

-- where a problem is accepted no fact holds
pub none_holds : (p : Problem) (work cone : ℕ) → refusal p work cone ≡ Accepted → NoneHolds (facts p work cone)
none_holds p work cone e = (table_given p work cone).accepts.0 (accepted_is (first_of (facts p work cone)) (sym (refusal_is p work cone) ∙ e))

pub accepted_if_none_holds : (p : Problem) (work cone : ℕ) → NoneHolds (facts p work cone) → refusal p work cone ≡ Accepted
accepted_if_none_holds p work cone n = refusal_is p work cone ∙ ap as_refusal ((table_given p work cone).accepts.1 n)

-- ---- an accepted run is no refusal

-- what holds of each ending that a step can say holds of the one that it says
two_cases : (P : Ending → Type 0) (t l : Bool) (e e' x : Ending) → P e → P e' → cond t (Ends e) (cond l (Ends e') GoesOn) ≡ Ends x → P x
two_cases P true l e e' x h h' is =
    let same : e ≡ x = cc in
    rw (← same) h
two_cases P false true e e' x h h' is =
    let same : e' ≡ x = cc in
    rw (← same) h'
two_cases P false false e e' x h h' is =
    let z : ◌≡◌ {A = ℕ} 0 1 = cc in
    absurd (omega arith)

three_cases : (P : Ending → Type 0) (t u l : Bool) (e e' e'' x : Ending) → P e → P e' → P e'' → cond t (Ends e) (cond u (Ends e') (cond l (Ends e'') GoesOn)) ≡ Ends x → P x
three_cases P true u l e e' e'' x h h' h'' is =
    let same : e ≡ x = cc in
    rw (← same) h
three_cases P false u l e e' e'' x h h' h'' is = two_cases P u l e' e'' x h' h'' is

pub record EachEnding (P : Ending → Type 0) (failure : Failure) (criteria : Criteria) : Type 0 where
  pub failing : (b : ℕ) → failure ≡ block b → P (ConeFailure b)
  pub converging : (pri dual gap : Float) → failure ≡ none → criteria ≡ Conv pri dual gap → P (Converged pri dual gap) × P (ExcessIter pri dual gap)
  pub diverging : (unbdd infeas : Float) → failure ≡ none → criteria ≡ Inf unbdd infeas → P (Unbounded unbdd) × P (Infeasible infeas) × P (ExcessIterUnscaled unbdd infeas)

pub verdict_cases : (P : Ending → Type 0) (par : SolverParam) (k : ℕ) (failure : Failure) (criteria : Criteria) (x : Ending) → EachEnding P failure criteria → verdict par k failure criteria ≡ Ends x → P x
unfolding verdict
verdict_cases P par k (block b) criteria x each h =
    let same : ConeFailure b ≡ x = cc in
    rw (← same) (each.failing b refl)
verdict_cases P par k none (Conv pri dual gap) x each h =
    let c = each.converging pri dual gap refl refl in
    two_cases P (le pri par.eps_acc && le dual par.eps_acc && le gap par.eps_acc) (leb (allowance par) k) (Converged pri dual gap) (ExcessIter pri dual gap) x c.0 c.1 h
verdict_cases P par k none (Inf unbdd infeas) x each h =
    let c = each.diverging unbdd infeas refl refl in
    three_cases P (le unbdd par.eps_inf) (le infeas par.eps_inf) (leb (allowance par) k) (Unbounded unbdd) (Infeasible infeas) (ExcessIterUnscaled unbdd infeas) x c.0 c.1 c.2 h

verdict_unnumbered : (par : SolverParam) (k : ℕ) (failure : Failure) (criteria : Criteria) (x : Ending) → verdict par k failure criteria ≡ Ends x → number_of x ≡ 0
verdict_unnumbered par k failure criteria x h =
    verdict_cases (λ e. number_of e ≡ 0) par k failure criteria x
    (record { failing = λ b f. refl; converging = λ pri dual gap f c. (refl, refl); diverging = λ unbdd infeas f c. (refl, refl, refl) })
    h

pub run_unnumbered : (p : Problem) → number_of (run p).ending ≡ 0
run_unnumbered p =
    verdict_unnumbered p.par (run p).steps (step p (run p).steps).failure (step p (run p).steps).criteria (run p).ending (ends_first p).ends_there

-- ---- the whole

pub ran_unnumbered : (p : Problem) (work cone : List Float) → number_of (left_by (read_problem p) work cone (run (read_problem p))).answer.ending ≡ 0
unfolding left_by
ran_unnumbered p work cone = run_unnumbered (read_problem p)

-- what a table makes of a run that gives no number
module _ (rows : List (Fact Ending)) (ran : Left) (work cone : List Float) where
  -- an accepted run gives no number, and a refusal its own
  number_given_lem : number_of ran.answer.ending ≡ 0 → (r : First Ending) → number_of (left_after (as_refusal r) ran work cone).answer.ending ≡ number_given number_of r
  number_given_lem n none_applies = n
  number_given_lem n (applies x) = refl

  unchanged_by : (r : First Ending) → Says number_of 0 rows r → (i : ℕ) → FirstToHold rows i → left_after (as_refusal r) ran work cone ≡ left_turned_away (left_after (as_refusal r) ran work cone).answer.ending work cone
  unchanged_by none_applies s i f = absurd (true≢false (sym f.holds ∙ s i))
  unchanged_by (applies x) s i f = refl

  pub turned_away_by : NumberedFrom number_of 1 rows → number_of ran.answer.ending ≡ 0 → (left : Left) → left ≡ left_after (as_refusal (first_of rows)) ran work cone → TurnedAwayBy rows left work cone
  turned_away_by n unnumbered left is =
      let table = given_exactly number_of rows n in
      let number : number_of left.answer.ending ≡ number_given number_of (first_of rows) = rw is (number_given_lem unnumbered (first_of rows)) in
      record {
        exactly = λ i h. (λ e. (table.refuses i h).0 (sym number ∙ e), λ f. number ∙ (table.refuses i h).1 f);
        none_otherwise = λ h. number ∙ ap (number_given number_of) (table.accepts.1 h);
        changes_nothing = λ i f. rw is (unchanged_by (first_of rows) (says number_of 0 rows n) i f);
      }

module _ (p : Problem) (work cone : List Float) where
  pub solved_is : solved p work cone ≡ left_after (as_refusal (first_of (facts p (length work) (length cone)))) (left_by (read_problem p) work cone (run (read_problem p))) work cone
  unfolding solved
  solved_is = rw (refusal_is p (length work) (length cone))

  pub turned_away_exactly : TurnedAwayExactly p work cone
  turned_away_exactly =
      turned_away_by (facts p (length work) (length cone)) (left_by (read_problem p) work cone (run (read_problem p))) work cone (numbered p (length work) (length cone)) (ran_unnumbered p work cone) (solved p work cone) solved_is

-- ---- the contract

-- Any two outcomes that the solver's contract allows coincide: the answer, and each place of both buffers.
pub any_two_outcomes_coincide : {p : Problem} {work cone : List Float} {a a' : Answer} {w w' k k' : List Float} → SolveOutcome p work cone a w k → SolveOutcome p work cone a' w' k' → (a ≡ a') × (w ≡ w') × (k ≡ k')
any_two_outcomes_coincide s t = (s.answered ∙ sym t.answered, s.work_left ∙ sym t.work_left, s.cone_left ∙ sym t.cone_left)
