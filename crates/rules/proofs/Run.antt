-- A step goes on exactly when nothing ends it, and a run ends at the first step that does not.
use Prim.Native.Nat.{ℕ, zero, suc, ◌+◌, ◌-◌, ◌<◌, ◌≤◌}
use native.Mathlib.Omega.{arith}
use mathlib.Core.Path.{◌≡◌, refl, sym, ◌∙◌, ap}
use mathlib.Core.Logic.{◌↔◌}
use mathlib.Core.Bool.{Bool, true, false, cond, ◌||◌, true≢false}
use borrow.Author.Tests.{leb-false, lt-leb}
use lib.Dec.{leb}
use lib.Ieee.{le}
use Rattle.rules.specs.declared.Ending.{Ending}
use Rattle.rules.specs.declared.Ending.TheVariants.{Converged, ExcessIter, ExcessIterUnscaled, Unbounded, Infeasible}
use Rattle.rules.specs.declared.SolverParam.{SolverParam}
use Rattle.rules.specs.Product.{Failure, none, block}
use Rattle.rules.specs.Problem.{Problem}
use Rattle.rules.specs.Step.{State}
use Rattle.rules.specs.declared.Criteria.{Criteria}
use Rattle.rules.specs.declared.Criteria.TheVariants.{Conv, Inf}
use Rattle.rules.specs.declared.Norms.{Norms}
use Rattle.rules.specs.Prepare.{prepared, prepared_norms}
use Rattle.rules.specs.Run.{Verdict, Ends, GoesOn, WholeStep, whole_step, verdict, allowance, state_from, Piece, going_on, piece_from, taken_up, Ended, ended_by, run}
use Rattle.rules.specs.Demands.{step_from, verdict_from, rotations_from, GoesByTheRules, state_after, step, verdict_at, rotations_up_to, EndsFirst, ending_test, GoesOnExactly}
use Rattle.rules.proofs.Columns.{by_less}

-- ---- one step

ends_not_on : {e : Ending} → Ends e ≡ GoesOn → ⊥
ends_not_on h =
    let z : ◌≡◌ {A = ℕ} 0 1 = cc in
    omega arith

block_not_none : {b : ℕ} → block b ≡ none → ⊥
block_not_none h =
    let z : ◌≡◌ {A = ℕ} 0 1 = cc in
    omega arith

-- a test, then the allowance
two_tests : (t l : Bool) (e e' : Ending) → (cond t (Ends e) (cond l (Ends e') GoesOn) ≡ GoesOn) ↔ ((t ≡ false) × (l ≡ false))
two_tests true l e e' = (λ h. absurd (ends_not_on h), λ h. absurd (true≢false h.0))
two_tests false true e e' = (λ h. absurd (ends_not_on h), λ h. absurd (true≢false h.1))
two_tests false false e e' = (λ h. (refl, refl), λ h. refl)

-- two tests, then the allowance
three_tests : (t u l : Bool) (e e' e'' : Ending) → (cond t (Ends e) (cond u (Ends e') (cond l (Ends e'') GoesOn)) ≡ GoesOn) ↔ ((t || u ≡ false) × (l ≡ false))
three_tests true u l e e' e'' = (λ h. absurd (ends_not_on h), λ h. absurd (true≢false h.0))
three_tests false u l e e' e'' = two_tests u l e' e''

left_over : {P : Type 0} (par : SolverParam) (k : ℕ) (t : Bool) → P ↔ ((t ≡ false) × (leb (allowance par) k ≡ false)) → P ↔ ((none ≡ none) × (t ≡ false) × (k < allowance par))
left_over par k t h =
    (λ x. (refl, (h.0 x).0, leb-false (allowance par) k (h.0 x).1), λ x. h.1 (x.1, lt-leb (allowance par) k x.2))

pub goes_on_exactly : (p : Problem) (k : ℕ) (failure : Failure) (criteria : Criteria) → GoesOnExactly p k failure criteria
unfolding verdict
goes_on_exactly p k (block b) criteria = record { exactly = (λ h. absurd (ends_not_on h), λ h. absurd (block_not_none h.0)) }
goes_on_exactly p k none (Conv pri dual gap) =
    record { exactly = left_over p.par k (ending_test p (Conv pri dual gap)) (two_tests (ending_test p (Conv pri dual gap)) (leb (allowance p.par) k) (Converged pri dual gap) (ExcessIter pri dual gap)) }
goes_on_exactly p k none (Inf unbdd infeas) =
    record { exactly = left_over p.par k (ending_test p (Inf unbdd infeas)) (three_tests (le unbdd p.par.eps_inf) (le infeas p.par.eps_inf) (leb (allowance p.par) k) (Unbounded unbdd) (Infeasible infeas) (ExcessIterUnscaled unbdd infeas)) }

-- ---- a piece, from any state

pub step_from_lem : (p : Problem) (ns : Norms) (s : State) (j : ℕ) → step_from p ns s (suc j) ≡ whole_step p ns (state_from p ns s j)
unfolding step_from
step_from_lem p ns s j =
    let e : suc j - 1 ≡ j = omega arith in
    rw e

pub state_from_lem : (p : Problem) (ns : Norms) (s : State) (j : ℕ) → state_from p ns s (suc j) ≡ (step_from p ns s (suc j)).state
unfolding state_from
state_from_lem p ns s j = rw (step_from_lem p ns s j)

rotations_from_lem : (p : Problem) (ns : Norms) (s : State) (j : ℕ) → rotations_from p ns s (suc j) ≡ rotations_from p ns s j + (step_from p ns s (suc j)).rotations
unfolding rotations_from
rotations_from_lem p ns s j = refl

no_rotations : (p : Problem) (ns : Norms) (s : State) → rotations_from p ns s 0 ≡ 0
unfolding rotations_from
no_rotations p ns s = refl

pub no_steps : (p : Problem) (ns : Norms) (s : State) → state_from p ns s 0 ≡ s
unfolding state_from
no_steps p ns s = refl

pub piece_more : (p : Problem) (ns : Norms) (more k q : ℕ) (s : State) (t : WholeStep) → t ≡ whole_step p ns s → piece_from (suc more) p ns k q s ≡ going_on (verdict p.par (k + 1) t.failure t.criteria) (piece_from more p ns (k + 1) (q + t.rotations) t.state) (k + 1) (q + t.rotations) t.state
unfolding piece_from
piece_more p ns more k q s t e = rw e

pub piece_none : (p : Problem) (ns : Norms) (k q : ℕ) (s : State) → piece_from zero p ns k q s ≡ record { said = GoesOn; steps = k; rotations = q; state = s }
unfolding piece_from
piece_none p ns k q s = refl

module _ (p : Problem) (ns : Norms) (k q : ℕ) (s : State) (given : ℕ) where
  -- j steps have gone on
  abbrev GoneOn : ℕ → Type 0
  GoneOn j = (i : ℕ) → 1 ≤ i → i ≤ j → verdict_from p ns k s i ≡ GoesOn

  gone_on_more : (j : ℕ) → GoneOn j → verdict_from p ns k s (suc j) ≡ GoesOn → GoneOn (suc j)
  gone_on_more j g e i l h =
      by_less i (suc j) (λ b. g i l (omega arith))
      (λ b.
      let same : i ≡ suc j = omega arith in
      rw same e)

  -- the steps that were given are made
  halted_there : (j : ℕ) → j ≡ given → GoneOn j → GoesByTheRules given p ns k q s (record { said = GoesOn; steps = k + j; rotations = q + rotations_from p ns s j; state = state_from p ns s j })
  halted_there j is g =
      record {
        made = j;
        at_most = omega arith;
        steps_are = refl;
        state_there = refl;
        counts = refl;
        not_before = λ i l h. g i l (omega arith);
        halts = λ h. (is, g);
        ends = λ e h. absurd (ends_not_on (sym h));
      }

  -- the step that j steps have led to ends the piece or goes on
  ends_or_on : (j : ℕ) (rest : Piece) → GoneOn j → suc j ≤ given → (verdict_from p ns k s (suc j) ≡ GoesOn → GoesByTheRules given p ns k q s rest) → (v : Verdict) → verdict_from p ns k s (suc j) ≡ v → GoesByTheRules given p ns k q s (going_on v rest (k + suc j) (q + rotations_from p ns s (suc j)) (state_from p ns s (suc j)))
  ends_or_on j rest g before goes GoesOn e = goes e
  ends_or_on j rest g before goes (Ends ending) e =
      record {
        made = suc j;
        at_most = before;
        steps_are = refl;
        state_there = refl;
        counts = refl;
        not_before = λ i l h. g i l (omega arith);
        halts = λ h. absurd (ends_not_on h);
        ends = λ x h. (omega arith, e ∙ h);
      }

  piece_step : (more j : ℕ) → piece_from (suc more) p ns (k + j) (q + rotations_from p ns s j) (state_from p ns s j) ≡ going_on (verdict_from p ns k s (suc j)) (piece_from more p ns (k + suc j) (q + rotations_from p ns s (suc j)) (state_from p ns s (suc j))) (k + suc j) (q + rotations_from p ns s (suc j)) (state_from p ns s (suc j))
  piece_step more j =
      let t = step_from p ns s (suc j) in
      let step_is : k + j + 1 ≡ k + suc j = omega arith in
      let count_is : q + rotations_from p ns s j + t.rotations ≡ q + rotations_from p ns s (suc j) = omega (arith, rotations_from_lem p ns s j) in
      rw (piece_more p ns more (k + j) (q + rotations_from p ns s j) (state_from p ns s j) t (step_from_lem p ns s j), step_is, count_is, ← state_from_lem p ns s j)

  piece_goes : (more j : ℕ) → suc more + j ≡ given → GoneOn j → (verdict_from p ns k s (suc j) ≡ GoesOn → GoesByTheRules given p ns k q s (piece_from more p ns (k + suc j) (q + rotations_from p ns s (suc j)) (state_from p ns s (suc j)))) → GoesByTheRules given p ns k q s (piece_from (suc more) p ns (k + j) (q + rotations_from p ns s j) (state_from p ns s j))
  piece_goes more j is g rest =
      rw (piece_step more j)
      (ends_or_on j (piece_from more p ns (k + suc j) (q + rotations_from p ns s (suc j)) (state_from p ns s (suc j))) g (omega arith) rest (verdict_from p ns k s (suc j)) refl)

  piece_stays : (j : ℕ) → j ≡ given → GoneOn j → GoesByTheRules given p ns k q s (piece_from zero p ns (k + j) (q + rotations_from p ns s j) (state_from p ns s j))
  piece_stays j is g = rw (piece_none p ns (k + j) (q + rotations_from p ns s j) (state_from p ns s j)) (halted_there j is g)

  piece_from_lem : (more j : ℕ) → more + j ≡ given → GoneOn j → GoesByTheRules given p ns k q s (piece_from more p ns (k + j) (q + rotations_from p ns s j) (state_from p ns s j))
  piece_from_lem zero j is g = piece_stays j (omega arith) g
  piece_from_lem (suc more) j is g = piece_goes more j is g (λ e. piece_from_lem more (suc j) (omega arith) (gone_on_more j g e))

-- At most so many steps from any state, however many are behind, halt or end by the rules.
pub goes_by_the_rules : (given : ℕ) (p : Problem) (ns : Norms) (k q : ℕ) (s : State) → GoesByTheRules given p ns k q s (piece_from given p ns k q s)
goes_by_the_rules given p ns k q s =
    let none_made : k + 0 ≡ k = omega arith in
    let none_rotated : q + rotations_from p ns s 0 ≡ q = omega (arith, no_rotations p ns s) in
    rw (none_made, none_rotated, no_steps p ns s) at (piece_from_lem p ns k q s given given 0 (omega arith) (λ i l h. absurd (omega arith)))

joined_more : (p : Problem) (ns : Norms) (a b k q : ℕ) (s : State) (t : WholeStep) → t ≡ whole_step p ns s → piece_from (a + b) p ns (k + 1) (q + t.rotations) t.state ≡ taken_up b p ns (piece_from a p ns (k + 1) (q + t.rotations) t.state) → piece_from (suc a + b) p ns k q s ≡ taken_up b p ns (piece_from (suc a) p ns k q s)
joined_more p ns a b k q s t e rest =
    let more : suc a + b ≡ suc (a + b) = omega arith in
    rw (more, piece_more p ns (a + b) k q s t e, piece_more p ns a k q s t e) (go (verdict p.par (k + 1) t.failure t.criteria))
  where
    go : (v : Verdict) → going_on v (piece_from (a + b) p ns (k + 1) (q + t.rotations) t.state) (k + 1) (q + t.rotations) t.state ≡ taken_up b p ns (going_on v (piece_from a p ns (k + 1) (q + t.rotations) t.state) (k + 1) (q + t.rotations) t.state)
    go GoesOn = rest
    go (Ends x) = refl

-- However a piece is cut, its parts come to the whole.
pub pieces_join : (a b : ℕ) (p : Problem) (ns : Norms) (k q : ℕ) (s : State) → piece_from (a + b) p ns k q s ≡ taken_up b p ns (piece_from a p ns k q s)
pieces_join zero b p ns k q s =
    let all : 0 + b ≡ b = omega arith in
    rw (all, piece_none p ns k q s)
pieces_join (suc a) b p ns k q s = joined_more p ns a b k q s (whole_step p ns s) refl (pieces_join a b p ns (k + 1) (q + (whole_step p ns s).rotations) (whole_step p ns s).state)

-- ---- the run

pub run_is : (p : Problem) → run p ≡ ended_by (piece_from (allowance p.par) p (prepared_norms p) 0 0 (prepared p))
unfolding run
run_is p = refl

none_behind : (i : ℕ) → 0 + i ≡ i
none_behind i = omega arith

-- A piece with all of the allowance ends, at the first step that does not go on.
module _ (p : Problem) (c : Piece) (r : GoesByTheRules (allowance p.par) p (prepared_norms p) 0 0 (prepared p) c) where
  at-step : (i : ℕ) (v : Verdict) → verdict_from p (prepared_norms p) 0 (prepared p) i ≡ v → verdict_at p i ≡ v
  at-step i v e = rw (none_behind i) at e

  steps_made : c.steps ≡ r.made
  steps_made = r.steps_are ∙ none_behind r.made

  -- the last step of the allowance does not go on
  never_halts : c.said ≡ GoesOn → ⊥
  never_halts is =
      let h = r.halts is in
      let last = allowance p.par in
      let on : verdict_at p last ≡ GoesOn = at-step last GoesOn (h.1 last (omega arith) (omega (arith, h.0))) in
      let before = ((goes_on_exactly p last (step p last).failure (step p last).criteria).exactly.0 on).2 in
      omega arith

  whole_ends : (v : Verdict) → c.said ≡ v → EndsFirst p (ended_by c)
  whole_ends GoesOn is = absurd (never_halts is)
  whole_ends (Ends e) is =
      let there = r.ends e is in
      let steps = steps_made in
      let least : 1 ≤ r.made = there.0 in
      let most : r.made ≤ allowance p.par = r.at_most in
      record {
        at_least_one = omega arith;
        at_most = omega arith;
        ends_there = rw (is, steps) (at-step r.made (Ends e) there.1);
        not_before = λ i l h. at-step i GoesOn (r.not_before i l (omega arith));
        state_there = rw steps r.state_there;
        counts = rw steps (r.counts ∙ none_behind (rotations_up_to p r.made));
      }

pub ends_first : (p : Problem) → EndsFirst p (run p)
ends_first p =
    let c = piece_from (allowance p.par) p (prepared_norms p) 0 0 (prepared p) in
    rw (run_is p) (whole_ends p c (goes_by_the_rules (allowance p.par) p (prepared_norms p) 0 0 (prepared p)) c.said refl)

-- ---- nothing else ends so

same_ended : (d e : Ended) → d.ending ≡ e.ending → d.steps ≡ e.steps → d.rotations ≡ e.rotations → d.state ≡ e.state → d ≡ e
same_ended d e a b c f = λ i. record { ending = a i; steps = b i; rotations = c i; state = f i }

-- of two steps that end the run first neither is before the other
not_earlier : {p : Problem} {d e : Ended} → EndsFirst p d → EndsFirst p e → d.steps < e.steps → ⊥
not_earlier {p} {d} {e} f g h = ends_not_on (sym f.ends_there ∙ g.not_before d.steps f.at_least_one h)

pub ends_first_once : {p : Problem} {d e : Ended} → EndsFirst p d → EndsFirst p e → d ≡ e
ends_first_once {p} {d} {e} f g =
    let k : d.steps ≡ e.steps = by_less d.steps e.steps (λ l. absurd (not_earlier f g l)) (λ l. by_less e.steps d.steps (λ r. absurd (not_earlier g f r)) (λ r. omega arith)) in
    let a = f.ends_there in
    let b : verdict_at p d.steps ≡ Ends e.ending = rw k g.ends_there in
    let c : d.ending ≡ e.ending = cc in
    same_ended d e c k (f.counts ∙ ap (rotations_up_to p) k ∙ sym g.counts) (f.state_there ∙ ap (state_after p) k ∙ sym g.state_there)
