-- Converged is answered exactly when the step that ends the run passes the test for it.
use Prim.Native.Nat.{ℕ, ◌-◌}
use native.Mathlib.Omega.{arith}
use mathlib.Core.Path.{◌≡◌, refl, ◌∙◌, ap}
use mathlib.Core.Bool.{Bool, true, false, cond, ◌&&◌, false≢true}
use lib.Dec.{leb}
use lib.Ieee.{Float, le, lt}
use mathlib.Core.List.{List}
use Rattle.rules.specs.declared.Ending.TheVariants.{Converged, ExcessIter, ExcessIterUnscaled, Unbounded, Infeasible}
use Rattle.rules.specs.declared.SolverParam.{SolverParam}
use Rattle.rules.specs.Product.{Failure, none, block}
use Rattle.rules.specs.Problem.{Problem, embed}
use Rattle.rules.specs.Step.{State, updated}
use Rattle.rules.specs.declared.Criteria.{Criteria}
use Rattle.rules.specs.declared.Criteria.TheVariants.{Conv, Inf}
use Rattle.rules.specs.Criteria.{judged, tau_of}
use Rattle.rules.specs.declared.Norms.{Norms}
use Rattle.rules.specs.Prepare.{prepared_norms}
use Rattle.rules.specs.Run.{Ends, GoesOn, whole_step, verdict, allowance, run}
use Rattle.rules.specs.Demands.{step_from, state_after, step, ConvergedTest, ConvergedExactly}
use Rattle.rules.proofs.Run.{ends_first}

-- ---- the verdict

all_three : (a b c : Bool) → a && b && c ≡ true → (a ≡ true) × (b ≡ true) × (c ≡ true)
all_three true true true e = (refl, refl, refl)
all_three true true false e = absurd (false≢true e)
all_three true false c e = absurd (false≢true e)
all_three false b c e = absurd (false≢true e)

-- what Converged says of the step
record Passes (par : SolverParam) (failure : Failure) (criteria : Criteria) (pri dual gap : Float) : Type 0 where
  no_failure : failure ≡ none
  are : criteria ≡ Conv pri dual gap
  small : le pri par.eps_acc && le dual par.eps_acc && le gap par.eps_acc ≡ true

absurd_ends : {P : Type 0} → ◌≡◌ {A = ℕ} 0 1 → P
absurd_ends e = absurd (omega arith)

converging : (par : SolverParam) (pri dual gap pri' dual' gap' : Float) (t l : Bool) → le pri' par.eps_acc && le dual' par.eps_acc && le gap' par.eps_acc ≡ t → cond t (Ends (Converged pri' dual' gap')) (cond l (Ends (ExcessIter pri' dual' gap')) GoesOn) ≡ Ends (Converged pri dual gap) → Passes par none (Conv pri' dual' gap') pri dual gap
converging par pri dual gap pri' dual' gap' true l e h =
    let a : pri' ≡ pri = cc in
    let b : dual' ≡ dual = cc in
    let c : gap' ≡ gap = cc in
    record { no_failure = refl; are = cc; small = rw (a, b, c) at e }
converging par pri dual gap pri' dual' gap' false true e h = absurd_ends (cc)
converging par pri dual gap pri' dual' gap' false false e h = absurd_ends (cc)

not_diverging : {P : Type 0} (t u l : Bool) (unbdd infeas pri dual gap : Float) → cond t (Ends (Unbounded unbdd)) (cond u (Ends (Infeasible infeas)) (cond l (Ends (ExcessIterUnscaled unbdd infeas)) GoesOn)) ≡ Ends (Converged pri dual gap) → P
not_diverging true u l unbdd infeas pri dual gap h = absurd_ends (cc)
not_diverging false true l unbdd infeas pri dual gap h = absurd_ends (cc)
not_diverging false false true unbdd infeas pri dual gap h = absurd_ends (cc)
not_diverging false false false unbdd infeas pri dual gap h = absurd_ends (cc)

passes : (par : SolverParam) (k : ℕ) (failure : Failure) (criteria : Criteria) (pri dual gap : Float) → verdict par k failure criteria ≡ Ends (Converged pri dual gap) → Passes par failure criteria pri dual gap
unfolding verdict
passes par k (block b) criteria pri dual gap h = absurd_ends (cc)
passes par k none (Conv pri' dual' gap') pri dual gap h =
    converging par pri dual gap pri' dual' gap' (le pri' par.eps_acc && le dual' par.eps_acc && le gap' par.eps_acc) (leb (allowance par) k) refl h
passes par k none (Inf unbdd infeas) pri dual gap h =
    not_diverging (le unbdd par.eps_inf) (le infeas par.eps_inf) (leb (allowance par) k) unbdd infeas pri dual gap h

passed : (par : SolverParam) (k : ℕ) (failure : Failure) (criteria : Criteria) (pri dual gap : Float) → failure ≡ none → criteria ≡ Conv pri dual gap → le pri par.eps_acc ≡ true → le dual par.eps_acc ≡ true → le gap par.eps_acc ≡ true → verdict par k failure criteria ≡ Ends (Converged pri dual gap)
unfolding verdict
passed par k failure criteria pri dual gap f c a b g = rw (f, c, a, b, g)

-- ---- tau is above eps_zero where the criteria are the three

not_both : {P : Type 0} {u v pri dual gap : Float} → Inf u v ≡ Conv pri dual gap → P
not_both h = absurd_ends (cc)

tau_is_above : (p : Problem) (ns : Norms) (x rx : List Float) (pri dual gap : Float) → (judged (embed p) p.par.eps_zero ns x rx).criteria ≡ Conv pri dual gap → lt p.par.eps_zero (tau_of (embed p) x) ≡ true
unfolding judged
tau_is_above p ns x rx pri dual gap h = go (lt p.par.eps_zero (tau_of (embed p) x)) refl
  where
    go : (b : Bool) → lt p.par.eps_zero (tau_of (embed p) x) ≡ b → b ≡ true
    go true e = refl
    go false e = not_both (rw e at h)

whole_step_above : (p : Problem) (ns : Norms) (s : State) (pri dual gap : Float) → (whole_step p ns s).criteria ≡ Conv pri dual gap → lt p.par.eps_zero (tau_of (embed p) (whole_step p ns s).state.x) ≡ true
unfolding whole_step
whole_step_above p ns s pri dual gap h = tau_is_above p ns (updated p s).state.x (updated p s).state.rx pri dual gap h

step_above : (p : Problem) (k : ℕ) (pri dual gap : Float) → (step p k).criteria ≡ Conv pri dual gap → lt p.par.eps_zero (tau_of (embed p) (step p k).state.x) ≡ true
unfolding step_from
step_above p k pri dual gap h = whole_step_above p (prepared_norms p) (state_after p (k - 1)) pri dual gap h

-- ---- the run

pub converged_exactly : (p : Problem) → ConvergedExactly p (run p)
converged_exactly p = record { exactly = λ pri dual gap. (there pri dual gap, back pri dual gap) }
  where
    there : (pri dual gap : Float) → (run p).ending ≡ Converged pri dual gap → ConvergedTest p (step p (run p).steps) pri dual gap
    there pri dual gap e =
        let t = step p (run p).steps in
        let s : Passes p.par t.failure t.criteria pri dual gap = passes p.par (run p).steps t.failure t.criteria pri dual gap ((ends_first p).ends_there ∙ ap Ends e) in
        let three = all_three (le pri p.par.eps_acc) (le dual p.par.eps_acc) (le gap p.par.eps_acc) s.small in
        record {
          no_cone_failed = s.no_failure;
          tau_above = step_above p (run p).steps pri dual gap s.are;
          criteria_are = s.are;
          primal_small = three.0;
          dual_small = three.1;
          gap_small = three.2;
        }

    back : (pri dual gap : Float) → ConvergedTest p (step p (run p).steps) pri dual gap → (run p).ending ≡ Converged pri dual gap
    back pri dual gap t =
        let v = passed p.par (run p).steps (step p (run p).steps).failure (step p (run p).steps).criteria pri dual gap t.no_cone_failed t.criteria_are t.primal_small t.dual_small t.gap_small in
        let e = (ends_first p).ends_there in
        cc
