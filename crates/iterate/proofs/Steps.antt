-- What the loop learns of one step, and how many rotations that may make.
use Prim.Native.Nat.{ℕ, ◌+◌, ◌*◌, ◌≤◌}
use native.Mathlib.Omega.{arith}
use mathlib.Core.Path.{◌≡◌, refl, sym, ◌∙◌}
use mathlib.Core.Bool.{Bool, true, false, cond}
use mathlib.Core.List.{List, ◌++◌}
use lib.Ieee.{Float}
use Rattle.std.specs.Prelude.{Option, Some, None}
use lib.ListN.{drop}
use Rattle.rules.specs.declared.Criteria.{Criteria}
use Rattle.rules.specs.declared.Norms.{Norms}
use Rattle.rules.specs.declared.SolverParam.{SolverParam}
use Rattle.rules.specs.Limits.{limit, most_sweeps}
use Rattle.rules.specs.Product.{Failure, none, block, Passed, proj_all, is_none}
use Rattle.rules.specs.Problem.{Problem, embed, blocks}
use Rattle.rules.specs.Step.{State, moved_x, projected, updated, x_x, x_y, x_s}
use Rattle.rules.specs.Run.{Verdict, whole_step, verdict}
use Rattle.project.specs.Project.{ConesReady}
use Rattle.project.proofs.Cones.{pass_rotations}
use Rattle.whole_step.specs.declared.StepAnswer.{StepAnswer}
use Rattle.whole_step.specs.WholeStep.{left_by_step, step_answer, WholeStepOutcome}
use Rattle.iterate.specs.Said.{said_by, made_by}

-- ---- one step

said_of : (par : SolverParam) (k : ℕ) (failure : Failure) (criteria : Criteria) (q : ℕ) → said_by par k (step_answer criteria q failure) ≡ verdict par k failure criteria
unfolding verdict
said_of par k none criteria q = refl
said_of par k (block b) criteria q = refl

made_of : (failure : Failure) (criteria : Criteria) (q : ℕ) → made_by (step_answer criteria q failure) ≡ q
made_of none criteria q = refl
made_of (block b) criteria q = refl

-- Step k from s: what it says, its rotations, and what it leaves.
pub record SteppedBy (p : Problem) (ns : Norms) (k : ℕ) (s : State) (said : Verdict) (made : ℕ) (s' : State) : Type 0 where
  pub says : said ≡ verdict p.par k (whole_step p ns s).failure (whole_step p ns s).criteria
  pub counts : made ≡ (whole_step p ns s).rotations
  pub left : s' ≡ left_by_step p ns s

same : {step ruled : StepAnswer} → Some step ≡ Some ruled → step ≡ ruled
same e = cc

-- a step that answers something had sizes that fit
pub step_fits_if : {fits : Bool} {p : Problem} {ns : Norms} {s : State} {answer : Option StepAnswer} {step : StepAnswer} {s' : State} → WholeStepOutcome fits p ns s answer s' → answer ≡ Some step → fits ≡ true
step_fits_if {fits} {step = step} o is = go fits _ (sym is ∙ o.answered)
  where
    go : (t : Bool) (ruled : StepAnswer) → Some step ≡ cond t (Some ruled) None → t ≡ true
    go true ruled e = refl
    go false ruled e = let z : ◌≡◌ {A = ℕ} 0 1 = cc in absurd (omega arith)

-- and that is what it says
pub step_is : {p : Problem} {ns : Norms} {s : State} {answer : Option StepAnswer} {step : StepAnswer} {s' : State} → WholeStepOutcome true p ns s answer s' → answer ≡ Some step → step ≡ step_answer (whole_step p ns s).criteria (whole_step p ns s).rotations (whole_step p ns s).failure
step_is o is = same (sym is ∙ o.answered)

pub stepped_by : {fits : Bool} {p : Problem} {ns : Norms} (k : ℕ) {s : State} {answer : Option StepAnswer} {step : StepAnswer} {s' : State} → WholeStepOutcome fits p ns s answer s' → answer ≡ Some step → {said : Verdict} {made : ℕ} → said ≡ said_by p.par k step → made ≡ made_by step → SteppedBy p ns k s said made s'
stepped_by {fits} {p} {ns} k {s} o is says counts =
    let o' = rw (step_fits_if o is) at o in
    let w = whole_step p ns s in
    let e = step_is o' is in
    record { says = says ∙ rw e (said_of p.par k w.failure w.criteria w.rotations); counts = counts ∙ rw e (made_of w.failure w.criteria w.rotations); left = o'.left }

-- one that answers nothing had not, and left all as it was
pub nothing_stepped : {fits : Bool} {p : Problem} {ns : Norms} {s : State} {answer : Option StepAnswer} {s' : State} → WholeStepOutcome fits p ns s answer s' → answer ≡ None → (fits ≡ false) × (s' ≡ s)
nothing_stepped {fits} o is = go fits (rw is at o)
  where
    go : (t : Bool) {p : Problem} {ns : Norms} {s s' : State} → WholeStepOutcome t p ns s None s' → (t ≡ false) × (s' ≡ s)
    go true o = let e = o.answered in let z : ◌≡◌ {A = ℕ} 0 1 = cc in absurd (omega arith)
    go false o = (refl, o.left)

-- ---- how many rotations a step takes

-- no more than those of both passes over the cones
abbrev pub per_step : ℕ
per_step = 2 * (most_sweeps * limit)

projected_within : (p : Problem) (x cone : List Float) {k : ℕ} → ConesReady p.par p.m p.words k → (projected p x cone).rotations ≤ per_step
unfolding projected
projected_within p x cone ready = go (is_none first.failure) refl
  where
    first : Passed
    first = proj_all p.par true (blocks p) (x_y (embed p) x) cone

    second : Passed
    second = proj_all p.par false (blocks p) (x_s (embed p) (x_x (embed p) x ++ first.cone ++ drop (p.n + p.m) x)) first.work

    one : first.rotations ≤ most_sweeps * limit
    one = omega (arith, pass_rotations p.par true (blocks p) (x_y (embed p) x) cone ready.sweeps, ready.places, ready.within)

    two : second.rotations ≤ most_sweeps * limit
    two = omega (arith, pass_rotations p.par false (blocks p) (x_s (embed p) (x_x (embed p) x ++ first.cone ++ drop (p.n + p.m) x)) first.work ready.sweeps, ready.places, ready.within)

    go : (t : Bool) → is_none first.failure ≡ t → (projected p x cone).rotations ≤ per_step
    go true e = rw e (omega (arith, one, two))
    go false e = rw e (omega (arith, one))

pub step_within : (p : Problem) (ns : Norms) (s : State) {k : ℕ} → ConesReady p.par p.m p.words k → (whole_step p ns s).rotations ≤ per_step
unfolding whole_step updated
step_within p ns s ready = projected_within p (moved_x p s).x (moved_x p s).cone ready
