-- An accepted problem is answered by the rules, and x and y are handed back as its ending says.
use Prim.Native.Nat.{ℕ, ◌+◌, ◌-◌, ◌≤◌}
use native.Mathlib.Omega.{arith}
use mathlib.Core.Path.{◌≡◌, refl, sym, ◌∙◌, ap}
use mathlib.Core.Logic.{inl, inr}
use mathlib.Core.Bool.{Bool, true, false}
use mathlib.Core.List.{List, ◌++◌, append_assoc}
use borrow.Author.Tests.{le-leb}
use lib.Ieee.{Float}
use lib.ListN.{length, take, drop, length-append, length-replicate, take-append-drop, replicate-append-replicate}
use lib.Seq.{take_at, drop_at, drop-drop}
use Rattle.rules.specs.declared.Answer.{Answer}
use Rattle.rules.specs.declared.Ending.{Ending}
use Rattle.rules.specs.declared.Ending.TheVariants.{BadParam, TooLarge, InvalidOp, BadCone, NotFinite, WorkShortage, Converged, ExcessIter, ExcessIterUnscaled, Unbounded, Infeasible, ConeFailure}
use Rattle.rules.specs.declared.Criteria.{Criteria}
use Rattle.rules.specs.declared.SolverParam.{SolverParam}
use Rattle.rules.specs.Outcome.{OnPaper, Solution, times_1/tau, unscaled, all_zero, turned_away, ends, on_paper}
use Rattle.rules.specs.Helpers.{reciprocal}
use Rattle.rules.specs.Arithmetic.{+0}
use Rattle.rules.specs.Vectors.{scaled}
use Rattle.rules.specs.Product.{Failure, none, block, cone_work}
use Rattle.rules.specs.Problem.{Problem, embed, blocks, work_length}
use Rattle.rules.specs.Step.{x_x, x_y}
use Rattle.rules.specs.Criteria.{tau_of}
use Rattle.rules.specs.Prepare.{zeros}
use Rattle.rules.specs.Run.{Ends, GoesOn, Ended, is_scaled, is_cone_failure, verdict, allowance, final_x, laid_out, solution_x, solution_y, run, left_by}
use Rattle.rules.specs.Refusals.{facts, number_of, read_problem, SolveOutcome}
use Rattle.rules.specs.Demands.{NoneHolds, step, state_after, tau_after, verdict_at, ending_test, GoesOnAt, EndsFirst, StopsAt, cone_fails, test_holds, allowance_met, CarriedAt, handed_back, AnsweredByTheRules}
use Rattle.rules.proofs.Columns.{by_less}
use Rattle.rules.proofs.KernelLengths.{scaled-length}
use Rattle.rules.proofs.Lengths.{Sized, x_x-length, x_y-length, run-sized}
use Rattle.rules.proofs.Run.{ends_first, goes_on_exactly}
use Rattle.rules.proofs.Converged.{converged_exactly}
use Rattle.rules.proofs.Rotations.{run_bounded}
use Rattle.rules.proofs.Refusals.{accepted_if_none_holds, verdict_cases, run_unnumbered}
use Rattle.rules.proofs.Accepted.{accepted_as_read}
use Rattle.rules.proofs.OldContents.{required_work, required_cone, required_work_length, required_cone_length, solved_accepted}

-- ---- a buffer whose first places are x and the next ones y

record Starts (x y w : List Float) : Type 0 where
  rest : List Float
  is : w ≡ x ++ y ++ rest

starts_more : {x y w : List Float} → Starts x y w → (v : List Float) → Starts x y (w ++ v)
starts_more {x} {y} {w} s v = record { rest = s.rest ++ v; is = rw s.is (append_assoc (x ++ y) s.rest v) }

module _ (n m : ℕ) (x y w : List Float) (hx : length x ≡ n) (hy : length y ≡ m) (s : Starts x y w) where
  long_enough : n + m ≤ length w
  long_enough = rw s.is (omega (arith, length-append (x ++ y) s.rest, length-append x y))

  from_x : w ≡ x ++ (y ++ s.rest)
  from_x = s.is ∙ append_assoc x y s.rest

  x_part : solution_x n w ≡ x
  unfolding solution_x
  x_part = rw (le-leb n (length w) (omega (arith, long_enough))) (ap (take n) from_x ∙ take_at x (y ++ s.rest) n hx)

  y_part : solution_y m n w ≡ y
  unfolding solution_y
  y_part = rw (le-leb (n + m) (length w) long_enough) (ap (λ v. take m (drop n v)) from_x ∙ ap (take m) (drop_at x (y ++ s.rest) n hx) ∙ take_at y s.rest m hy)

-- ---- the row of an ending

record OnItsRow (e : Ending) : Type 0 where
  row : ℕ
  carried : List Float
  failed : Failure
  solution : Solution
  on_paper_lem : on_paper e ≡ ends row carried failed solution

on_its_row : (e : Ending) → number_of e ≡ 0 → OnItsRow e
on_its_row BadParam h = absurd (omega arith)
on_its_row TooLarge h = absurd (omega arith)
on_its_row InvalidOp h = absurd (omega arith)
on_its_row BadCone h = absurd (omega arith)
on_its_row NotFinite h = absurd (omega arith)
on_its_row WorkShortage h = absurd (omega arith)
on_its_row (Converged a b c) h = record { row = _; carried = _; failed = _; solution = _; on_paper_lem = refl }
on_its_row (ExcessIter a b c) h = record { row = _; carried = _; failed = _; solution = _; on_paper_lem = refl }
on_its_row (ExcessIterUnscaled a b) h = record { row = _; carried = _; failed = _; solution = _; on_paper_lem = refl }
on_its_row (Unbounded a) h = record { row = _; carried = _; failed = _; solution = _; on_paper_lem = refl }
on_its_row (Infeasible a) h = record { row = _; carried = _; failed = _; solution = _; on_paper_lem = refl }
on_its_row (ConeFailure b) h = record { row = _; carried = _; failed = _; solution = _; on_paper_lem = refl }

-- the block that an ending names is the one that failed
abbrev failure_of : OnPaper → Failure
failure_of (turned_away i) = none
failure_of (ends row carried failed solution) = failed

names_the_failure : (par : SolverParam) (k : ℕ) (failure : Failure) (criteria : Criteria) (x : Ending) → verdict par k failure criteria ≡ Ends x → failure_of (on_paper x) ≡ failure
names_the_failure par k failure criteria x h =
    verdict_cases (λ e. failure_of (on_paper e) ≡ failure) par k failure criteria x
    (record { failing = λ b f. sym f; converging = λ pri dual gap f c. (sym f, sym f); diverging = λ unbdd infeas f c. (sym f, sym f, sym f) })
    h

-- and the numbers that it carries are those of the step
abbrev CarriedOn : Criteria → OnPaper → Type 0
CarriedOn criteria (turned_away i) = Unit
CarriedOn criteria (ends row carried none solution) = CarriedAt criteria row carried
CarriedOn criteria (ends row carried (block b) solution) = Unit

carries_the_criteria : (par : SolverParam) (k : ℕ) (failure : Failure) (criteria : Criteria) (x : Ending) → verdict par k failure criteria ≡ Ends x → CarriedOn criteria (on_paper x)
carries_the_criteria par k failure criteria x h =
    verdict_cases (λ e. CarriedOn criteria (on_paper e)) par k failure criteria x
    (record {
      failing = λ b f. tt;
      converging = λ pri dual gap f c. (rw c (inl refl, refl), rw c (inr refl, refl));
      diverging = λ unbdd infeas f c. (rw c (inr (inl (refl, refl))), rw c (inr (inr (refl, refl))), rw c (inl (refl, refl)));
    })
    h

-- ---- what a run leaves at the front of work

whole_x : (n m : ℕ) (x : List Float) → x ≡ take n x ++ take m (drop n x) ++ drop (n + m) x
whole_x n m x =
    sym (append_assoc (take n x) (take m (drop n x)) (drop (n + m) x)
    ∙ ap (λ v. take n x ++ (take m (drop n x) ++ v)) (sym (drop-drop m n x))
    ∙ ap (λ v. take n x ++ v) (take-append-drop m (drop n x))
    ∙ take-append-drop n x)

zeros_parts : (n m k : ℕ) → n + m ≤ k → zeros k ≡ zeros n ++ zeros m ++ zeros (k - (n + m))
zeros_parts n m k h =
    let all : n + m + (k - (n + m)) ≡ k = omega arith in
    sym (ap (λ v. v ++ zeros (k - (n + m))) (replicate-append-replicate n m +0) ∙ replicate-append-replicate (n + m) (k - (n + m)) +0 ∙ ap zeros all)

module _ (p : Problem) (e : Ended) (h : Sized p e.state) where
  abbrev x : List Float
  x = e.state.x

  abbrev tau : Float
  tau = tau_of (embed p) x

  scaled_front : is_scaled e.ending ≡ true → Starts (scaled (reciprocal tau) (x_x (embed p) x)) (scaled (reciprocal tau) (x_y (embed p) x)) (final_x p e.ending x)
  unfolding final_x
  scaled_front is = record { rest = drop (p.n + p.m) x; is = rw is }

  unscaled_front : is_scaled e.ending ≡ false → Starts (x_x (embed p) x) (x_y (embed p) x) (final_x p e.ending x)
  unfolding final_x
  unscaled_front is = record { rest = drop (p.n + p.m) x; is = rw is (whole_x p.n p.m x) }

  laid_out_lem : {X Y : List Float} → Starts X Y (final_x p e.ending x) → Starts X Y (laid_out p e.ending e.state)
  laid_out_lem f =
      let s = e.state in
      starts_more (starts_more (starts_more (starts_more (starts_more f s.y) s.dp_tau) s.dp_sigma) s.rx) s.tx

  work_starts : (row : ℕ) (carried : List Float) (failed : Failure) (solution : Solution) → on_paper e.ending ≡ ends row carried failed solution → Starts (handed_back solution tau (x_x (embed p) x)) (handed_back solution tau (x_y (embed p) x)) (required_work p e)
  work_starts row carried failed times_1/tau is = rw is (laid_out_lem (scaled_front (rw is)))
  work_starts row carried failed unscaled is = rw is (laid_out_lem (unscaled_front (rw is)))
  work_starts row carried failed all_zero is =
      record {
        rest = zeros (work_length p.m p.n - (p.n + p.m));
        is = rw (is, x_x-length (embed p) x h.x, x_y-length (embed p) x h.x) (zeros_parts p.n p.m (work_length p.m p.n) (omega arith));
      }

  handed_length : (solution : Solution) (v : List Float) → length (handed_back solution tau v) ≡ length v
  handed_length times_1/tau v = scaled-length (reciprocal tau) v
  handed_length unscaled v = refl
  handed_length all_zero v = length-replicate (length v) +0

-- ---- what stops a step

stops_at : (p : Problem) (k : ℕ) (x : Ending) → k ≤ allowance p.par → verdict_at p k ≡ Ends x → StopsAt p k
stops_at p k x most says = by_failure (step p k).failure refl
  where
    by_test : (step p k).failure ≡ none → (t : Bool) → ending_test p (step p k).criteria ≡ t → StopsAt p k
    by_test f true e = test_holds e
    by_test f false e =
        allowance_met
        (by_less k (allowance p.par) (λ l.
        let on = (goes_on_exactly p k (step p k).failure (step p k).criteria).exactly.1 (f, e, l) in
        let z : ◌≡◌ {A = ℕ} 0 1 = cc in
        absurd (omega arith)) (λ l. omega arith))

    by_failure : (f : Failure) → (step p k).failure ≡ f → StopsAt p k
    by_failure (block b) f = cone_fails b f
    by_failure none f = by_test f (ending_test p (step p k).criteria) refl

goes_on_at : (p : Problem) (k : ℕ) → verdict_at p k ≡ GoesOn → GoesOnAt p k
goes_on_at p k on =
    let g = (goes_on_exactly p k (step p k).failure (step p k).criteria).exactly.0 on in
    record { no_cone_fails = g.0; no_test_holds = g.1; not_met = g.2 }

-- ---- an accepted run

left_work_is : (p : Problem) (work cone : List Float) (e : Ended) → (left_by p work cone e).work ≡ required_work p e ++ drop (work_length p.m p.n) work
unfolding left_by
left_work_is p work cone e = refl

left_cone_is : (p : Problem) (work cone : List Float) (e : Ended) → (left_by p work cone e).cone ≡ required_cone p e ++ drop (cone_work (blocks p)) cone
unfolding left_by
left_cone_is p work cone e = refl

pub left_answer_is : (p : Problem) (work cone : List Float) (e : Ended) → (left_by p work cone e).answer ≡ record { ending = e.ending; steps = e.steps; rotations = e.rotations }
unfolding left_by
left_answer_is p work cone e = refl

module _ (p : Problem) (work cone : List Float) (h : Sized p (run p).state) where
  r : OnItsRow (run p).ending
  r = on_its_row (run p).ending (run_unnumbered p)

  starts : Starts (handed_back r.solution (tau p (run p) h) (x_x (embed p) (run p).state.x)) (handed_back r.solution (tau p (run p) h) (x_y (embed p) (run p).state.x)) (left_by p work cone (run p)).work
  starts = rw (left_work_is p work cone (run p)) (starts_more (work_starts p (run p) h r.row r.carried r.failed r.solution r.on_paper_lem) (drop (work_length p.m p.n) work))

  first : EndsFirst p (run p)
  first = ends_first p

  x_handed : solution_x p.n (left_by p work cone (run p)).work ≡ handed_back r.solution (tau_after p (run p).steps) (x_x (embed p) (state_after p (run p).steps).x)
  x_handed =
      let X = x_x (embed p) (run p).state.x in
      let Y = x_y (embed p) (run p).state.x in
      let t = tau p (run p) h in
      rw (← first.state_there)
      (x_part p.n p.m (handed_back r.solution t X) (handed_back r.solution t Y) (left_by p work cone (run p)).work (handed_length p (run p) h r.solution X ∙ x_x-length (embed p) (run p).state.x h.x) (handed_length p (run p) h r.solution Y ∙ x_y-length (embed p) (run p).state.x h.x) starts)

  y_handed : solution_y p.m p.n (left_by p work cone (run p)).work ≡ handed_back r.solution (tau_after p (run p).steps) (x_y (embed p) (state_after p (run p).steps).x)
  y_handed =
      let X = x_x (embed p) (run p).state.x in
      let Y = x_y (embed p) (run p).state.x in
      let t = tau p (run p) h in
      rw (← first.state_there)
      (y_part p.n p.m (handed_back r.solution t X) (handed_back r.solution t Y) (left_by p work cone (run p)).work (handed_length p (run p) h r.solution X ∙ x_x-length (embed p) (run p).state.x h.x) (handed_length p (run p) h r.solution Y ∙ x_y-length (embed p) (run p).state.x h.x) starts)

  front : (take (work_length p.m p.n) (left_by p work cone (run p)).work ≡ required_work p (run p)) × (take (cone_work (blocks p)) (left_by p work cone (run p)).cone ≡ required_cone p (run p))
  front = (
    rw (left_work_is p work cone (run p)) (take_at (required_work p (run p)) (drop (work_length p.m p.n) work) (work_length p.m p.n) (required_work_length p (run p) h)),
    rw (left_cone_is p work cone (run p)) (take_at (required_cone p (run p)) (drop (cone_work (blocks p)) cone) (cone_work (blocks p)) (required_cone_length p (run p) h)),
  )

  all_laid : is_cone_failure (run p).ending ≡ false → (take (work_length p.m p.n) (left_by p work cone (run p)).work ≡ laid_out p (run p).ending (state_after p (run p).steps)) × (take (cone_work (blocks p)) (left_by p work cone (run p)).cone ≡ (state_after p (run p).steps).cone)
  all_laid held = (rw (← first.state_there) (front.0 ∙ rw held), rw (← first.state_there) (front.1 ∙ rw held))

  all_zeroed : is_cone_failure (run p).ending ≡ true → (take (work_length p.m p.n) (left_by p work cone (run p)).work ≡ zeros (work_length p.m p.n)) × (take (cone_work (blocks p)) (left_by p work cone (run p)).cone ≡ zeros (cone_work (blocks p)))
  all_zeroed failed = (front.0 ∙ rw failed, front.1 ∙ rw failed)

  answered : AnsweredByTheRules p (left_by p work cone (run p)).answer (left_by p work cone (run p)).work (left_by p work cone (run p)).cone
  answered =
      let k = (run p).steps in
      rw (left_answer_is p work cone (run p))
      (record {
        at_least_one = first.at_least_one;
        at_most = first.at_most;
        stops_there = stops_at p k (run p).ending first.at_most first.ends_there;
        goes_on_before = λ j l b. goes_on_at p j (first.not_before j l b);
        says = first.ends_there;
        row = r.row;
        carried = r.carried;
        failed = r.failed;
        solution = r.solution;
        on_paper_lem = r.on_paper_lem;
        carried_there = λ f. rw f at (rw r.on_paper_lem at (carries_the_criteria p.par k (step p k).failure (step p k).criteria (run p).ending first.ends_there));
        failed_there = sym (ap failure_of r.on_paper_lem) ∙ names_the_failure p.par k (step p k).failure (step p k).criteria (run p).ending first.ends_there;
        converged = (converged_exactly p).exactly;
        counts = first.counts;
        bounded = run_bounded p;
        x_back = x_handed;
        y_back = y_handed;
        laid = all_laid;
        zeroed = all_zeroed;
      })

-- Where no fact of the table holds, what the solver answers and leaves is as demanded.
pub accepted_runs_as_demanded : (p : Problem) (work cone : List Float) (answer : Answer) (work' cone' : List Float) → SolveOutcome p work cone answer work' cone' → NoneHolds (facts p (length work) (length cone)) → AnsweredByTheRules (read_problem p) answer work' cone'
accepted_runs_as_demanded p work cone answer work' cone' o none_holds =
    let q = read_problem p in
    let e = accepted_if_none_holds p (length work) (length cone) none_holds in
    let s : Sized q (run q).state = run-sized q (accepted_as_read p (length work) (length cone) e).fitting in
    rw (o.answered, o.work_left, o.cone_left, solved_accepted p work cone e) (answered q work cone s)
