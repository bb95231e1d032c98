-- A run reads no log_period: with any other it is the same, but for its record.
use Prim.Native.Nat.{ℕ, zero, suc, ◌+◌}
use mathlib.Core.Path.{◌≡◌, refl, sym, ◌∙◌, ap}
use mathlib.Core.Bool.{Bool}
use mathlib.Core.List.{List, [], ◌∷◌}
use lib.Ieee.{Float}
use lib.ListN.{length, take, drop}
use Rattle.rules.specs.declared.Cone.{Cone}
use Rattle.rules.specs.declared.Cone.TheVariants.{Zero, RPos, SOC, RotSOC, PSD}
use Rattle.rules.specs.declared.Criteria.{Criteria}
use Rattle.rules.specs.declared.Criteria.TheVariants.{Conv, Inf}
use Rattle.rules.specs.declared.Norms.{Norms}
use Rattle.rules.specs.declared.SolverParam.{SolverParam}
use Rattle.rules.specs.Parameters.{with_log_period}
use Rattle.rules.specs.Blocks.{places}
use Rattle.rules.specs.Projections.{proj_psd, proj_block}
use Rattle.rules.specs.Product.{Failure, none, block, Passed, proj_all}
use Rattle.rules.specs.Problem.{Problem, embed}
use Rattle.rules.specs.Step.{State, Stepped, moved_x, projected, tau_taken, moved_y, updated}
use Rattle.rules.specs.Criteria.{judged}
use Rattle.rules.specs.Prepare.{prepared, prepared_norms}
use Rattle.rules.specs.Run.{Verdict, WholeStep, whole_step, verdict, allowance, Piece, going_on, piece_from, Ended, Left, run, left_by}
use Rattle.rules.specs.Refusals.{bad_param, too_large, invalid_op, bad_cone, not_finite, work_shortage, facts, read_problem, solved}
use Rattle.rules.specs.Split.{SplitProblem, joined_problem, invalid_split, split_facts, split_solved}
use Rattle.rules.specs.Progress.{Log, with_log, logged_solved, split_logged_solved}
use Rattle.rules.specs.Demands.{with_period, with_split_period, SameButForTheLog}
use Rattle.rules.proofs.Run.{piece_more, piece_none, run_is}
use Rattle.rules.proofs.Refusals.{solved_is}
use Rattle.rules.proofs.SplitRuns.{split_solved_is}
use Rattle.rules.proofs.LoggedRuns.{logged_is, split_logged_is}

-- ---- what is handed the parameters as a whole

module _ (par : SolverParam) (period : ℕ) where
  same_semidefinite : (n : ℕ) (x work : List Float) → proj_psd (with_log_period par period) n x work ≡ proj_psd par n x work
  unfolding proj_psd
  same_semidefinite n x work = refl

  same_block : (dual : Bool) (b : Cone) (x work : List Float) → proj_block (with_log_period par period) dual b x work ≡ proj_block par dual b x work
  unfolding proj_block
  same_block dual (Zero size) x work = refl
  same_block dual (RPos size) x work = refl
  same_block dual (SOC size) x work = refl
  same_block dual (RotSOC size) x work = refl
  same_block dual (PSD order) x work = same_semidefinite order x work

  same_pass : (dual : Bool) (bs : List Cone) (x work : List Float) → proj_all (with_log_period par period) dual bs x work ≡ proj_all par dual bs x work
  unfolding proj_all
  same_pass dual [] x work = refl
  same_pass dual (b ∷ bs) x work =
      rw (same_block dual b (take (places b) x) work, same_pass dual bs (drop (places b) x) (proj_block par dual b (take (places b) x) work).work)

  same_verdict : (k : ℕ) (failure : Failure) (criteria : Criteria) → verdict (with_log_period par period) k failure criteria ≡ verdict par k failure criteria
  unfolding verdict
  same_verdict k (block b) criteria = refl
  same_verdict k none (Conv pri dual gap) = refl
  same_verdict k none (Inf unbdd infeas) = refl

-- ---- one step

-- what a step makes of the way in which it projects, and what its criteria make of that
abbrev step_by : Problem → (List Float → List Float → Passed) → State → Stepped
step_by p project s =
    let s' = moved_x p s in
    let q = project s'.x s'.cone in
    let taken : State =
    record {
      x = tau_taken p q.cone;
      y = s'.y;
      dp_tau = s'.dp_tau;
      dp_sigma = s'.dp_sigma;
      rx = s'.rx;
      tx = s'.tx;
      cone = q.work;
    } in
    record { state = moved_y p taken; rotations = q.rotations; failure = q.failure }

abbrev judged_step : Problem → Norms → Stepped → WholeStep
judged_step p ns u =
    let v = u.state in
    let j = judged (embed p) p.par.eps_zero ns v.x v.rx in
    let after : State =
    record { x = v.x; y = v.y; dp_tau = v.dp_tau; dp_sigma = v.dp_sigma; rx = j.rx; tx = v.tx; cone = v.cone } in
    record { state = after; rotations = u.rotations; failure = u.failure; criteria = j.criteria }

goes_same : {v v' : Verdict} {rest rest' : Piece} → v ≡ v' → rest ≡ rest' → (k q : ℕ) (s : State) → going_on v rest k q s ≡ going_on v' rest' k q s
goes_same e f k q s = λ i. going_on (e i) (f i) k q s

module _ (p : Problem) (period : ℕ) where
  abbrev other : Problem
  other = with_period period p

  same_projected : (x cone : List Float) → projected other x cone ≡ projected p x cone
  unfolding projected
  same_projected x cone = simp (same_pass p.par period)

  same_updated : (s : State) → updated other s ≡ updated p s
  unfolding updated
  same_updated s = λ i. step_by p (λ x cone. same_projected x cone i) s

  same_step : (ns : Norms) (s : State) → whole_step other ns s ≡ whole_step p ns s
  unfolding whole_step
  same_step ns s = λ i. judged_step p ns (same_updated s i)

  -- ---- a run

  same_piece : (given : ℕ) (ns : Norms) (k q : ℕ) (s : State) → piece_from given other ns k q s ≡ piece_from given p ns k q s
  same_piece zero ns k q s = piece_none other ns k q s ∙ sym (piece_none p ns k q s)
  same_piece (suc more) ns k q s =
      let t = whole_step p ns s in
      piece_more other ns more k q s t (sym (same_step ns s))
      ∙ goes_same (same_verdict p.par period (k + 1) t.failure t.criteria) (same_piece more ns (k + 1) (q + t.rotations) t.state) (k + 1) (q + t.rotations) t.state
      ∙ sym (piece_more p ns more k q s t refl)

  same_prepared : prepared other ≡ prepared p
  unfolding prepared
  same_prepared = refl

  same_run : run other ≡ run p
  same_run =
      run_is other
      ∙ rw (same_prepared, same_piece (allowance p.par) (prepared_norms p) 0 0 (prepared p)) (sym (run_is p))

  same_left : (work cone : List Float) (e : Ended) → left_by other work cone e ≡ left_by p work cone e
  unfolding left_by
  same_left work cone e = refl

  -- ---- a problem

  read_so : read_problem other ≡ with_period period (read_problem p)
  unfolding read_problem
  read_so = refl

  same_facts : (work cone : ℕ) → facts other work cone ≡ facts p work cone
  unfolding bad_param too_large invalid_op bad_cone not_finite work_shortage
  same_facts work cone = refl

-- what it leaves where it is accepted
same_ran : (p : Problem) (period : ℕ) (work cone : List Float) → left_by (read_problem (with_period period p)) work cone (run (read_problem (with_period period p))) ≡ left_by (read_problem p) work cone (run (read_problem p))
same_ran p period work cone =
    let q = read_problem p in
    rw (read_so p period, same_run q period) (same_left q period work cone (run q))

-- Answer and both buffers are those of any other period.
pub any_period : (p : Problem) (period : ℕ) (work cone : List Float) → solved (with_period period p) work cone ≡ solved p work cone
any_period p period work cone =
    solved_is (with_period period p) work cone
    ∙ rw (same_facts p period (length work) (length cone), same_ran p period work cone) (sym (solved_is p work cone))

-- the same of a problem whose A stands in two slices
same_split_facts : (p : SplitProblem) (period work cone : ℕ) → split_facts (with_split_period period p) work cone ≡ split_facts p work cone
unfolding bad_param too_large invalid_split bad_cone not_finite work_shortage
same_split_facts p period work cone = refl

pub any_split_period : (p : SplitProblem) (period : ℕ) (work cone : List Float) → split_solved (with_split_period period p) work cone ≡ split_solved p work cone
any_split_period p period work cone =
    split_solved_is (with_split_period period p) work cone
    ∙ rw (same_split_facts p period (length work) (length cone), same_ran (joined_problem p) period work cone) (sym (split_solved_is p work cone))

-- ---- with a record

same_but_for : (one other : Left) (log log' : Log) → one ≡ other → SameButForTheLog (with_log one log) (with_log other log')
same_but_for one other log log' e = record { answer = ap (λ l. l.answer) e; work = ap (λ l. l.work) e; cone = ap (λ l. l.cone) e }

-- Neither the period nor the third buffer alters anything but the record.
pub neither_period_nor_log_alters : (p : Problem) (period period' : ℕ) (work cone log log' : List Float) → SameButForTheLog (logged_solved (with_period period p) work cone log) (logged_solved (with_period period' p) work cone log')
neither_period_nor_log_alters p period period' work cone log log' =
    let same = any_period p period work cone ∙ sym (any_period p period' work cone) in
    rw (logged_is (with_period period p) work cone log, logged_is (with_period period' p) work cone log') (same_but_for _ _ _ _ same)

pub split_neither_period_nor_log_alters : (p : SplitProblem) (period period' : ℕ) (work cone log log' : List Float) → SameButForTheLog (split_logged_solved (with_split_period period p) work cone log) (split_logged_solved (with_split_period period' p) work cone log')
split_neither_period_nor_log_alters p period period' work cone log log' =
    let same = any_split_period p period work cone ∙ sym (any_split_period p period' work cone) in
    rw (split_logged_is (with_split_period period p) work cone log, split_logged_is (with_split_period period' p) work cone log') (same_but_for _ _ _ _ same)
