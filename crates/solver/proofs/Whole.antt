-- A run that starts in vectors at zero and a cone work that was cleared is the rule's run.
use Prim.Native.Nat.{ℕ}
use native.Mathlib.Omega.{arith}
use mathlib.Core.Path.{◌≡◌, refl, sym, ◌∙◌}
use mathlib.Core.Bool.{Bool, true, false, cond}
use mathlib.Core.List.{List, ◌++◌}
use borrow.Author.Tests.{eq-eqb}
use lib.Ieee.{Float}
use Rattle.std.specs.Prelude.{Option, Some}
use Rattle.std.specs.Option.{is_some, unwrap_or}
use lib.ListN.{length, drop, length-replicate}
use Rattle.rules.specs.declared.Logged.{Logged}
use Rattle.rules.specs.Arithmetic.{+0}
use Rattle.rules.specs.Blocks.{has_bad_word, blocks_of, total_places, is_bad_cone}
use Rattle.rules.specs.Product.{cone_work}
use Rattle.rules.specs.Problem.{Problem, Slices, embed, problem_in, blocks, length_x, length_y, work_length}
use Rattle.rules.specs.declared.Ending.{Ending}
use Rattle.rules.specs.declared.Ending.TheVariants.{ConeFailure}
use Rattle.rules.specs.declared.Norms.{Norms}
use Rattle.rules.specs.declared.Shape.{Shape}
use Rattle.rules.specs.declared.SolverParam.{SolverParam}
use Rattle.rules.specs.Prepare.{norms, prepared, prepared_norms, zeros}
use Rattle.rules.specs.Run.{Verdict, GoesOn, Ends, ending_of, Piece, ended_by, run, laid_out, is_cone_failure}
use Rattle.rules.specs.Progress.{Log, log_after}
use Rattle.rules.proofs.Run.{run_is}
use Rattle.rules.proofs.Parts.{from_start}
use Rattle.rules.proofs.Lengths.{prepared-sized}
use Rattle.shape.specs.Fitting.{LikeX, LikeY}
use Rattle.precond.specs.Precond.{Covers}
use Rattle.prepare.specs.Prepare.{prepare_fits, PreparedOutcome}
use Rattle.prepare.proofs.Outcomes.{PreparedBy, prepared_where_fits}
use Rattle.step.specs.Update.{state_of, step_fits, StepReady}
use Rattle.iterate.specs.declared.Iterated.{Iterated}
use Rattle.iterate.specs.Iterate.{piece_of, record_of, counts_of, IterateOutcome}
use Rattle.iterate.proofs.Outcomes.{RanBy, ran_where_fits}
use Rattle.settle.specs.Settle.{Settled, SettleOutcome}
use Rattle.settle.proofs.Settled.{settled_if_fitting}
use Rattle.settle.proofs.Parted.{final_finished}
use Rattle.solver.specs.Solve.{Ready, Lent, AtZero, answer_of, logged_by, answer_by, RanIn}

good_list : (words : List ℕ) (m : ℕ) → has_bad_word words ≡ false → total_places (blocks_of words) ≡ m → is_bad_cone words m ≡ false
unfolding is_bad_cone
good_list words m readable places = rw (readable, eq-eqb (total_places (blocks_of words)) m places)

-- ---- the six vectors at zero

module _ {shape : Shape} {x y dp_tau dp_sigma rx tx : List Float} (z : AtZero shape x y dp_tau dp_sigma rx tx) where
  pub zero_x : LikeX shape x
  zero_x = record { is = rw z.x_zero (length-replicate (length_x shape.rows.0 shape.cols.0) +0) }

  pub zero_y : LikeY shape y
  zero_y = record { is = rw z.y_zero (length-replicate (length_y shape.rows.0 shape.cols.0) +0) }

  pub zero_tau : LikeX shape dp_tau
  zero_tau = record { is = rw z.tau_zero (length-replicate (length_x shape.rows.0 shape.cols.0) +0) }

  pub zero_sigma : LikeY shape dp_sigma
  zero_sigma = record { is = rw z.sigma_zero (length-replicate (length_y shape.rows.0 shape.cols.0) +0) }

  pub zero_rx : LikeX shape rx
  zero_rx = record { is = rw z.rx_zero (length-replicate (length_x shape.rows.0 shape.cols.0) +0) }

  pub zero_tx : LikeX shape tx
  zero_tx = record { is = rw z.tx_zero (length-replicate (length_x shape.rows.0 shape.cols.0) +0) }

pub cleared_long : {shape : Shape} {c : List Float} {a : Slices} {b : List Float} {words : List ℕ} {par : SolverParam} {work cone cone' : List Float} → Lent shape c a b words par work cone → cone' ≡ zeros (length cone) → length cone' ≡ cone_work (blocks_of words)
cleared_long {cone = cone} l e = rw e (length-replicate (length cone) +0) ∙ l.cone_long

-- ---- before the first step

pub covers : {shape : Shape} {c : List Float} {a : Slices} {b : List Float} {words : List ℕ} {par : SolverParam} → Ready shape c a b words par → Covers shape words
covers {shape} {words = words} r = record { is = good_list words shape.rows.0 r.readable r.places }

module _ {shape : Shape} {c : List Float} (a : Slices) {b : List Float} {words : List ℕ} {par : SolverParam} {x y dp_tau dp_sigma rx tx : List Float} {answer : Option Norms} {x' y' dp_tau' dp_sigma' : List Float} (z : AtZero shape x y dp_tau dp_sigma rx tx) (q : PreparedBy (problem_in shape c a b words par) x y dp_tau answer x' y' dp_tau' dp_sigma') where
  abbrev p : Problem
  p = problem_in shape c a b words par

  pub prepared_is : (cone : List Float) → cone ≡ zeros (cone_work (blocks p)) → state_of x' y' dp_tau' dp_sigma' rx tx cone ≡ prepared p
  unfolding prepared
  prepared_is cone e = rw (q.x_is, q.y_is, q.tau_is, q.sigma_is, z.x_zero, z.y_zero, z.tau_zero, z.rx_zero, z.tx_zero, e)

  state_start : state_of x' y' dp_tau' dp_sigma' rx tx (zeros (cone_work (blocks p))) ≡ prepared p
  state_start = prepared_is (zeros (cone_work (blocks p))) refl

  prepared_x : LikeX shape x'
  prepared_x = record { is = (rw (← state_start) at (prepared-sized p)).x }

  prepared_y : LikeY shape y'
  prepared_y = record { is = (rw (← state_start) at (prepared-sized p)).y }

  prepared_tau : LikeX shape dp_tau'
  prepared_tau = record { is = (rw (← state_start) at (prepared-sized p)).dp_tau }

  prepared_sigma : LikeY shape dp_sigma'
  prepared_sigma = record { is = (rw (← state_start) at (prepared-sized p)).dp_sigma }

  pub ready_to_step : {work cone cone' : List Float} → Lent shape c a b words par work cone → cone' ≡ zeros (length cone) → StepReady par shape c a b words (state_of x' y' dp_tau' dp_sigma' rx tx cone')
  ready_to_step l e =
      let r = l.ready in
      record {
        operators = r.operators;
        cones = record { within = r.operators.m_within; readable = r.readable; places = r.places; sweeps = r.sweeps; enough = omega (arith, cleared_long l e) };
        x_like = prepared_x;
        y_like = prepared_y;
        tau_like = prepared_tau;
        sigma_like = prepared_sigma;
        rx_like = zero_rx z;
        tx_like = zero_tx z;
      }

  -- the piece from there, with all of the allowance, is the whole run
  whole_run : {work cone cone' : List Float} {ns : Norms} → Lent shape c a b words par work cone → cone' ≡ zeros (length cone) → ns ≡ norms (embed p) x → run p ≡ ended_by (piece_of p ns 0 p.par.max_iter (state_of x' y' dp_tau' dp_sigma' rx tx cone'))
  whole_run {cone' = cone'} {ns} l e n =
      let from : state_of x' y' dp_tau' dp_sigma' rx tx cone' ≡ prepared p = prepared_is cone' (e ∙ rw l.cone_long) in
      let start : ns ≡ prepared_norms p = n ∙ rw z.x_zero in
      rw (from, start) (run_is p)

  -- .. and its record that of the run
  whole_log : {work cone cone' : List Float} {ns : Norms} (log : List Float) → Lent shape c a b words par work cone → cone' ≡ zeros (length cone) → ns ≡ norms (embed p) x → record_of p ns 0 p.par.max_iter (state_of x' y' dp_tau' dp_sigma' rx tx cone') log ≡ log_after p log (run p).steps
  whole_log {cone' = cone'} {ns} log l e n =
      let from : state_of x' y' dp_tau' dp_sigma' rx tx cone' ≡ prepared p = prepared_is cone' (e ∙ rw l.cone_long) in
      let start : ns ≡ prepared_norms p = n ∙ rw z.x_zero in
      rw (from, start, run_is p, from_start (piece_of p (prepared_norms p) 0 p.par.max_iter (prepared p)).steps)

-- ---- after the last step

module _ {p : Problem} {e : Piece} {r : Log} {ran : Option Iterated} {answer : Logged} {x y dp_tau dp_sigma rx tx cone work log x' work' cone' log' : List Float} (whole : run p ≡ ended_by e) (logged : r ≡ log_after p log (run p).steps) (i : RanBy e r ran (state_of x y dp_tau dp_sigma rx tx cone) log') (same : answer ≡ answer_by e.said e.steps e.rotations (counts_of r)) (n : length cone ≡ cone_work (blocks p)) (b : Settled p.m p.n x y dp_tau dp_sigma rx tx work answer.answer.ending cone x' work' cone') where
  ran_in : RanIn p work log answer work' cone' log'
  ran_in = go (is_cone_failure (run p).ending) refl
    where
      answered_is : answer ≡ record { answer = answer_of (run p); written = (log_after p log (run p).steps).written; dropped = (log_after p log (run p).steps).dropped }
      answered_is = same ∙ (λ j. record { answer = answer_of (sym whole j); written = (logged j).written; dropped = (logged j).dropped })

      ending_is : answer.answer.ending ≡ (run p).ending
      ending_is = rw answered_is

      log_is : log' ≡ (log_after p log (run p).steps).places
      log_is = i.log_is ∙ (λ j. (logged j).places)

      w' : work' ≡ cond (is_cone_failure (run p).ending) (zeros (work_length p.m p.n)) (laid_out p (run p).ending (state_of x y dp_tau dp_sigma rx tx cone)) ++ drop (work_length p.m p.n) work
      w' = rw (final_finished p (run p).ending x) (rw ending_is at b.work_is)

      k' : cone' ≡ cond (is_cone_failure (run p).ending) (zeros (length cone)) cone
      k' = rw ending_is at b.cone_is

      go : (t : Bool) → is_cone_failure (run p).ending ≡ t → RanIn p work log answer work' cone' log'
      go true f = record { answered = answered_is; work_is = rw f (rw f at w'); cone_is = rw f (rw (f, n) at k'); log_is = log_is }
      go false f =
          let s : state_of x y dp_tau dp_sigma rx tx cone ≡ (run p).state = rw whole (i.state_is (rw whole at f)) in
          record { answered = answered_is; work_is = rw (f, ← s) (rw f at w'); cone_is = rw (f, ← s) (rw f at k'); log_is = log_is }

-- ---- all of it: cleared, prepared, stepped and settled

once : {A : Type 0} {v w : A} → Some v ≡ Some w → v ≡ w
once e = cc

-- the ending, where none stands for that of a piece that has none
ended : (said : Verdict) → unwrap_or said (ConeFailure 0) ≡ ending_of said
ended GoesOn = refl
ended (Ends e) = refl

module _ {shape : Shape} {c : List Float} {a : Slices} {b : List Float} {words : List ℕ} {par : SolverParam} {x y tau sigma rx tx : List Float} {prepared_as : Option Norms} {x₁ y₁ tau₁ sigma₁ work cone : List Float} (lent : Lent shape c a b words par work cone) (z : AtZero shape x y tau sigma rx tx) (prepares : PreparedOutcome (prepare_fits shape c a b words x y tau sigma) (problem_in shape c a b words par) x y tau sigma prepared_as x₁ y₁ tau₁ sigma₁) where
  prepared_by : PreparedBy (problem_in shape c a b words par) x y tau prepared_as x₁ y₁ tau₁ sigma₁
  prepared_by = let r = lent.ready in prepared_where_fits prepares r.operators (covers r) (zero_x z) (zero_y z) (zero_tau z) (zero_sigma z)

  pub run_prepares : is_some prepared_as ≡ true
  run_prepares = rw prepared_by.answer_is

  module _ {ns : Norms} (norms_are : prepared_as ≡ Some ns) {cone₁ : List Float} (cleared : cone₁ ≡ zeros (length cone)) {ran_as : Option Iterated} {x₂ y₂ rx₂ tx₂ cone₂ log log' : List Float}
      (steps : IterateOutcome (step_fits par shape c a b words (state_of x₁ y₁ tau₁ sigma₁ rx tx cone₁)) (problem_in shape c a b words par) ns 0 par.max_iter (state_of x₁ y₁ tau₁ sigma₁ rx tx cone₁) log ran_as (state_of x₂ y₂ tau₁ sigma₁ rx₂ tx₂ cone₂) log') where
    abbrev all : Piece
    all = piece_of (problem_in shape c a b words par) ns 0 par.max_iter (state_of x₁ y₁ tau₁ sigma₁ rx tx cone₁)

    ran_by : RanBy all (record_of (problem_in shape c a b words par) ns 0 par.max_iter (state_of x₁ y₁ tau₁ sigma₁ rx tx cone₁) log) ran_as (state_of x₂ y₂ tau₁ sigma₁ rx₂ tx₂ cone₂) log'
    ran_by = ran_where_fits steps (ready_to_step a z prepared_by lent cleared)

    pub run_iterates : is_some ran_as ≡ true
    run_iterates = rw ran_by.answer_is

    pub run-whole : {ran : Iterated} → ran_as ≡ Some ran → {ending : Ending} → ending ≡ unwrap_or ran.said (ConeFailure 0) → {fits : Bool} {x₃ work' cone' : List Float}
        → SettleOutcome shape.rows.0 shape.cols.0 x₂ y₂ tau₁ sigma₁ rx₂ tx₂ work ending cone₂ fits x₃ work' cone'
        → length x₂ ≡ length x₁ → length y₂ ≡ length y₁ → length rx₂ ≡ length rx → length tx₂ ≡ length tx → length cone₂ ≡ length cone₁
        → RanIn (problem_in shape c a b words par) work log (logged_by ending ran.steps ran.rotations ran.rows) work' cone' log'
    run-whole {ran} ran_is {ending} ending_is settles kept_x kept_y kept_rx kept_tx kept_cone =
        let r = lent.ready in
        let q = prepared_by in
        let norms_is = once (sym norms_are ∙ q.answer_is) in
        let same = once (sym ran_is ∙ ran_by.answer_is) in
        let answered : logged_by ending ran.steps ran.rotations ran.rows ≡ logged_by (ending_of all.said) all.steps all.rotations _ = rw (ending_is, same, ended all.said) in
        ran_in (whole_run a z q lent cleared norms_is) (whole_log a z q log lent cleared norms_is) ran_by answered (kept_cone ∙ cleared_long lent cleared) (settled_if_fitting
        (record {
          m_within = r.operators.m_within;
          n_within = r.operators.n_within;
          x_long = kept_x ∙ (prepared_x a z q).is;
          y_long = kept_y ∙ (prepared_y a z q).is;
          tau_long = (prepared_tau a z q).is;
          sigma_long = (prepared_sigma a z q).is;
          rx_long = kept_rx ∙ (zero_rx z).is;
          tx_long = kept_tx ∙ (zero_tx z).is;
          work_long = lent.work_long;
        })
        settles)
