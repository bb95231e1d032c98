-- Laws of a progress record, step by step.
use Prim.Native.Nat.{ℕ, zero, suc, ◌+◌, ◌≤◌}
use native.Mathlib.Omega.{arith}
use mathlib.Core.Path.{◌≡◌, refl, ◌∙◌, ap}
use mathlib.Core.Bool.{Bool, true, false, ◌&&◌}
use mathlib.Core.List.{List}
use lib.Ieee.{Float}
use Rattle.rules.specs.declared.Norms.{Norms}
use Rattle.rules.specs.Product.{is_none}
use Rattle.rules.specs.Problem.{Problem, embed}
use Rattle.rules.specs.Step.{State}
use Rattle.rules.specs.Criteria.{tau_of}
use Rattle.rules.specs.Run.{WholeStep, whole_step, state_from}
use Rattle.rules.specs.Progress.{is_due, row_of, Log, row_fits, row_put, log_row, log_step, log_from}
use Rattle.rules.proofs.Run.{step_from_lem, state_from_lem, no_steps}

-- ---- one step

module _ (p : Problem) (k : ℕ) (t : WholeStep) (log : Log) where
  -- a step that is not due, or at which a cone fails
  pub step_without_row : is_due p.par.log_period k && is_none t.failure ≡ false → log_step p k t log ≡ log
  unfolding log_step
  step_without_row e = rw e

  pub step_with_row : is_due p.par.log_period k && is_none t.failure ≡ true → log_step p k t log ≡ log_row (row_of (tau_of (embed p) t.state.x) t.criteria) log
  unfolding log_step
  step_with_row e = rw e

module _ (row : List Float) (log : Log) where
  pub row_written : row_fits log.written log.places ≡ true → log_row row log ≡ record { places = row_put log.written row log.places; written = log.written + 1; dropped = log.dropped }
  unfolding log_row
  row_written e = rw e

  pub row_dropped : row_fits log.written log.places ≡ false → log_row row log ≡ record { places = log.places; written = log.written; dropped = log.dropped + 1 }
  unfolding log_row
  row_dropped e = rw e

  -- a row more, or one dropped more
  row_counted : (log_row row log).written + (log_row row log).dropped ≡ log.written + log.dropped + 1
  row_counted = go (row_fits log.written log.places) refl
    where
      go : (b : Bool) → row_fits log.written log.places ≡ b → (log_row row log).written + (log_row row log).dropped ≡ log.written + log.dropped + 1
      go true e = rw (row_written e) (omega arith)
      go false e = rw (row_dropped e) (omega arith)

step-counted : (p : Problem) (k : ℕ) (t : WholeStep) (log : Log) → (log_step p k t log).written + (log_step p k t log).dropped ≤ log.written + log.dropped + 1
step-counted p k t log = go (is_due p.par.log_period k && is_none t.failure) refl
  where
    go : (b : Bool) → is_due p.par.log_period k && is_none t.failure ≡ b → (log_step p k t log).written + (log_step p k t log).dropped ≤ log.written + log.dropped + 1
    go true e = rw (step_with_row p k t log e) (omega (arith, row_counted (row_of (tau_of (embed p) t.state.x) t.criteria) log))
    go false e = rw (step_without_row p k t log e) (omega arith)

-- ---- steps from any state

module _ (p : Problem) (ns : Norms) (k : ℕ) (s : State) (log : Log) where
  pub log_none : log_from p ns k s log 0 ≡ log
  unfolding log_from
  log_none = refl

  pub log_more : (i : ℕ) → log_from p ns k s log (suc i) ≡ log_step p (k + suc i) (whole_step p ns (state_from p ns s i)) (log_from p ns k s log i)
  unfolding log_from
  log_more i = refl

  -- no more rows than steps
  pub few_rows : (i : ℕ) → (log_from p ns k s log i).written + (log_from p ns k s log i).dropped ≤ log.written + log.dropped + i
  few_rows zero = rw log_none (omega arith)
  few_rows (suc i) = rw (log_more i) (omega (arith, step-counted p (k + suc i) (whole_step p ns (state_from p ns s i)) (log_from p ns k s log i), few_rows i))

-- ---- however steps are cut

module _ (p : Problem) (ns : Norms) (s : State) where
  one_more : (i : ℕ) → state_from p ns s (suc i) ≡ (whole_step p ns (state_from p ns s i)).state
  one_more i = state_from_lem p ns s i ∙ ap (λ t. t.state) (step_from_lem p ns s i)

module _ (p : Problem) (ns : Norms) (s : State) where
  states_join : (a b : ℕ) → state_from p ns s (a + b) ≡ state_from p ns (state_from p ns s a) b
  states_join a zero =
      let e : a + 0 ≡ a = omega arith in
      rw (e, no_steps p ns (state_from p ns s a))
  states_join a (suc b) =
      let e : a + suc b ≡ suc (a + b) = omega arith in
      rw (e, one_more p ns s (a + b), one_more p ns (state_from p ns s a) b, states_join a b)

  -- The record of a steps and then of b more is that of them all.
  pub logs_join : (k : ℕ) (log : Log) (a b : ℕ) → log_from p ns k s log (a + b) ≡ log_from p ns (k + a) (state_from p ns s a) (log_from p ns k s log a) b
  logs_join k log a zero =
      let e : a + 0 ≡ a = omega arith in
      rw (e, log_none p ns (k + a) (state_from p ns s a) (log_from p ns k s log a))
  logs_join k log a (suc b) =
      let e : a + suc b ≡ suc (a + b) = omega arith in
      let i : k + suc (a + b) ≡ k + a + suc b = omega arith in
      rw (e, log_more p ns k s log (a + b), log_more p ns (k + a) (state_from p ns s a) (log_from p ns k s log a) b, i, states_join a b, logs_join k log a b)
