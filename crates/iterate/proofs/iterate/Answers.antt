-- `iterate::iterate` meets its contract.
use native.Mathlib.Omega.{arith}
use mathlib.Core.Path.{refl, sym, ◌∙◌}
use mathlib.Core.Bool.{true≢false}
use Rattle.iterate.proofs.Outcomes.{going_start, step_refused, rows_before, step_counts, step_stops, step_more}
use Rattle.iterate.proofs.iterate.Goals as goal
use Rattle.iterate.proofs.iterate.Goals.{then-is_some-via-then-is_some, then-is_some-via-else-is_some+then-left-le1}

pub loop-step-init : goal.loop-step-init
loop-step-init c = rw c.from-k.ensures (going_start _ _ _ _ _ _ _ _ _ _ _)

pub returns-in_err-step : goal.returns-in_err-step
returns-in_err-step c = rw c.from_residual.ensures (step_refused c.loop-step.invariant c.whole_step.ensures c.in_err-step.was)

pub log_step-rows-requires-clause-dropped_bound : goal.log_step-rows-requires-clause-dropped_bound
log_step-rows-requires-clause-dropped_bound c = rows_before c.loop-step.invariant c.whole_step.ensures

pub overflow_add-rotations : goal.overflow_add-rotations
overflow_add-rotations c = omega (arith, step_counts c.loop-step.invariant c.whole_step.ensures c.in_ok-step.was c.log_step-rows.ensures c.said-said.ensures.says c.said-said.ensures.counts, c.loop-step.invariant.running.within, c.loop-step.invariant.running.rest, c.loop-step.invariant.running.least, c.well_formed)

pub returns-then-is_some : goal.returns-then-is_some
returns-then-is_some c = step_stops c.loop-step.invariant c.whole_step.ensures c.in_ok-step.was c.log_step-rows.ensures c.said-said.ensures.says c.said-said.ensures.counts
    (λ goes. elim c.then-is_some.branch [
      | then-is_some-via-then-is_some w ↦ absurd (true≢false (sym w.if-is_some.true ∙ c.is_some.ensures ∙ goes))
      | then-is_some-via-else-is_some+then-left-le1 w ↦ omega (arith, w.if-left-le1.true)
    ])

pub loop-step-preserved : goal.loop-step-preserved
loop-step-preserved c = step_more c.loop-step.invariant c.whole_step.ensures c.in_ok-step.was c.log_step-rows.ensures c.said-said.ensures.says c.said-said.ensures.counts (sym c.is_some.ensures ∙ c.if-is_some.false) (omega (arith, c.if-left-le1.false))
    (record { x_kept = c.whole_step.auto.x; y_kept = c.whole_step.auto.y; tau_kept = refl; sigma_kept = refl; rx_kept = c.whole_step.auto.rx; tx_kept = c.whole_step.auto.tx; cone_kept = c.whole_step.auto.cone_work })
    c.log_step-rows.auto.log
