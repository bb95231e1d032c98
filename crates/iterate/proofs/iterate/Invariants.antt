-- `iterate::iterate` meets its contract.
use Rattle.rules.specs.Problem.{slices}
use Rattle.step.specs.Update.{state_of}
use Rattle.iterate.specs.Record.{log_with}
use Rattle.iterate.proofs.Outcomes.{Going}
use Rattle.iterate.proofs.iterate.Given as goal

abbrev pub invariant-loop-step : goal.invariant-loop-step
invariant-loop-step l =
    Going l.par l.shape l.c (slices l.a1 l.a2) l.b l.words l.norms l.behind l.given (state_of l.initial.x l.initial.y l.dp_tau l.dp_sigma l.initial.rx l.initial.tx l.initial.cone_work) l.initial.log l.k l.rotations l.left (state_of l.x l.y l.dp_tau l.dp_sigma l.rx l.tx l.cone_work) (log_with l.rows l.log)

abbrev pub decreases-loop-step : goal.decreases-loop-step
decreases-loop-step l = l.left
