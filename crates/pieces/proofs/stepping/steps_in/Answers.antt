-- `pieces::stepping::steps_in` meets its contract.
use native.Mathlib.Omega.{arith}
use Rattle.pieces.proofs.Stepped.{steps_left}
use Rattle.pieces.proofs.Counts.{counted}
use Rattle.pieces.proofs.stepping.steps_in.Goals as goal

pub told-requires : goal.told-requires
told-requires c = counted (omega (arith, c.ranges.given.fits)) c.requires.behind c.requires.step_ready.cones c.some_steps-ran.ensures

pub returns : goal.returns
returns c = steps_left _ _ _ _ _ c.requires.step_ready c.requires.lent c.rows_end-start.ensures c.some_steps-ran.ensures c.laid_by-ending.ensures c.settle.ensures
    (omega (arith, c.some_steps-ran.auto))
    (omega (arith, c.some_steps-ran.auto))
    (omega (arith, c.some_steps-ran.auto))
    (omega (arith, c.some_steps-ran.auto))
    (omega (arith, c.some_steps-ran.auto))
    c.told.ensures
