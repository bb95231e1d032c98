-- `jacobi::sweep` meets its contract.
use borrow.Author.Rules.{rules}
use Rattle.jacobi.proofs.Sweeps.{sweep_first, sweep_room, sweep_next, sweep_last}
use Rattle.jacobi.proofs.sweep.Goals as goal

pub loop-i-init : goal.loop-i-init
loop-i-init c = (sweep_first c.args.n c.args.tol c.args.x.now c.args.z.now c.args.rotations (search rules) (search rules), search rules)

pub sweep_row-made-requires : goal.sweep_row-made-requires
sweep_row-made-requires c = record { packed = c.loop-i.invariant.0.packed; square = c.loop-i.invariant.0.square; i_lt_n = c.loop-i-test.true; n_bound = sweep_room c.loop-i.invariant.0 c.loop-i-test.true c.loop-i.invariant.1 }

pub loop-i-preserved : goal.loop-i-preserved
loop-i-preserved c = (sweep_next c.loop-i.invariant.0 _ _ _ c.sweep_row-made.ensures (search rules) (search rules) c.loop-i-test.true, search rules)

pub returns : goal.returns
returns c = sweep_last c.loop-i.invariant.0 (search rules)
