-- `jacobi::sweep_row` meets its contract.
use native.Mathlib.Omega.{arith}
use borrow.Author.Rules.{rules}
use Rattle.jacobi.proofs.Sweeps.{row_first, row_made, row_next, row_last}
use Rattle.jacobi.proofs.sweep_row.Goals as goal

pub loop-j-init : goal.loop-j-init
loop-j-init c = (row_first c.args.n c.args.tol c.args.i c.args.x.now c.args.z.now c.args.rotations (search rules) (search rules) (search rules), search rules)

pub pair-made-requires : goal.pair-made-requires
pair-made-requires c = record { packed = c.loop-j.invariant.0.packed; square = c.loop-j.invariant.0.square; pair = record { rising = c.loop-j.invariant.0.from; inside = c.loop-j-test.true }; rotations_bound = omega (arith, row_made c.loop-j.invariant.0, c.loop-j.invariant.1, c.loop-j.invariant.0.from, c.loop-j-test.true) }

pub loop-j-preserved : goal.loop-j-preserved
loop-j-preserved c = (row_next c.loop-j.invariant.0 _ _ _ c.pair-made.ensures (search rules) (search rules) c.loop-j-test.true, search rules)

pub returns : goal.returns
returns c = row_last c.loop-j.invariant.0 (search rules)
