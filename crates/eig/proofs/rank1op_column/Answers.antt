-- `eig::rank1op_column` meets its contract.
use native.Mathlib.Omega.{arith}
use Prim.Native.Nat.{ℕ, ◌+◌}
use mathlib.Core.Path.{ap}
use lib.ListN.{length}
use Rattle.rules.proofs.Triangle.{triangle_inside}
use Rattle.matrix.proofs.Counted.{counted_small}
use Rattle.eig.proofs.Rank1.{column_none, column_more, column_all}
use borrow.Author.Rules.{rules}
use Rattle.eig.proofs.rank1op_column.Goals as goal

pub loop-r-init : goal.loop-r-init
loop-r-init c = let top = (counted_small c.triangle-top.ensures (omega (arith, c.requires.packed.order, c.requires.c_in_bounds))).0 in
    (column_none _ _ _ _ (search rules), search rules, top, omega (arith, top, triangle_inside c.args.c (length c.args.z.now) c.requires.c_in_bounds, c.requires.packed.stored))

pub loop-r-preserved : goal.loop-r-preserved
loop-r-preserved c = (column_more c.loop-r.invariant.0 (search rules) (search rules) (ap (λ (p : ℕ). p + c.loop-r.r) c.loop-r.invariant.2), search rules, c.loop-r.invariant.2, c.loop-r.invariant.3)

pub returns : goal.returns
returns c = column_all c.loop-r.invariant.0 (search rules)
