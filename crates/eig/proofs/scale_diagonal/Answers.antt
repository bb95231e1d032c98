-- `eig::scale_diagonal` meets its contract.
use borrow.Author.Rules.{rules}
use native.Mathlib.Omega.{arith}
use Rattle.eig.proofs.Diagonal.{diagonal_inside, scaled_none, scaled_more, scaled_all}
use Rattle.eig.proofs.scale_diagonal.Goals as goal

pub loop-k-init : goal.loop-k-init
loop-k-init c = scaled_none _ _ _ (search rules)

pub bounds-x-on_diagonal : goal.bounds-x-on_diagonal
bounds-x-on_diagonal c = omega (arith, c.on_diagonal.ensures, diagonal_inside c.requires c.loop-k.k c.loop-k-test.true)

pub bounds-x-on_diagonal-in-loop-k : goal.bounds-x-on_diagonal-in-loop-k
bounds-x-on_diagonal-in-loop-k c = omega (arith, c.on_diagonal.ensures, diagonal_inside c.requires c.loop-k.k c.loop-k-test.true)

pub loop-k-preserved : goal.loop-k-preserved
loop-k-preserved c = scaled_more c.loop-k.invariant c.loop-k-test.true c.on_diagonal.ensures

pub returns : goal.returns
returns c = scaled_all c.loop-k.invariant (search rules)
