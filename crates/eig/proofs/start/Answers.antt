-- `eig::start` meets its contract.
use native.Mathlib.Omega.{arith}
use borrow.Author.Rules.{rules}
use Rattle.rules.specs.Helpers.{one}
use Rattle.eig.proofs.Diagonal.{unit_none, unit_inside, unit_more, unit_all}
use Rattle.eig.proofs.Diagonal.{cleared}
use Rattle.eig.proofs.start.Goals as goal

pub loop-k-init : goal.loop-k-init
loop-k-init c = (unit_none _ _ _ (search rules) (cleared _ (c.fill.ensures.after (λ y h. h))), search rules)

pub overflow_mul-z : goal.overflow_mul-z
overflow_mul-z c = omega (arith, unit_inside c.loop-k.invariant.0 (omega arith) (omega arith))

pub overflow_add-z : goal.overflow_add-z
overflow_add-z c = omega (arith, unit_inside c.loop-k.invariant.0 (omega arith) (omega arith))

pub offset_bounds-z-k : goal.offset_bounds-z-k
offset_bounds-z-k c = omega (arith, unit_inside c.loop-k.invariant.0 (omega arith) (omega arith))

pub bounds-z-k : goal.bounds-z-k
bounds-z-k c = omega (arith, unit_inside c.loop-k.invariant.0 (omega arith) (omega arith))

pub loop-k-preserved : goal.loop-k-preserved
unfolding one
loop-k-preserved c = (unit_more c.loop-k.invariant.0 (search rules), search rules)

pub returns : goal.returns
returns c = unit_all c.loop-k.invariant.0 (search rules)
