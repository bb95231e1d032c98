-- `sums::abssum` meets its contract: each term that is counted lies inside x.
use Prim.Native.Nat.{◌*◌, ◌<◌}
use native.Mathlib.Omega.{arith}
use mathlib.Core.Path.{sym, ◌∙◌}
use lib.ListN.{length}
use borrow.Author.Rules.{rules}
use Rattle.rules.specs.Arithmetic.{+0}
use Rattle.rules.proofs.Arithmetic.{summed_none, summed_more}
use Rattle.rules.proofs.Vectors.{stride_inside, abssum_of_no_step, abssum-summed}
use Rattle.sums.proofs.Strides.{strides_counted}
use Rattle.sums.proofs.abssum.Goals as goal

pub returns-then-incx-eq0 : goal.returns-then-incx-eq0
returns-then-incx-eq0 c = sym (abssum_of_no_step _ _ c.if-incx-eq0.true)

pub loop-k-init : goal.loop-k-init
loop-k-init c = (summed_none +0 _, search rules, c.div_ceil-k-end.ensures ∙ strides_counted _ _ (search rules))

pub overflow_mul-k : goal.overflow_mul-k
overflow_mul-k c = let inside : c.loop-k.k * c.args.incx < length c.args.x.now = stride_inside _ _ _ c.loop-k.invariant.1 (search rules) in omega arith

pub offset_bounds-x-k : goal.offset_bounds-x-k
offset_bounds-x-k c = let inside : c.loop-k.k * c.args.incx < length c.args.x.now = stride_inside _ _ _ c.loop-k.invariant.1 (search rules) in omega arith

pub bounds-x-k : goal.bounds-x-k
bounds-x-k c = stride_inside _ _ _ c.loop-k.invariant.1 (search rules)

pub loop-k-preserved : goal.loop-k-preserved
loop-k-preserved c = (rw c.magnitude-sum.ensures (summed_more c.loop-k.invariant.0), search rules, search rules)

pub returns : goal.returns
returns c = abssum-summed _ _ c.loop-k.invariant.0 c.loop-k.invariant.1 (search rules)
