-- `sums::norm` meets its contract.
use mathlib.Core.Path.{sym, ◌∙◌, ap}
use lib.ListN.{length}
use Rattle.rules.specs.Arithmetic.{+0}
use lib.Ieee.{binary64, of_bits, div}
use Rattle.rules.specs.Root.{root}
use Rattle.rules.proofs.Arithmetic.{summed_none, summed_more, summed_all}
use Rattle.rules.proofs.LargeNorms.{norm_of_other_sum, norm_of_not_finite, norm_of_large}
use borrow.Author.Rules.{rules}
use Rattle.sums.proofs.norm.Goals as goal
use Rattle.sums.proofs.norm.Goals.{else-sum-via-then-sum+else-all_finite, else-sum-via-else-sum}

pub loop-v-init : goal.loop-v-init
loop-v-init c = summed_none +0 _

pub loop-v-preserved : goal.loop-v-preserved
loop-v-preserved c = summed_more c.loop-v.invariant

pub returns-then-all_finite : goal.returns-then-all_finite
unfolding of_bits div
returns-then-all_finite c = let sum_is_lem = summed_all {m = length c.args.x.now} c.loop-v.invariant (search rules) in
    c.scaled_norm.ensures ∙ sym (norm_of_large 1 c.args.x.now (rw (← sum_is_lem) (c.if-sum.true)) (sym c.all_finite.ensures ∙ c.if-all_finite.true))

pub returns : goal.returns
unfolding of_bits div
returns c = let sum_is_lem = summed_all {m = length c.args.x.now} c.loop-v.invariant (search rules) in
    c.root.ensures ∙ ap (root binary64) sum_is_lem
    ∙ sym (elim c.else-sum.branch [ else-sum-via-then-sum+else-all_finite w ↦ norm_of_not_finite 1 c.args.x.now (sym w.all_finite.ensures ∙ w.if-all_finite.false) | else-sum-via-else-sum w ↦ norm_of_other_sum 1 c.args.x.now (rw sum_is_lem at w.if-sum.false) ])
