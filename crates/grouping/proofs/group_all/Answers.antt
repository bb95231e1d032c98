-- `grouping::group_all` meets its contract.
use native.Mathlib.Omega.{arith}
use Prim.Native.Nat.{ℕ, ◌+◌}
use mathlib.Core.Path.{sym, ap, ◌∙◌}
use Rattle.rules.proofs.ConeProduct.{grouping_start, grouping_more, grouping_end, walk_no_bad}
use Rattle.words.proofs.Parts.{part}
use Rattle.grouping.proofs.group_all.Goals as goal

pub loop-word-init : goal.loop-word-init
loop-word-init c = grouping_start _ _ c.requires

pub returns-in_default : goal.returns-in_default
returns-in_default c = absurd (walk_no_bad c.loop-word.invariant.walk c.loop-word-test.true (sym c.read_word.ensures ∙ c.in_default.is))

pub overflow_add-end : goal.overflow_add-end
overflow_add-end c =
    let p = part c.loop-word.invariant.walk c.loop-word-test.true _ (sym c.read_word.ensures ∙ c.in-Some.is) c.places_of.ensures c.loop-word.invariant.same in
    omega (arith, p.inside)

pub slice_bounds-group_block-end : goal.slice_bounds-group_block-end
slice_bounds-group_block-end c =
    let p = part c.loop-word.invariant.walk c.loop-word-test.true _ (sym c.read_word.ensures ∙ c.in-Some.is) c.places_of.ensures c.loop-word.invariant.same in
    p.inside

pub loop-word-preserved : goal.loop-word-preserved
loop-word-preserved c =
    let says = sym c.read_word.ensures ∙ c.in-Some.is in
    let p = part c.loop-word.invariant.walk c.loop-word-test.true _ says c.places_of.ensures c.loop-word.invariant.same in
    grouping_more c.loop-word.invariant c.loop-word-test.true _ says _ _ p.long (ap (λ (n : ℕ). c.loop-word.start + n) p.whole) _ c.group_block.auto.t c.group_block.ensures

pub returns : goal.returns
returns c = grouping_end c.loop-word.invariant c.loop-word-test.false
