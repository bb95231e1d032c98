-- `grouping::group` meets its contract.
use native.Mathlib.Omega.{arith}
use mathlib.Core.Path.{◌≡◌, sym, ◌∙◌}
use lib.Ieee.{nan}
use lib.ListN.{length}
use Rattle.std.proofs.lemmas.Option.{get_or_from_slice_get}
use Rattle.rules.proofs.ConeProduct.{smallest_none, smallest_more}
use Rattle.grouping.proofs.Grouped.{grouped_is, grouped_none}
use Rattle.grouping.proofs.group.Goals as goal

pub loop-value-init : goal.loop-value-init
loop-value-init c = smallest_none _ _

pub loop-value-preserved : goal.loop-value-preserved
loop-value-preserved c = rw (c.smaller-smallest.ensures, c.loop-value.invariant) (smallest_more _ _ _)

pub returns-after-loop-value : goal.returns-after-loop-value
returns-after-loop-value c =
    let all : c.loop-value.value-index ≡ length c.args.t.now = omega arith in
    c.fill.ensures.after (λ y h. h)
    ∙ grouped_is c.loop-value.value-index c.loop-value.smallest c.args.t.now all (rw (get_or_from_slice_get c.args.t.now 0 c.in-Some.field-0.now nan (sym c.in-Some.ensures.value)) c.loop-value.invariant)

pub returns-in_default : goal.returns-in_default
returns-in_default c = let none : length c.args.t.now ≡ 0 = omega (arith, c.in_default.ensures.item) in grouped_none _ none
