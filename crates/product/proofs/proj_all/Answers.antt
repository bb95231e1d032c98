-- `product::proj_all` meets its contract.
use native.Mathlib.Omega.{arith}
use Prim.Native.Nat.{◌+◌, ◌-◌}
use mathlib.Core.Path.{◌≡◌, sym, ap, ◌∙◌}
use Rattle.std.specs.Prelude.{Some}
use Rattle.rules.proofs.ConeProduct.{projecting_start, projecting_end, projecting_more, projecting_failed, projecting_some, projecting_counts, projecting_counts_failed, walk_no_bad}
use Rattle.words.proofs.Parts.{part}
use Rattle.product.proofs.proj_all.Goals as goal

pub loop-word-init : goal.loop-word-init
loop-word-init c = projecting_start _ _ _ _ _ c.requires

pub returns-in_err-block : goal.returns-in_err-block
returns-in_err-block c = absurd (walk_no_bad c.loop-word.invariant.walk c.loop-word-test.true (sym c.read_word.ensures ∙ c.in_err-block.was))

pub overflow_add-end : goal.overflow_add-end
overflow_add-end c = let p = part c.loop-word.invariant.walk c.loop-word-test.true _ (sym c.read_word.ensures ∙ c.in_ok-block.was) c.places_of.ensures c.loop-word.invariant.same in omega (arith, p.inside)

pub slice_bounds-proj-end : goal.slice_bounds-proj-end
slice_bounds-proj-end c = let p = part c.loop-word.invariant.walk c.loop-word-test.true _ (sym c.read_word.ensures ∙ c.in_ok-block.was) c.places_of.ensures c.loop-word.invariant.same in p.inside

pub returns-in_err-made : goal.returns-in_err-made
returns-in_err-made c =
    let says = sym c.read_word.ensures ∙ c.in_ok-block.was in
    let p = part c.loop-word.invariant.walk c.loop-word-test.true _ says c.places_of.ensures c.loop-word.invariant.same in
    absurd (projecting_some c.loop-word.invariant c.loop-word-test.true _ says _ p.long c.proj.ensures c.in_err-made.was)

pub overflow_add-rotations : goal.overflow_add-rotations
overflow_add-rotations c =
    let says = sym c.read_word.ensures ∙ c.in_ok-block.was in
    let p = part c.loop-word.invariant.walk c.loop-word-test.true _ says c.places_of.ensures c.loop-word.invariant.same in
    omega (arith, projecting_counts c.loop-word.invariant c.loop-word-test.true _ says _ p.long c.proj.ensures _ (c.in_ok-made.was ∙ ap Some c.in-Done.is))

pub overflow_add-result : goal.overflow_add-result
overflow_add-result c =
    let says = sym c.read_word.ensures ∙ c.in_ok-block.was in
    let p = part c.loop-word.invariant.walk c.loop-word-test.true _ says c.places_of.ensures c.loop-word.invariant.same in
    omega (arith, projecting_counts_failed c.loop-word.invariant c.loop-word-test.true _ says _ p.long c.proj.ensures _ (c.in_ok-made.was ∙ ap Some c.in-Failed.is))

pub returns-in-Failed : goal.returns-in-Failed
returns-in-Failed c =
    let says = sym c.read_word.ensures ∙ c.in_ok-block.was in
    let p = part c.loop-word.invariant.walk c.loop-word-test.true _ says c.places_of.ensures c.loop-word.invariant.same in
    projecting_failed c.loop-word.invariant c.loop-word-test.true _ says _ p.long c.proj.ensures _ (c.in_ok-made.was ∙ ap Some c.in-Failed.is)

pub loop-word-preserved : goal.loop-word-preserved
loop-word-preserved c =
    let says = sym c.read_word.ensures ∙ c.in_ok-block.was in
    let p = part c.loop-word.invariant.walk c.loop-word-test.true _ says c.places_of.ensures c.loop-word.invariant.same in
    let ends : c.loop-word.start + c.places_of.result ≡ c.loop-word.start + (c.loop-word.start + c.places_of.result - c.loop-word.start) = omega arith in
    projecting_more c.loop-word.invariant c.loop-word-test.true _ says _ p.long c.proj.ensures _ (c.in_ok-made.was ∙ ap Some c.in-Done.is) c.proj.auto.x c.proj.auto.work _ ends

pub returns : goal.returns
returns c = projecting_end c.loop-word.invariant c.loop-word-test.false
