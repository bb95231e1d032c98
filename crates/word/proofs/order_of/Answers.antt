-- `word::order_of` meets its contract: an order that is small enough, and whose next is not, is the largest.
use native.Mathlib.Omega.{arith}
use Prim.Native.Nat.{ℕ, zero, suc, ◌+◌, ◌-◌, ◌≤◌, ◌<◌}
use mathlib.Core.Path.{◌≡◌, refl, sym, ap, ◌∙◌}
use Rattle.rules.specs.Matrices.{triangle}
use Rattle.rules.specs.Blocks.{order_up_to, order_of}
use Rattle.rules.proofs.Blocks.{order_found, order_less}
use Rattle.rules.proofs.Triangle.{triangle_grows}
use Rattle.matrix.proofs.Counted.{counted_is}
use Rattle.word.proofs.order_of.Goals as goal

found_from_above : (size order more : ℕ) → triangle order ≤ size → size < triangle (order + 1) → order_up_to (order + more) size ≡ order
unfolding order_up_to
found_from_above size zero zero small large = refl
found_from_above size (suc order) zero small large =
    let all : suc order + 0 ≡ suc order = omega arith in
    rw all (order_found (suc order) size (omega arith) small)
found_from_above size order (suc more) small large =
    let before : order + suc more - 1 ≡ order + more = omega arith in
    order_less (order + suc more) size (omega arith) (omega (arith, triangle_grows (order + 1) (order + suc more) (omega arith)))
    ∙ ap (λ (n : ℕ). order_up_to n size) before
    ∙ found_from_above size order more small large

found : (size order : ℕ) → order ≤ 127 → triangle order ≤ size → size < triangle (order + 1) → order ≡ order_of size
unfolding order_of
found size order most small large =
    let all : order + (127 - order) ≡ 127 = omega arith in
    sym (found_from_above size order (127 - order) small large) ∙ ap (λ (n : ℕ). order_up_to n size) all

pub returns-then-size-triangle : goal.returns-then-size-triangle
returns-then-size-triangle c =
    let next : c.triangle.result ≡ triangle (c.loop-order.order + 1) = c.triangle.ensures ∙ counted_is _ (omega arith) in
    found _ _ (omega arith) c.loop-order.invariant (omega (arith, next, c.if-size-triangle.true))

pub loop-order-preserved : goal.loop-order-preserved
loop-order-preserved c =
    let next : c.triangle.result ≡ triangle (c.loop-order.order + 1) = c.triangle.ensures ∙ counted_is _ (omega arith) in
    omega (arith, next, c.if-size-triangle.false)

pub returns : goal.returns
unfolding order_of
returns c = let last : c.loop-order.order ≡ 127 = omega arith in
    sym (order_found 127 _ (omega arith) (rw last at c.loop-order.invariant))
