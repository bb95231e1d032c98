-- `word::read_word` meets its contract.
use native.Mathlib.Omega.{arith}
use Prim.Native.Nat.{◌/◌, ◌%◌, ◌≤◌}
use mathlib.Core.Path.{◌≡◌, refl, sym, ◌∙◌}
use mathlib.Core.Bool.{Bool, true, false, cond}
use Rattle.std.specs.Bool.{then_some}
use Rattle.rules.specs.declared.Cone.{Cone}
use Rattle.rules.proofs.Blocks.{order_most, reserved}
use Rattle.rules.specs.Matrices.{triangle}
use Rattle.rules.specs.Blocks.{Block, Bad, read_word, read_kind}
use Rattle.matrix.proofs.Counted.{counted_is}
use Rattle.word.proofs.read_word.Goals as goal

kept_if : (b : Bool) (x : Cone) → then_some b x ≡ cond b (Block x) Bad
kept_if true x = refl
kept_if false x = refl

pub returns-in-4 : goal.returns-in-4
unfolding read_word read_kind
returns-in-4 c =
    let order_small : c.order_of-order.result ≤ 127 = rw c.order_of-order.ensures (order_most c.from-size.result) in
    let is : c.triangle.result ≡ triangle c.order_of-order.result = c.triangle.ensures ∙ counted_is _ (omega (arith, order_small)) in
    rw (c.then_some.ensures, c.in-4.is, ← c.from-size.ensures, is, c.order_of-order.ensures) (kept_if _ _)

pub returns-in_default : goal.returns-in_default
unfolding read_word
returns-in_default c = sym (reserved (c.args.word / 8192) (c.args.word % 8192) (omega arith))
