-- `halved_transform::stored_at` meets its contract.
use Prim.Native.Nat.{◌+◌, ◌-◌}
use native.Mathlib.Omega.{arith}
use mathlib.Core.Path.{◌≡◌, sym, ◌∙◌, ap}
use mathlib.Core.List.{◌++◌}
use lib.ListN.{length, length-append}
use Rattle.rules.specs.Arithmetic.{at}
use Rattle.rules.proofs.Slices.{at_first, at_rest}
use Rattle.halved_transform.proofs.stored_at.Goals as goal

pub returns-then-p-a1 : goal.returns-then-p-a1
returns-then-p-a1 c = sym (at_first c.args.a1.now c.args.a2.now c.args.p c.if-p-a1.true)

pub offset_bounds-a2-p : goal.offset_bounds-a2-p
offset_bounds-a2-p c = omega (arith, length-append c.args.a1.now c.args.a2.now, c.requires, c.if-p-a1.false)

pub bounds-a2-p : goal.bounds-a2-p
bounds-a2-p c = omega (arith, length-append c.args.a1.now c.args.a2.now, c.requires, c.if-p-a1.false)

pub returns-else-p-a1 : goal.returns-else-p-a1
returns-else-p-a1 c = let split : length c.args.a1.now + (c.args.p - length c.args.a1.now) ≡ c.args.p = omega (arith, c.if-p-a1.false) in
    sym (at_rest c.args.a1.now c.args.a2.now (c.args.p - length c.args.a1.now)) ∙ ap (λ j. at (c.args.a1.now ++ c.args.a2.now) j) split
