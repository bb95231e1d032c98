-- `root::roots::halved` meets its contract. The loop's invariant: what is looked for is lo or more and hi or less. The measure is what lies between. Assumes nothing.
use Prim.Native.Nat.{ℕ, ◌+◌, ◌-◌, ◌*◌, ◌/◌, ◌^◌, ◌≤◌}
use native.Mathlib.Omega.{arith}
use mathlib.Core.Path.{◌≡◌, sym, ◌∙◌, subst}
use borrow.Author.Tests.{leb-true, leb-false}
use Rattle.rules.proofs.Root.{at_most, above_last}
use Rattle.root.proofs.roots.halved.Goals as goal

pub loop-lo-preserved-then-enough : goal.loop-lo-preserved-then-enough
loop-lo-preserved-then-enough c = let q = c.loop-lo.lo + (c.loop-lo.hi - c.loop-lo.lo) / 2 in
    let n = c.args.m * 2 ^ 52 in
    (omega arith, omega arith, omega arith, c.loop-lo.invariant.3, at_most q n (leb-true n (q * (q + 1)) (sym c.enough.ensures ∙ c.if-enough.true)))

pub loop-lo-preserved : goal.loop-lo-preserved
loop-lo-preserved c = let q = c.loop-lo.lo + (c.loop-lo.hi - c.loop-lo.lo) / 2 in
    let n = c.args.m * 2 ^ 52 in
    (omega arith, omega arith, omega arith, above_last q n (leb-false n (q * (q + 1)) (sym c.enough.ensures ∙ c.if-enough.false)), c.loop-lo.invariant.4)

pub returns : goal.returns
returns c = let met : c.loop-lo.hi ≡ c.loop-lo.lo = omega arith in
    let n = c.args.m * 2 ^ 52 in
    record { least = c.loop-lo.invariant.0; most = omega arith; not_less = c.loop-lo.invariant.3; not_more = subst (λ (x : ℕ). n ≤ x * x + x) met c.loop-lo.invariant.4 }
