-- `split_transform::columns_of` meets its contract.
use borrow.Author.Rules.{rules}
use native.Mathlib.Omega.{arith}
use Prim.Native.Nat.{ℕ, ◌+◌, ◌-◌, ◌*◌, ◌≤◌}
use mathlib.Core.Path.{◌≡◌, refl}
use mathlib.Core.List.{List}
use lib.Ieee.{Float}
use lib.ListN.{length, take, drop}
use Rattle.rules.specs.Limits.{limit}
use Rattle.rules.proofs.Arithmetic.{reached_none, reached_all}
use Rattle.rules.proofs.Parts.{part-places}
use Rattle.side_by_side.proofs.SideBySide.{reached_part}
use native.Mathlib.Nat.{mul_comm, mul-le-mul_right}
use Rattle.split_transform.proofs.columns_of.Goals as goal

-- what the next columns ask, as many as their part of y has places
part_asked : (m long wide c w : ℕ) (y₀ y : List Float) → long ≡ m * length y₀ → wide ≡ m → length y₀ ≤ limit → length y ≡ length y₀ → c + w ≤ length y₀
    → (let part = take (c + w - c) (drop c y) in record { rows_in_bounds : (c + length part) * m ≤ long; x_len : wide ≡ m; y_bound : c + length part ≤ limit; y_len : length part ≡ w })
part_asked m long wide c w y₀ y all as_wide within same inside =
    let stored : (c + w) * m ≤ long = rw (all, mul_comm m (length y₀)) (mul-le-mul_right m inside) in
    rw (part-places c w y (omega arith)) record { rows_in_bounds = stored; x_len = as_wide; y_bound = omega arith; y_len = refl }

pub loop-c-init : goal.loop-c-init
loop-c-init c = (reached_none _ _, refl)

pub columns_at-requires : goal.columns_at-requires
columns_at-requires c = part_asked _ _ _ c.loop-c.c 8 c.args.y.now _ c.requires.mat_len c.requires.x_len c.requires.y_len_bound c.loop-c.invariant.0.same (omega (arith, c.if-c-n.true, c.loop-c.invariant.1))

pub loop-c-preserved-then-c-n : goal.loop-c-preserved-then-c-n
loop-c-preserved-then-c-n c = (reached_part c.loop-c.invariant.0 8 _ (omega (arith, c.if-c-n.true, c.loop-c.invariant.1)) c.columns_at.ensures, search rules)

pub columns_at-requires-then-c-n-2 : goal.columns_at-requires-then-c-n-2
columns_at-requires-then-c-n-2 c = part_asked _ _ _ c.loop-c.c 4 c.args.y.now _ c.requires.mat_len c.requires.x_len c.requires.y_len_bound c.loop-c.invariant.0.same (omega (arith, c.if-c-n-2.true, c.loop-c.invariant.1))

pub loop-c-preserved-then-c-n-2 : goal.loop-c-preserved-then-c-n-2
loop-c-preserved-then-c-n-2 c = (reached_part c.loop-c.invariant.0 4 _ (omega (arith, c.if-c-n-2.true, c.loop-c.invariant.1)) c.columns_at-then-c-n-2.ensures, search rules)

pub columns_at-requires-in-loop-c : goal.columns_at-requires-in-loop-c
columns_at-requires-in-loop-c c = part_asked _ _ _ c.loop-c.c 1 c.args.y.now _ c.requires.mat_len c.requires.x_len c.requires.y_len_bound c.loop-c.invariant.0.same (omega (arith, c.loop-c-test.true, c.loop-c.invariant.1))

pub loop-c-preserved : goal.loop-c-preserved
loop-c-preserved c = (reached_part c.loop-c.invariant.0 1 _ (omega (arith, c.loop-c-test.true, c.loop-c.invariant.1)) c.columns_at-in-loop-c.ensures, search rules)

pub returns : goal.returns
returns c = reached_all c.loop-c.invariant.0 (search rules)
