-- `split_transform::split_rows` meets its contract.
use borrow.Author.Rules.{rules}
use native.Mathlib.Omega.{arith}
use Prim.Native.Nat.{ℕ, ◌+◌, ◌-◌, ◌≤◌}
use mathlib.Core.Path.{◌≡◌, refl, sym}
use mathlib.Core.List.{List}
use lib.Ieee.{Float}
use lib.ListN.{length, take, drop}
use Rattle.rules.specs.Matrices.{transformed_by}
use Rattle.rules.proofs.Arithmetic.{reached_none, reached_all}
use Rattle.rules.proofs.Parts.{part-places}
use Rattle.side_by_side.proofs.SideBySide.{reached_part}
use Rattle.split_transform.proofs.split_rows.Goals as goal

-- what the next rows ask, as many as their part of y has places
part_asked : (m r w : ℕ) (y₀ y : List Float) → length y₀ ≡ m → length y ≡ length y₀ → r + w ≤ length y₀
    → (let part = take (r + w - r) (drop r y) in (r + length part ≤ m) × (length part ≡ w))
part_asked m r w y₀ y high same inside = rw (part-places r w y (omega arith)) (omega arith, refl)

pub loop-r-init : goal.loop-r-init
loop-r-init c = (reached_none _ _, sym c.requires.y_len)

pub rows_at-requires : goal.rows_at-requires
rows_at-requires c = let p = part_asked _ c.loop-r.r 32 c.args.y.now _ c.requires.y_len c.loop-r.invariant.0.same (omega (arith, c.if-r-m.true, c.loop-r.invariant.1)) in
    record { split_stored = c.requires.split_stored; x_len = c.requires.x_len; y_bound = p.0; y_len = p.1 }

pub loop-r-preserved-then-r-m : goal.loop-r-preserved-then-r-m
loop-r-preserved-then-r-m c = (reached_part c.loop-r.invariant.0 32 _ (omega (arith, c.if-r-m.true, c.loop-r.invariant.1)) c.rows_at.ensures, search rules)

pub rows_at-requires-then-r-m-2 : goal.rows_at-requires-then-r-m-2
rows_at-requires-then-r-m-2 c = let p = part_asked _ c.loop-r.r 8 c.args.y.now _ c.requires.y_len c.loop-r.invariant.0.same (omega (arith, c.if-r-m-2.true, c.loop-r.invariant.1)) in
    record { split_stored = c.requires.split_stored; x_len = c.requires.x_len; y_bound = p.0; y_len = p.1 }

pub loop-r-preserved-then-r-m-2 : goal.loop-r-preserved-then-r-m-2
loop-r-preserved-then-r-m-2 c = (reached_part c.loop-r.invariant.0 8 _ (omega (arith, c.if-r-m-2.true, c.loop-r.invariant.1)) c.rows_at-then-r-m-2.ensures, search rules)

pub rows_at-requires-then-r-m-3 : goal.rows_at-requires-then-r-m-3
rows_at-requires-then-r-m-3 c = let p = part_asked _ c.loop-r.r 4 c.args.y.now _ c.requires.y_len c.loop-r.invariant.0.same (omega (arith, c.if-r-m-3.true, c.loop-r.invariant.1)) in
    record { split_stored = c.requires.split_stored; x_len = c.requires.x_len; y_bound = p.0; y_len = p.1 }

pub loop-r-preserved-then-r-m-3 : goal.loop-r-preserved-then-r-m-3
loop-r-preserved-then-r-m-3 c = (reached_part c.loop-r.invariant.0 4 _ (omega (arith, c.if-r-m-3.true, c.loop-r.invariant.1)) c.rows_at-then-r-m-3.ensures, search rules)

pub rows_at-requires-in-loop-r : goal.rows_at-requires-in-loop-r
rows_at-requires-in-loop-r c = let p = part_asked _ c.loop-r.r 1 c.args.y.now _ c.requires.y_len c.loop-r.invariant.0.same (omega (arith, c.loop-r-test.true, c.loop-r.invariant.1)) in
    record { split_stored = c.requires.split_stored; x_len = c.requires.x_len; y_bound = p.0; y_len = p.1 }

pub loop-r-preserved : goal.loop-r-preserved
loop-r-preserved c = (reached_part c.loop-r.invariant.0 1 _ (omega (arith, c.loop-r-test.true, c.loop-r.invariant.1)) c.rows_at-in-loop-r.ensures, search rules)

pub returns : goal.returns
unfolding transformed_by
returns c = reached_all c.loop-r.invariant.0 (search rules)
