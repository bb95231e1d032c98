-- `absadd::add_column` meets its contract.
use Prim.Native.Nat.{◌+◌, ◌-◌, ◌≤◌, ◌<◌, suc}
use native.Mathlib.Omega.{arith}
use mathlib.Core.Path.{◌≡◌, ◌∙◌}
use lib.ListN.{length, length-set}
use borrow.Author.Rules.{rules}
use Rattle.rules.specs.Helpers.{magnitude}
use Rattle.rules.specs.Arithmetic.{◌+ᶠ◌, at}
use Rattle.rules.specs.Matrices.{triangle}
use Rattle.rules.proofs.Arithmetic.{Reached, reached_none, reached_more}
use Rattle.rules.proofs.Vectors.{abssum_of_part}
use Rattle.matrix.proofs.Counted.{counted_small}
use Rattle.absadd.proofs.Packed.{column_added_lem}
use Rattle.absadd.proofs.add_column.Goals as goal

pub overflow_add-end : goal.overflow_add-end
overflow_add-end c =
    let known : (c.triangle-start.result ≡ triangle c.args.c) × (c.triangle-start.result + (c.args.c + 1) ≤ length c.args.mat.now) = let s = counted_small c.triangle-start.ensures c.requires.c_le_limit in (s.0, omega (arith, s.0, c.requires.c_in_bounds)) in
    omega (arith, known)

pub overflow_add-end-2 : goal.overflow_add-end-2
overflow_add-end-2 c =
    let known : (c.triangle-start.result ≡ triangle c.args.c) × (c.triangle-start.result + (c.args.c + 1) ≤ length c.args.mat.now) = let s = counted_small c.triangle-start.ensures c.requires.c_le_limit in (s.0, omega (arith, s.0, c.requires.c_in_bounds)) in
    omega (arith, known)

pub offset_bounds-mat-start : goal.offset_bounds-mat-start
offset_bounds-mat-start c =
    let known : (c.triangle-start.result ≡ triangle c.args.c) × (c.triangle-start.result + (c.args.c + 1) ≤ length c.args.mat.now) = let s = counted_small c.triangle-start.ensures c.requires.c_le_limit in (s.0, omega (arith, s.0, c.requires.c_in_bounds)) in
    omega (arith, known)

pub slice_bounds-abssum-count : goal.slice_bounds-abssum-count
slice_bounds-abssum-count c =
    let known : (c.triangle-start.result ≡ triangle c.args.c) × (c.triangle-start.result + (c.args.c + 1) ≤ length c.args.mat.now) = let s = counted_small c.triangle-start.ensures c.requires.c_le_limit in (s.0, omega (arith, s.0, c.requires.c_in_bounds)) in
    omega (arith, known)

pub slice_bounds-abssum-start : goal.slice_bounds-abssum-start
slice_bounds-abssum-start c =
    let known : (c.triangle-start.result ≡ triangle c.args.c) × (c.triangle-start.result + (c.args.c + 1) ≤ length c.args.mat.now) = let s = counted_small c.triangle-start.ensures c.requires.c_le_limit in (s.0, omega (arith, s.0, c.requires.c_in_bounds)) in
    omega (arith, known)

pub slice_bounds-abssum-end : goal.slice_bounds-abssum-end
slice_bounds-abssum-end c =
    let known : (c.triangle-start.result ≡ triangle c.args.c) × (c.triangle-start.result + (c.args.c + 1) ≤ length c.args.mat.now) = let s = counted_small c.triangle-start.ensures c.requires.c_le_limit in (s.0, omega (arith, s.0, c.requires.c_in_bounds)) in
    omega (arith, known)

pub loop-i-init : goal.loop-i-init
loop-i-init c =
    let known : (c.triangle-start.result ≡ triangle c.args.c) × (c.triangle-start.result + (c.args.c + 1) ≤ length c.args.mat.now) = let s = counted_small c.triangle-start.ensures c.requires.c_le_limit in (s.0, omega (arith, s.0, c.requires.c_in_bounds)) in
    (reached_none _ _, search rules, simp length-set (search rules), known.1, known.0)

pub loop-i-preserved : goal.loop-i-preserved
loop-i-preserved c = (rw c.magnitude.ensures (reached_more c.loop-i.invariant.0 (search rules)), search rules, search rules, search rules, search rules)

pub shape_of-y : goal.shape_of-y
shape_of-y c = c.loop-i.invariant.0.same ∙ simp length-set

pub returns : goal.returns
returns c =
    let known : (c.triangle-start.result ≡ triangle c.args.c) × (c.triangle-start.result + (c.args.c + 1) ≤ length c.args.mat.now) = let s = counted_small c.triangle-start.ensures c.requires.c_le_limit in (s.0, omega (arith, s.0, c.requires.c_in_bounds)) in
    let k = known in
    let all : c.loop-i.i ≡ c.args.c = search rules in
    column_added_lem _ _ _ _ _ (search rules) (c.abssum.ensures ∙ rw k.0 (abssum_of_part c.args.mat.now (triangle c.args.c) (triangle c.args.c + c.args.c + 1) (suc c.args.c) (search rules) (search rules))) (rw (k.0, all) at c.loop-i.invariant.0.is)
