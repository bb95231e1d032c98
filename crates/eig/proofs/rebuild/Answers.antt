-- `eig::rebuild` meets its contract.
use Prim.Native.Nat.{◌+◌, ◌*◌, ◌≤◌}
use native.Mathlib.Omega.{arith}
use mathlib.Core.Path.{ap, ◌∙◌}
use borrow.Author.Rules.{rules}
use lib.ListN.{length}
use Rattle.rules.specs.Limits.{limit}
use Rattle.eig.proofs.Rank1.{rebuilt_none, rebuilt_off, rebuilt_on, rebuilt_all, lent, lent_length, lent_inside}
use Rattle.eig.proofs.Diagonal.{cleared}
use Rattle.eig.proofs.rebuild.Goals as goal
use Rattle.eig.proofs.rebuild.Goals.{then-e, else-e}

pub loop-k-init : goal.loop-k-init
loop-k-init c = (rebuilt_none _ _ _ _ (search rules) (cleared _ (c.fill.ensures.after (λ y h. h))), search rules)

pub overflow_mul-from : goal.overflow_mul-from
overflow_mul-from c =
    let inside : (c.args.n + c.loop-k.k * c.args.n + c.args.n ≤ length c.args.work.now) × (c.args.n + c.loop-k.k * c.args.n + c.args.n ≤ limit + limit * limit) = lent_inside c.args.n c.args.work.now c.loop-k.k c.loop-k.invariant.1 c.loop-k-test.true c.requires.packed.order in
    omega (arith, inside)

pub overflow_add-from : goal.overflow_add-from
overflow_add-from c =
    let inside : (c.args.n + c.loop-k.k * c.args.n + c.args.n ≤ length c.args.work.now) × (c.args.n + c.loop-k.k * c.args.n + c.args.n ≤ limit + limit * limit) = lent_inside c.args.n c.args.work.now c.loop-k.k c.loop-k.invariant.1 c.loop-k-test.true c.requires.packed.order in
    omega (arith, inside)

pub overflow_add-from-then-e : goal.overflow_add-from-then-e
overflow_add-from-then-e c =
    let inside : (c.args.n + c.loop-k.k * c.args.n + c.args.n ≤ length c.args.work.now) × (c.args.n + c.loop-k.k * c.args.n + c.args.n ≤ limit + limit * limit) = lent_inside c.args.n c.args.work.now c.loop-k.k c.loop-k.invariant.1 c.loop-k-test.true c.requires.packed.order in
    omega (arith, inside)

pub offset_bounds-work-from : goal.offset_bounds-work-from
offset_bounds-work-from c =
    let inside : (c.args.n + c.loop-k.k * c.args.n + c.args.n ≤ length c.args.work.now) × (c.args.n + c.loop-k.k * c.args.n + c.args.n ≤ limit + limit * limit) = lent_inside c.args.n c.args.work.now c.loop-k.k c.loop-k.invariant.1 c.loop-k-test.true c.requires.packed.order in
    omega (arith, inside)

pub slice_bounds-rank1op-end : goal.slice_bounds-rank1op-end
slice_bounds-rank1op-end c =
    let inside : (c.args.n + c.loop-k.k * c.args.n + c.args.n ≤ length c.args.work.now) × (c.args.n + c.loop-k.k * c.args.n + c.args.n ≤ limit + limit * limit) = lent_inside c.args.n c.args.work.now c.loop-k.k c.loop-k.invariant.1 c.loop-k-test.true c.requires.packed.order in
    omega (arith, inside)

pub rank1op-requires : goal.rank1op-requires
unfolding lent
rank1op-requires c = let whole = lent_length c.args.n c.args.work.now c.loop-k.k c.loop-k.invariant.1 c.loop-k-test.true in
    rw whole c.loop-k.invariant.0.sized

pub loop-k-preserved : goal.loop-k-preserved
unfolding lent
loop-k-preserved c = elim c.if-e.branch [
  | then-e w ↦ (rebuilt_on c.args.n c.args.work.now c.loop-k.k c.loop-k.invariant.1 c.loop-k-test.true c.loop-k.invariant.0 w.if-e.true c.if-e.x (w.x-is ∙ w.rank1op.ensures) (ap length w.x-is ∙ w.rank1op.auto.x), c.loop-k.invariant.1)
  | else-e w ↦ (rw w.x-is (rebuilt_off c.loop-k.invariant.0 c.loop-k-test.true w.if-e.false), c.loop-k.invariant.1)
]

pub returns : goal.returns
returns c = rebuilt_all c.loop-k.invariant.0 (search rules)
