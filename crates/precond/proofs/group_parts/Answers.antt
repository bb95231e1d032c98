-- `precond::group_parts` meets its contract.
use native.Mathlib.Omega.{arith}
use mathlib.Core.Path.{refl}
use Rattle.rules.specs.Blocks.{blocks_of}
use Rattle.rules.specs.Product.{group_all}
use Rattle.shape.proofs.Joined.{four_parts}
use Rattle.precond.proofs.LikeX.{group_ruled}
use Rattle.precond.proofs.group_parts.Goals as goal

pub returns : goal.returns
returns c = let shape = c.args.shape in
    let blocks = blocks_of c.args.words.now in
    let first = c.split_at_mut-rest.ensures in
    let second = c.split_at_mut-d_y.ensures in
    let third = c.split_at_mut-d_s.ensures in
    four_parts shape.cols.0 shape.rows.0 shape.rows.0 1 c.args.d.now (omega arith)
    (λ v. v)
    (group_all blocks)
    (group_all blocks)
    (λ v. v)
    first.front
    first.back
    second.front
    second.back
    third.front
    third.back
    refl
    (group_ruled c.requires.covers c.requires.rows_le_limit second.front_len c.product_group.ensures)
    (group_ruled c.requires.covers c.requires.rows_le_limit third.front_len c.product_group-2.ensures)
    refl
