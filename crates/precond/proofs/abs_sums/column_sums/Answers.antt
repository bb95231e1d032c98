-- `precond::abs_sums::column_sums` meets its contract.
use native.Mathlib.Omega.{arith}
use Rattle.rules.specs.Helpers.{one}
use Rattle.rules.specs.Vectors.{shifted}
use Rattle.rules.specs.Prepare.{sums_x, sums_y, sums_s, sums_tau}
use Rattle.shape.proofs.Joined.{four_parts}
use Rattle.embedding.specs.Embedding.{embed_of}
use Rattle.precond.specs.Precond.{with_sums_x, with_sums_y, with_sums_tau}
use Rattle.precond.proofs.abs_sums.column_sums.Goals as goal

pub returns : goal.returns
unfolding sums_x sums_y sums_s sums_tau one
returns c = let e = embed_of c.args.k.now in
    let first = c.split_at_mut-tau_x.ensures in
    let second = c.split_at_mut-tau_y.ensures in
    let third = c.split_at_mut-tau_s.ensures in
    four_parts e.n e.m e.m 1 c.args.tau.now (omega arith)
    (with_sums_x e)
    (with_sums_y e)
    (shifted one)
    (with_sums_tau e)
    first.front
    first.back
    second.front
    second.back
    third.front
    third.back
    c.sums_x.ensures
    c.sums_y.ensures
    c.adds.ensures
    c.sums_tau.ensures
