-- `embed_trans::trans_all` meets its contract.
use native.Mathlib.Omega.{arith}
use Rattle.rules.specs.Step.{back_x, back_y, back_s, back_tau, trans_x, trans_y, trans_s, trans_tau}
use Rattle.shape.proofs.Joined.{four_parts}
use Rattle.embedding.specs.Embedding.{embed_of}
use Rattle.embed_trans.proofs.trans_all.Goals as goal

pub returns : goal.returns
unfolding trans_x trans_y trans_s trans_tau
returns c = let e = embed_of c.args.k.now in
    let first = c.split_at_mut-x_x.ensures in
    let second = c.split_at_mut-x_y.ensures in
    let third = c.split_at_mut-x_s.ensures in
    four_parts e.n e.m e.m 1 c.args.x.now (omega arith)
    (back_x e c.args.alpha c.args.y.now c.args.beta)
    (back_y e c.args.alpha c.args.y.now c.args.beta)
    (back_s e c.args.alpha c.args.y.now c.args.beta)
    (back_tau e c.args.alpha c.args.y.now c.args.beta)
    first.front
    first.back
    second.front
    second.back
    third.front
    third.back
    c.trans_x.ensures
    c.trans_y.ensures
    c.trans_s.ensures
    c.trans_tau.ensures
