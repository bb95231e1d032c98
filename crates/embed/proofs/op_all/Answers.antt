-- `embed::op_all` meets its contract.
use native.Mathlib.Omega.{arith}
use Rattle.rules.specs.Step.{on_n, on_m, on1, op_n, op_m, op1}
use Rattle.shape.proofs.Joined.{three_parts}
use Rattle.embedding.specs.Embedding.{embed_of}
use Rattle.embed.proofs.op_all.Goals as goal

pub returns : goal.returns
unfolding op_n op_m op1
returns c = let e = embed_of c.args.k.now in
    let first = c.split_at_mut-y_n.ensures in
    let second = c.split_at_mut-y_m.ensures in
    three_parts e.n e.m 1 c.args.y.now (omega arith)
    (on_n e c.args.alpha c.args.x.now c.args.beta)
    (on_m e c.args.alpha c.args.x.now c.args.beta)
    (on1 e c.args.alpha c.args.x.now c.args.beta)
    first.front
    first.back
    second.front
    second.back
    c.op_n.ensures
    c.op_m.ensures
    c.op_1.ensures
