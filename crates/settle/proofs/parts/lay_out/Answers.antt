-- `settle::parts::lay_out` meets its contract.
use Rattle.settle.proofs.Parted.{laid_first, laid_more}
use Rattle.settle.proofs.parts.lay_out.Goals as goal

pub returns : goal.returns
returns c = let w1 = laid_first c.copy_to.ensures in
    let w2 = laid_more c.args.y.now w1 c.copy_to-2.ensures in
    let w3 = laid_more c.args.dp_tau.now w2 c.copy_to-3.ensures in
    let w4 = laid_more c.args.dp_sigma.now w3 c.copy_to-4.ensures in
    let w5 = laid_more c.args.rx.now w4 c.copy_to-5.ensures in
    (laid_more c.args.tx.now w5 c.copy_to-6.ensures).is
