-- `whole_step::whole_step` meets its contract.
use mathlib.Core.Path.{◌≡◌, sym, ap, ◌∙◌}
use Rattle.std.specs.Prelude.{Some}
use Rattle.rules.specs.declared.Criteria.{Criteria}
use Rattle.rules.specs.Problem.{slices}
use Rattle.whole_step.proofs.Steps.{judge_says, whole_done, whole_failed, whole_no}
use Rattle.whole_step.proofs.whole_step.Goals as goal

same : {found ruled : Criteria} → Some found ≡ Some ruled → found ≡ ruled
same e = cc

pub returns-in_err-made : goal.returns-in_err-made
returns-in_err-made c = rw c.from_residual.ensures (whole_no c.args.par c.args.shape c.args.c.now (slices c.args.a1.now c.args.a2.now) c.args.b.now c.args.words.now c.args.norms c.args.x.now c.args.y.now c.args.dp_tau.now c.args.dp_sigma.now c.args.rx.now c.args.tx.now c.args.cone_work.now c.update_vecs.ensures c.in_err-made.was)

pub returns-in-Done : goal.returns-in-Done
returns-in-Done c =
    let is = c.in_ok-made.was ∙ ap Some c.in-Done.is in
    let j = judge_says c.args.par c.args.shape c.args.c.now (slices c.args.a1.now c.args.a2.now) c.args.b.now c.args.words.now c.args.norms c.args.x.now c.args.y.now c.args.dp_tau.now c.args.dp_sigma.now c.args.rx.now c.args.tx.now c.args.cone_work.now c.update_vecs.ensures is c.update_vecs.auto.x c.update_vecs.auto.rx c.judge.ensures in
    whole_done c.args.par c.args.shape c.args.c.now (slices c.args.a1.now c.args.a2.now) c.args.b.now c.args.words.now c.args.norms c.args.x.now c.args.y.now c.args.dp_tau.now c.args.dp_sigma.now c.args.rx.now c.args.tx.now c.args.cone_work.now c.update_vecs.ensures is (same (sym c.unwrap-found.ensures ∙ j.0)) j.1

pub returns-in-Failed : goal.returns-in-Failed
returns-in-Failed c = whole_failed c.args.par c.args.shape c.args.c.now (slices c.args.a1.now c.args.a2.now) c.args.b.now c.args.words.now c.args.norms c.args.x.now c.args.y.now c.args.dp_tau.now c.args.dp_sigma.now c.args.rx.now c.args.tx.now c.args.cone_work.now c.update_vecs.ensures (c.in_ok-made.was ∙ ap Some c.in-Failed.is)
