-- `later_check::check_later` meets its contract.
use Rattle.rules.specs.Problem.{problem_of}
use Rattle.later_check.proofs.Later.{few_words, first_of_seven}
use Rattle.later_check.proofs.check_later.Goals as goal

pub then_stale-requires : goal.then_stale-requires
then_stale-requires c = few_words c.args.«record» (problem_of c.args.rows.0 c.args.cols.0 c.args.storage c.args.c.now c.args.a.now c.args.b.now c.args.words.now c.args.par) c.args.work c.args.cone_work c.args.log c.check-tested.ensures

pub returns : goal.returns
returns c = first_of_seven c.args.«record» (problem_of c.args.rows.0 c.args.cols.0 c.args.storage c.args.c.now c.args.a.now c.args.b.now c.args.words.now c.args.par) c.args.work c.args.cone_work c.args.log c.check-tested.ensures c.then_stale.ensures
