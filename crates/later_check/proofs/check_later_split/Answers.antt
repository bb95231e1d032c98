-- `later_check::check_later_split` meets its contract.
use Rattle.rules.specs.Split.{split_of}
use Rattle.later_check.proofs.Later.{split_few_words, split_first_of_seven}
use Rattle.later_check.proofs.check_later_split.Goals as goal

pub then_stale-requires : goal.then_stale-requires
then_stale-requires c = split_few_words c.args.«record» (split_of c.args.rows.0 c.args.cols.0 c.args.first.0 c.args.c.now c.args.factory.now c.args.lesson.now c.args.b.now c.args.words.now c.args.par) c.args.work c.args.cone_work c.args.log c.check_split-tested.ensures

pub returns : goal.returns
returns c = split_first_of_seven c.args.«record» (split_of c.args.rows.0 c.args.cols.0 c.args.first.0 c.args.c.now c.args.factory.now c.args.lesson.now c.args.b.now c.args.words.now c.args.par) c.args.work c.args.cone_work c.args.log c.check_split-tested.ensures c.then_stale.ensures
