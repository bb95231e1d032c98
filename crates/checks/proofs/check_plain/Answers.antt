-- `checks::check_plain` meets its contract: the last three tests in order, each with the noes before it.
use mathlib.Core.Path.{sym, ◌∙◌}
use Rattle.rules.specs.Problem.{slices, joined}
use Rattle.checks.proofs.Refused.{here, past, none_left, plain_answers}
use Rattle.checks.proofs.check_plain.Goals as goal

pub returns-then-cone_is_bad : goal.returns-then-cone_is_bad
returns-then-cone_is_bad c = plain_answers c.args.m c.args.n c.args.c.now (joined (slices c.args.a1.now c.args.a2.now)) c.args.b.now c.args.words.now c.args.work c.args.cone_work
    (here (cc))

pub returns-then-number_is_not_finite : goal.returns-then-number_is_not_finite
returns-then-number_is_not_finite c = plain_answers c.args.m c.args.n c.args.c.now (joined (slices c.args.a1.now c.args.a2.now)) c.args.b.now c.args.words.now c.args.work c.args.cone_work
    (past (cc) (here (cc)))

pub returns-then-work_shortage : goal.returns-then-work_shortage
returns-then-work_shortage c = plain_answers c.args.m c.args.n c.args.c.now (joined (slices c.args.a1.now c.args.a2.now)) c.args.b.now c.args.words.now c.args.work c.args.cone_work
    (past (cc) (past (cc) (here (sym c.work_shortage.ensures ∙ c.if-work_shortage.true))))

pub returns : goal.returns
returns c = plain_answers c.args.m c.args.n c.args.c.now (joined (slices c.args.a1.now c.args.a2.now)) c.args.b.now c.args.words.now c.args.work c.args.cone_work
    (past (cc) (past (cc) (past (sym c.work_shortage.ensures ∙ c.if-work_shortage.false) none_left)))
