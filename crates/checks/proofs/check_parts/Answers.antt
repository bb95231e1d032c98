-- `checks::check_parts` meets its contract: the first three tests in order, each with the noes before it, and then the others over the plain words.
use mathlib.Core.Path.{sym, ◌∙◌, ap}
use mathlib.Core.Bool.{not}
use Rattle.rules.specs.Groups.{plain_words}
use Rattle.rules.specs.Problem.{slices, joined}
use Rattle.groups.proofs.Front.{front_is_plain, front_within, front_long}
use Rattle.checks.proofs.Refused.{sizes_within, words_within, here, past, answers, plain-answered}
use Rattle.checks.proofs.check_parts.Goals as goal

pub returns-then-param_is_bad : goal.returns-then-param_is_bad
returns-then-param_is_bad c = answers c.args.par c.args.shape c.args.c.now (slices c.args.a1.now c.args.a2.now) c.args.b.now c.args.words.now c.args.work c.args.cone_work
    (here (cc))

pub returns-then-size_is_too_large : goal.returns-then-size_is_too_large
returns-then-size_is_too_large c = answers c.args.par c.args.shape c.args.c.now (slices c.args.a1.now c.args.a2.now) c.args.b.now c.args.words.now c.args.work c.args.cone_work
    (past (cc) (here (cc)))

pub returns-then-not-operators_fit : goal.returns-then-not-operators_fit
returns-then-not-operators_fit c = answers c.args.par c.args.shape c.args.c.now (slices c.args.a1.now c.args.a2.now) c.args.b.now c.args.words.now c.args.work c.args.cone_work
    (past (cc) (past (cc) (here (ap not (sym c.operators_fit.ensures) ∙ c.if-not-operators_fit.true-raw))))

pub slice_bounds-plain-end : goal.slice_bounds-plain-end
slice_bounds-plain-end c = let long = words_within c.args.shape.rows.0 c.args.shape.cols.0 c.args.words.now (cc) in
    front_within c.args.words.now _ long _ _ c.flatten.ensures _ c.count_of-count.ensures

pub slice_bounds-check_plain-end : goal.slice_bounds-check_plain-end
slice_bounds-check_plain-end c = let long = words_within c.args.shape.rows.0 c.args.shape.cols.0 c.args.words.now (cc) in
    front_long c.args.words.now _ long _ _ c.flatten.ensures _ c.count_of-count.ensures

pub check_plain-requires : goal.check_plain-requires
check_plain-requires c = sizes_within _ _ c.args.words.now (cc)

pub returns : goal.returns
returns c = let long = words_within c.args.shape.rows.0 c.args.shape.cols.0 c.args.words.now (cc) in
    let plain = front_is_plain c.args.words.now _ long _ _ c.flatten.ensures _ c.count_of-count.ensures in
    answers c.args.par c.args.shape c.args.c.now (slices c.args.a1.now c.args.a2.now) c.args.b.now c.args.words.now c.args.work c.args.cone_work
    (past (cc) (past (cc) (past (ap not (sym c.operators_fit.ensures) ∙ c.if-not-operators_fit.false-raw)
    (plain-answered c.args.shape.rows.0 c.args.shape.cols.0 c.args.c.now (joined (slices c.args.a1.now c.args.a2.now)) c.args.b.now (plain_words c.args.words.now) c.args.work c.args.cone_work _ plain c.check_plain.ensures))))
