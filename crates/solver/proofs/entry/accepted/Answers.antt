-- `solver::entry::accepted` meets its contract: the vectors start as +0, and of cone work the required part is lent.
use Prim.Native.Nat.{◌+◌, ◌*◌}
use mathlib.Core.Path.{refl, sym, ap}
use lib.ListN.{take}
use Rattle.rules.specs.Limits.{limit}
use Rattle.rules.specs.Problem.{problem_in, slices}
use Rattle.groups.specs.Flatten.{count_of}
use Rattle.groups.proofs.Front.{front_is_plain}
use Rattle.solver.proofs.Outcomes.{at_zero, left_as}
use Rattle.solver.proofs.entry.accepted.Goals as goal

pub run_in-requires-clause-at_zero : goal.run_in-requires-clause-at_zero
run_in-requires-clause-at_zero c = at_zero c.args.shape c.requires.taken.ready.operators.m_within c.requires.taken.ready.operators.n_within (3 * limit + 1) (2 * limit + 1) refl refl

pub returns : goal.returns
returns c =
    let plain = front_is_plain c.args.words.now _ c.requires.few_words _ _ c.flatten.ensures _ (sym (ap count_of c.unwrap-count.ensures)) in
    let list = take c.unwrap-count.result c.flatten.new.plain in
    let p = problem_in c.args.shape c.args.c.now (slices c.args.a1.now c.args.a2.now) c.args.b.now list c.args.par in
    rw plain at (left_as p c.args.work.now c.args.cone_work.now c.args.log.now _ c.cone_work_len-needed.ensures _ _ _ _ c.run_in.ensures)
