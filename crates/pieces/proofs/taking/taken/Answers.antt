-- `pieces::taking::taken` meets its contract: the vectors start as +0, and of cone work the required part is lent.
use Prim.Native.Nat.{◌+◌, ◌*◌, ◌≤◌}
use mathlib.Core.Path.{refl, sym, ap}
use lib.ListN.{length, take}
use Rattle.rules.specs.Limits.{limit}
use Rattle.rules.specs.Problem.{problem_in, slices}
use Rattle.groups.specs.Flatten.{count_of}
use Rattle.groups.proofs.Front.{front_is_plain}
use Rattle.solver.proofs.Outcomes.{at_zero}
use Rattle.pieces.specs.Starts.{lengths_lent}
use Rattle.pieces.proofs.Whole.{piece_whole}
use Rattle.pieces.proofs.taking.taken.Goals as goal

pub piece_in-requires-clause-at_zero : goal.piece_in-requires-clause-at_zero
piece_in-requires-clause-at_zero c = at_zero c.args.shape c.requires.handed.taken.ready.operators.m_within c.requires.handed.taken.ready.operators.n_within (3 * limit + 1) (2 * limit + 1) refl refl

pub returns : goal.returns
returns c =
    let plain = front_is_plain c.args.words.now _ c.requires.handed.few_words _ _ c.flatten.ensures _ (sym (ap count_of c.unwrap-count.ensures)) in
    let list = take c.unwrap-count.result c.flatten.new.plain in
    let p = problem_in c.args.shape c.args.c.now (slices c.args.a1.now c.args.a2.now) c.args.b.now list c.args.par in
    let taken = rw (← plain) at c.requires.handed.taken in
    let enough : c.cone_work_len-needed.result ≤ length c.args.cone_work.now = rw c.cone_work_len-needed.ensures taken.cone_long in
    rw plain at (piece_whole c.args.start c.args.given (lengths_lent c.args.shape c.args.words.now c.args.work.now c.args.cone_work.now c.args.log.now) p c.args.work.now c.args.cone_work.now c.args.log.now _ c.cone_work_len-needed.ensures enough c.piece_in.ensures)
