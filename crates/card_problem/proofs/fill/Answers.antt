-- `card_problem::fill` meets its contract: the front is filled, the rest is as it was.
use native.Mathlib.Omega.{arith}
use Prim.Native.Nat.{◌+◌}
use mathlib.Core.Path.{◌≡◌, refl}
use Rattle.card_problem.specs.Problem.{numbers_at}
use Rattle.card_problem.proofs.Numbers.{filled, filled_all}
use Rattle.card_problem.proofs.fill.Goals as goal

pub loop-k-init : goal.loop-k-init
unfolding numbers_at
loop-k-init c = refl

pub loop-k-preserved : goal.loop-k-preserved
loop-k-preserved c =
    let here : 0 + c.loop-k.k ≡ c.loop-k.k = omega arith in
    filled c.args.numbers.now 0 c.loop-k.k c.args.out.now c.loop-k.out c.number_at.result c.loop-k.invariant (omega arith) (rw here c.number_at.ensures)

pub returns : goal.returns
returns c = filled_all c.args.numbers.now 0 c.loop-k.k c.args.out.now c.loop-k.out c.loop-k.invariant (omega arith)
