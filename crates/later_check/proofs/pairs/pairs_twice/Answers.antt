-- `later_check::pairs::pairs_twice` meets its contract.
use native.Mathlib.Omega.{arith}
use Rattle.later_check.proofs.Counts.{pairs_on, pairs_end}
use Rattle.later_check.proofs.pairs.pairs_twice.Goals as goal

pub loop-word-preserved : goal.loop-word-preserved
loop-word-preserved c = record { left = omega (arith, pairs_on c.args.words.now c.loop-word.word-index c.loop-word-test.true, c.pairs_said-sum.ensures.value, c.loop-word.invariant.left); few = omega (arith, c.pairs_said-sum.ensures.few, c.loop-word.invariant.few) }

pub returns : goal.returns
returns c = omega (arith, pairs_end c.args.words.now c.loop-word.word-index c.loop-word-test.false, c.loop-word.invariant.left)
