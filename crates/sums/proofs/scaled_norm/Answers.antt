-- `sums::scaled_norm` meets its contract.
use mathlib.Core.Path.{◌∙◌, ap}
use lib.Ieee.{binary64, of_bits, nan_bits}
use Rattle.rules.specs.Arithmetic.{◌*ᶠ◌, +0}
use Rattle.rules.specs.Root.{root}
use Rattle.rules.specs.Vectors.{two^600, two^−600}
use Rattle.rules.proofs.Arithmetic.{summed_none, summed_more}
use Rattle.rules.proofs.LargeNorms.{scaled-summed}
use borrow.Author.Rules.{rules}
use Rattle.sums.proofs.scaled_norm.Goals as goal

pub float_from_bits-down : goal.float_from_bits-down
unfolding nan_bits
float_from_bits-down c = search rules

pub float_from_bits-up : goal.float_from_bits-up
unfolding nan_bits
float_from_bits-up c = search rules

pub loop-v-init : goal.loop-v-init
loop-v-init c = summed_none +0 _

pub loop-v-preserved : goal.loop-v-preserved
unfolding of_bits
loop-v-preserved c = summed_more c.loop-v.invariant

pub returns : goal.returns
unfolding of_bits
returns c = ap (λ r. r *ᶠ two^600) (c.root.ensures ∙ ap (root binary64) (scaled-summed two^−600 c.args.x.now c.loop-v.invariant (search rules)))
