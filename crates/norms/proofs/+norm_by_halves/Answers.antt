use native.Mathlib.Omega.{arith}
use mathlib.Core.Path.{sym, ◌∙◌, ap}
use borrow.Author.Rules.{rules}
use lib.Ieee.{binary64, of_bits, nan_bits, div}
use Rattle.rules.specs.Arithmetic.{◌*ᶠ◌}
use Rattle.rules.specs.Root.{root}
use Rattle.rules.specs.Vectors.{two^600}
use Rattle.rules.proofs.LargeNorms.{norm_of_other_sum, norm_of_not_finite, norm_of_large}
use Rattle.norms.proofs.ByEdition.{smaller-sum}
use Rattle.norms.proofs.+norm_by_halves.Goals as goal
use Rattle.norms.proofs.+norm_by_halves.Goals.{else-sum-via-then-sum+else-all_finite, else-sum-via-else-sum}

pub float_from_bits-up : goal.float_from_bits-up
unfolding nan_bits
float_from_bits-up t c = search rules

pub returns-then-smaller : goal.returns-then-smaller
unfolding of_bits
returns-then-smaller t c =
    let small = c.if-smaller.true in
    rw small (ap (λ r. r *ᶠ two^600) (c.root.ensures ∙ ap (root binary64) (smaller-sum c.args.x.now (rw small at c.squares_by_halves-sum.ensures))))

pub norm_by_halves-requires : goal.norm_by_halves-requires
norm_by_halves-requires t c = (rw (← c.decreases, c.if-smaller.false) (omega arith), search rules)

pub returns-then-all_finite : goal.returns-then-all_finite
unfolding div of_bits
returns-then-all_finite t c =
    let x = c.args.x.now in
    let small = c.if-smaller.false in
    rw small (c.norm_by_halves.ensures ∙ sym (norm_of_large 2 x (rw (rw small at c.squares_by_halves-sum.ensures) at c.if-sum.true) (sym c.all_finite.ensures ∙ c.if-all_finite.true)))

pub returns : goal.returns
unfolding div of_bits
returns t c =
    let x = c.args.x.now in
    let small = c.if-smaller.false in
    let sum_is_lem = rw small at c.squares_by_halves-sum.ensures in
    rw small (c.root-2.ensures ∙ ap (root binary64) sum_is_lem
    ∙ sym (elim c.else-sum.branch [ else-sum-via-then-sum+else-all_finite w ↦ norm_of_not_finite 2 x (sym w.all_finite.ensures ∙ w.if-all_finite.false) | else-sum-via-else-sum w ↦ norm_of_other_sum 2 x (rw sum_is_lem at w.if-sum.false) ]))
