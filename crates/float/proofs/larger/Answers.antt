-- `float::larger` meets its contract: of two zeros each pair of signs is computed, all else is found by the rule's tests.
use mathlib.Core.Path.{sym, ◌∙◌}
use mathlib.Core.Logic.{inl, inr}
use lib.Ieee.{add}
use Rattle.rules.specs.Helpers.{larger}
use Rattle.rules.proofs.Helpers.{zero_is}
use Rattle.rules.proofs.Matrices.{both_true}
use Rattle.float.proofs.Library.{max_of_others}
use Rattle.float.proofs.larger.Goals as goal

pub returns-then-both_zero : goal.returns-then-both_zero
unfolding larger add
returns-then-both_zero c = let zeros = both_true _ _ (sym c.both_zero.ensures ∙ c.if-both_zero.true) in
    let first = zero_is c.args.a (rw c.well_formed.0.1 tt) zeros.0 in
    let second = zero_is c.args.b (rw c.well_formed.1.0.1 tt) zeros.1 in
    elim first [
      | inl p ↦ elim second [ inl q ↦ rw (p, q) | inr q ↦ rw (p, q) ]
      | inr p ↦ elim second [ inl q ↦ rw (p, q) | inr q ↦ rw (p, q) ]
    ]

pub returns-else-both_zero : goal.returns-else-both_zero
returns-else-both_zero c = max_of_others c.args.a c.args.b _ (rw c.well_formed.0.1 tt) (rw c.well_formed.1.0.1 tt) (sym c.both_zero.ensures ∙ c.if-both_zero.false) c.max-of_others.ensures.value
