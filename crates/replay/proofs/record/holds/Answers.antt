-- `replay::record::holds` meets its contract.
use borrow.Author.Rules.{rules}
use native.Mathlib.Omega.{arith}
use Prim.Native.Nat.{◌+◌}
use mathlib.Core.Path.{◌≡◌, refl, sym, ◌∙◌}
use Rattle.replay.specs.Records.{stands}
use Rattle.replay.proofs.Records.{stand_more, stand_end}
use mathlib.Core.Bool.{true, false}
use borrow.Author.Tests.{ne_eqb, eq-eqb}
use Rattle.rules.specs.Arithmetic.{at as place}
use Rattle.replay.proofs.record.holds.Goals as goal

pub loop-i-init : goal.loop-i-init
loop-i-init c = let from : c.args.at + 0 ≡ c.args.at = omega arith in
    rw from refl

pub returns-then-pattern_of-word_after : goal.returns-then-pattern_of-word_after
returns-then-pattern_of-word_after c = let e : stands c.args.«record».now (c.args.at + c.loop-i.i) (place c.args.numbers.now c.loop-i.i) ≡ false = ne_eqb _ _ (λ same. c.if-pattern_of-word_after.true (c.pattern_of.ensures ∙ same ∙ sym c.word_after.ensures)) in
    sym (rw e at (sym c.loop-i.invariant ∙ stand_more _ _ c.args.numbers.now c.loop-i.i (search rules)))

pub loop-i-preserved : goal.loop-i-preserved
loop-i-preserved c = let e : stands c.args.«record».now (c.args.at + c.loop-i.i) (place c.args.numbers.now c.loop-i.i) ≡ true = eq-eqb _ _ (sym c.pattern_of.ensures ∙ c.if-pattern_of-word_after.false ∙ c.word_after.ensures) in
    sym (rw e at (sym c.loop-i.invariant ∙ stand_more _ _ c.args.numbers.now c.loop-i.i (search rules)))

pub returns : goal.returns
returns c = sym (stand_end _ c.args.at _ c.loop-i.i (search rules)) ∙ c.loop-i.invariant
