-- `matop::operate` meets its contract.
use mathlib.Core.Path.{sym, ◌∙◌}
use borrow.Author.Tests.{not-true, not-false}
use Rattle.rules.proofs.Outcome.{refused, done}
use Rattle.matop.proofs.Operator.{scales_if_empty, transforms, transforms_packed}
use Rattle.matop.proofs.operate.Goals as goal

pub returns-then-not-transform_fits : goal.returns-then-not-transform_fits
returns-then-not-transform_fits c = refused (sym c.transform_fits.ensures ∙ not-true _ c.if-not-transform_fits.true-raw)

pub returns-then-is_empty : goal.returns-then-is_empty
returns-then-is_empty c = done (sym c.transform_fits.ensures ∙ not-false _ c.if-not-transform_fits.false-raw) (c.scale.ensures ∙ scales_if_empty _ _ _ _ _ _ _ (sym c.is_empty.ensures ∙ c.if-is_empty.true))

pub returns-in-General : goal.returns-in-General
returns-in-General c = let some = sym c.is_empty.ensures ∙ c.if-is_empty.false in
    rw c.in-General.is (transforms _ _ _ _ _ _ _ (rw c.in-General.is at some) c.transform_ge.ensures)

pub returns-in-SymPack : goal.returns-in-SymPack
returns-in-SymPack c = let some = sym c.is_empty.ensures ∙ c.if-is_empty.false in
    rw c.in-SymPack.is (transforms_packed _ _ _ _ _ _ _ (rw c.in-SymPack.is at some) c.transform_sp.ensures)
