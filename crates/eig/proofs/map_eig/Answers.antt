-- `eig::map_eig` meets its contract.
use native.Mathlib.Omega.{arith}
use mathlib.Core.Path.{◌≡◌, sym, ap, ◌∙◌}
use mathlib.Core.Bool.{true}
use Rattle.std.specs.Prelude.{Some}
use Rattle.rules.specs.declared.Cone.TheVariants.{PSD}
use Rattle.rules.specs.Projections.{block_fits}
use Rattle.rules.proofs.Outcome.{block_refused}
use Rattle.eig.proofs.Halves.{Fitting, fitting, failed, done}
use Rattle.eig.proofs.map_eig.Goals as goal

pub returns-then-not-block_fits : goal.returns-then-not-block_fits
returns-then-not-block_fits c = block_refused (sym c.block_fits.ensures ∙ c.if-not-block_fits.true)

pub sweep_block-requires : goal.sweep_block-requires
sweep_block-requires c =
    let known : Fitting c.args.par c.args.order c.args.mat.now c.args.work.now = fitting _ _ _ _ (sym c.block_fits.ensures ∙ c.if-not-block_fits.false) in
    record { packed = known.sized; n_in_bounds = known.room; par_value = known.few }

pub rebuild_block-requires : goal.rebuild_block-requires
rebuild_block-requires c =
    let known : Fitting c.args.par c.args.order c.args.mat.now c.args.work.now = fitting _ _ _ _ (sym c.block_fits.ensures ∙ c.if-not-block_fits.false) in
    record { packed = record { order = known.sized.order; stored = c.sweep_block.auto.mat ∙ known.sized.stored }; n_in_bounds = omega (arith, known.room, c.sweep_block.auto.work) }

pub returns-in-Done : goal.returns-in-Done
returns-in-Done c =
    let fits : block_fits c.args.par (PSD c.args.order) c.args.mat.now c.args.work.now ≡ true = sym c.block_fits.ensures ∙ c.if-not-block_fits.false in
    let known : Fitting c.args.par c.args.order c.args.mat.now c.args.work.now = fitting _ _ _ _ fits in
    rw c.in-Done.is
    (done c.args.par c.args.order c.args.mat.now c.args.work.now fits c.sweep_block.ensures _ (c.in_ok-swept.was ∙ ap Some c.in-Done.is) _ _ known.room c.rebuild_block.ensures)

pub returns-in_default : goal.returns-in_default
returns-in_default c =
    rw c.in_default.is
    (failed c.args.par c.args.order c.args.mat.now c.args.work.now (sym c.block_fits.ensures ∙ c.if-not-block_fits.false) c.sweep_block.ensures _ (c.in_ok-swept.was ∙ ap Some c.in_default.is))
