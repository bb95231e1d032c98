-- `cone::proj` meets its contract.
use mathlib.Core.Path.{sym, ◌∙◌}
use Rattle.rules.proofs.Outcome.{block_refused, block_done, ruled_if_fits}
use Rattle.rules.specs.Projections.{proj_block}
use Rattle.cone.proofs.Within.{within}
use Rattle.cone.proofs.proj.Goals as goal

pub returns-then-not-block_fits : goal.returns-then-not-block_fits
returns-then-not-block_fits c = block_refused (sym c.block_fits.ensures ∙ c.if-not-block_fits.true)

pub returns-in-Zero : goal.returns-in-Zero
unfolding proj_block
returns-in-Zero c = block_done (sym c.block_fits.ensures ∙ c.if-not-block_fits.false) (rw (c.in-Zero.is, c.proj_zero.ensures))

pub returns-in-RPos : goal.returns-in-RPos
unfolding proj_block
returns-in-RPos c = block_done (sym c.block_fits.ensures ∙ c.if-not-block_fits.false) (rw (c.in-RPos.is, c.proj_rpos.ensures))

pub returns-in-SOC : goal.returns-in-SOC
unfolding proj_block
returns-in-SOC c = let fit = sym c.block_fits.ensures ∙ c.if-not-block_fits.false in
    block_done fit (rw (c.in-SOC.is, ruled_if_fits c.proj_soc.ensures (within c.args.par c.args.cone c.args.x.now c.args.work.now fit)))

pub returns-in-RotSOC : goal.returns-in-RotSOC
unfolding proj_block
returns-in-RotSOC c = let fit = sym c.block_fits.ensures ∙ c.if-not-block_fits.false in
    block_done fit (rw (c.in-RotSOC.is, ruled_if_fits c.proj_rotsoc.ensures (within c.args.par c.args.cone c.args.x.now c.args.work.now fit)))

pub returns-in-PSD : goal.returns-in-PSD
unfolding proj_block
returns-in-PSD c = rw c.in-PSD.is c.map_eig.ensures
