-- `eig::sweep_block` meets its contract.
use Rattle.eig.proofs.Halves.{swept_block}
use mathlib.Core.Path.{◌∙◌, ap}
use lib.Ieee.{Float}
use Rattle.rules.specs.Projections.{diagonal_times}
use Rattle.eig.proofs.sweep_block.Goals as goal

pub returns : goal.returns
returns c = swept_block c.args.par c.args.n c.args.mat.now c.args.work.now _ _ c.requires.n_in_bounds (c.scale_diagonal.ensures ∙ ap (λ (v : Float). diagonal_times v c.args.n c.args.mat.now) c.root_two.ensures) c.start.ensures c.requires.packed c.requires.par_value c.jacobi_eig.ensures
