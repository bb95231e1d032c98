-- `eig::rebuild_block` meets its contract.
use mathlib.Core.Path.{◌∙◌, ap}
use Rattle.rules.specs.Helpers.{reciprocal}
use Rattle.eig.proofs.Halves.{rebuilt_block}
use borrow.Author.Rules.{rules}
use Rattle.eig.proofs.rebuild_block.Goals as goal

pub returns : goal.returns
returns c = rebuilt_block c.args.n c.args.mat.now c.args.work.now _ _ _ _ (search rules) c.eigenvalues.ensures c.rebuild.ensures (c.reciprocal.ensures ∙ ap reciprocal c.root_two.ensures) c.scale_diagonal.ensures
