-- `jacobi::rotate` meets its contract.
use mathlib.Core.Path.{◌∙◌}
use Rattle.jacobi.proofs.Angles.{tangent_read}
use Rattle.jacobi.proofs.Sweeps.{rotated_by}
use Rattle.jacobi.proofs.rotate.Goals as goal

pub returns : goal.returns
returns c = rotated_by c.args.n c.args.i c.args.j c.args.x.now c.args.z.now _ _ c.tangent-t.result c.cosine-c.result (c.tangent-t.ensures ∙ tangent_read c.read_corners-m.ensures) c.cosine-c.ensures c.rotate_matrix.ensures c.rotate_vectors.ensures
