-- `jacobi::pair` meets its contract.
use mathlib.Core.Path.{sym, ◌∙◌}
use Rattle.jacobi.proofs.Sweeps.{pair_on, pair_off}
use Rattle.jacobi.proofs.pair.Goals as goal

pub returns-then-is_rotated : goal.returns-then-is_rotated
returns-then-is_rotated c = pair_on c.args.n c.args.tol c.args.i c.args.j c.args.x.now c.args.z.now _ _ c.args.rotations (sym c.is_rotated.ensures ∙ c.if-is_rotated.true) c.rotate.ensures

pub returns : goal.returns
returns c = pair_off c.args.n c.args.tol c.args.i c.args.j c.args.x.now c.args.z.now c.args.rotations (sym c.is_rotated.ensures ∙ c.if-is_rotated.false)
