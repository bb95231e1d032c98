-- `packed_transform::rows_at` meets its contract.
use mathlib.Core.Path.{ap, ◌∙◌}
use lib.ListN.{length, length-replicate}
use Rattle.rules.proofs.Arithmetic.{each-length}
use Rattle.packed_transform.proofs.Joined.{part_asked, rows_put}
use Rattle.packed_transform.proofs.rows_at.Goals as goal

pub left_of-requires : goal.left_of-requires
left_of-requires g c = part_asked _ c.args.x.now c.args.r c.requires.stored c.requires.x_len c.requires.r_bound (length-replicate _ _)

pub across-requires : goal.across-requires
across-requires g c = part_asked _ c.args.x.now c.args.r c.requires.stored c.requires.x_len c.requires.r_bound (ap length c.left_of.ensures ∙ each-length _ _ ∙ length-replicate _ _)

pub right_of-requires : goal.right_of-requires
right_of-requires g c = part_asked _ c.args.x.now c.args.r c.requires.stored c.requires.x_len c.requires.r_bound (ap length c.across.ensures ∙ each-length _ _ ∙ ap length c.left_of.ensures ∙ each-length _ _ ∙ length-replicate _ _)

pub returns : goal.returns
returns g c = rows_put c.args.n c.args.mat.now c.args.x.now c.args.r g.row.W c.args.alpha c.args.beta c.args.y.now c.requires.x_len c.requires.y_len c.requires.r_bound c.left_of.ensures c.across.ensures c.right_of.ensures c.put_sums.ensures
