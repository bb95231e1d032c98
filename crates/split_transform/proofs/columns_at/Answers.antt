-- `split_transform::columns_at` meets its contract.
use Rattle.side_by_side.proofs.SideBySide.{sums_put}
use Rattle.split_transform.proofs.columns_at.Goals as goal
use mathlib.Core.Path.{◌≡◌, sym, ◌∙◌}
use lib.ListN.{length, replicate, length-replicate}
use Rattle.rules.specs.Arithmetic.{+0}

pub columns_on-requires : goal.columns_on-requires
columns_on-requires g c =
    let long : length (replicate g.row.W +0) ≡ length c.args.y.now = length-replicate g.row.W +0 ∙ sym c.requires.y_len in
    record { rows_in_bounds = rw long c.requires.rows_in_bounds; x_len = c.requires.x_len; sums_bound = rw long c.requires.y_bound }

pub returns : goal.returns
returns g c = sums_put c.args.alpha c.args.beta _ g.row.W c.args.y.now _ c.requires.y_len c.columns_on.ensures c.put_sums.ensures
