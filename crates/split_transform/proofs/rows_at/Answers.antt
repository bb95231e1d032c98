-- `split_transform::rows_at` meets its contract.
use native.Mathlib.Omega.{arith}
use mathlib.Core.Path.{◌∙◌}
use Rattle.side_by_side.proofs.SideBySide.{each_after, sums_put}
use Rattle.split_transform.proofs.Slices.{x₁_length, x₂_length, first_fits, rest_fits, rows_run_on}
use Rattle.split_transform.proofs.rows_at.Goals as goal
use mathlib.Core.Path.{◌≡◌, sym, ap, ◌∙◌}
use lib.ListN.{length, replicate, length-replicate}
use Rattle.rules.specs.Arithmetic.{+0, each}
use Rattle.rules.proofs.Arithmetic.{each-length}

pub rows_on-requires : goal.rows_on-requires
rows_on-requires g c =
    let long : length (replicate g.row.W +0) ≡ length c.args.y.now = length-replicate g.row.W +0 ∙ sym c.requires.y_len in
    record { mat_len = first_fits c.requires.split_stored c.args.x.now c.requires.x_len; rows_le_limit = c.requires.split_stored.m_within; x_len_bound = omega (arith, x₁_length c.requires.split_stored c.args.x.now c.requires.x_len, c.requires.split_stored.cut, c.requires.split_stored.n_within); sums_bound = rw long c.requires.y_bound }

pub rows_on-requires-2 : goal.rows_on-requires-2
rows_on-requires-2 g c =
    let long : length c.rows_on.new.sums ≡ length c.args.y.now = ap length c.rows_on.ensures ∙ each-length _ _ ∙ length-replicate g.row.W +0 ∙ sym c.requires.y_len in
    record { mat_len = rest_fits c.requires.split_stored c.args.x.now c.requires.x_len; rows_le_limit = c.requires.split_stored.m_within; x_len_bound = omega (arith, x₂_length c.requires.split_stored c.args.x.now c.requires.x_len, c.requires.split_stored.n_within); sums_bound = rw long c.requires.y_bound }

pub returns : goal.returns
returns g c =
    sums_put c.args.alpha c.args.beta _ g.row.W c.args.y.now _ c.requires.y_len (c.rows_on-2.ensures ∙ ap (each _) c.rows_on.ensures ∙ each_after _ _ _) c.put_sums.ensures
    ∙ rows_run_on c.requires.split_stored c.args.x.now c.args.alpha c.args.beta c.args.r c.args.y.now c.requires.x_len c.requires.y_bound
