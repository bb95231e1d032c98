-- `split_transform::split_columns` meets its contract.
use native.Mathlib.Omega.{arith}
use mathlib.Core.Path.{◌≡◌}
use lib.ListN.{length}
use Rattle.split_transform.proofs.Slices.{x₁_length, first_fits, rest_lent_fits, rest_lent_within, columns_put}
use Rattle.split_transform.proofs.split_columns.Goals as goal

pub columns_of-requires : goal.columns_of-requires
columns_of-requires c = record { mat_len = first_fits c.requires.split_stored c.args.y.now c.requires.y_len; x_len = c.requires.x_len; y_len_bound = omega (arith, x₁_length c.requires.split_stored c.args.y.now c.requires.y_len, c.requires.split_stored.cut, c.requires.split_stored.n_within) }

pub columns_of-requires-2 : goal.columns_of-requires-2
columns_of-requires-2 c = let as_many : length c.columns_of.new.y ≡ c.args.first.0 = omega (arith, c.requires, c.columns_of.auto, c.columns_of-arg-1) in record { mat_len = rest_lent_fits c.requires.split_stored c.args.x.now c.args.y.now c.columns_of.new.y c.requires.y_len as_many; x_len = c.requires.x_len; y_len_bound = rest_lent_within c.requires.split_stored c.args.x.now c.args.y.now c.columns_of.new.y c.requires.y_len as_many }

pub returns : goal.returns
returns c = let as_many : length c.columns_of.new.y ≡ c.args.first.0 = omega (arith, c.requires, c.columns_of.auto, c.columns_of-arg-1) in
    columns_put c.requires.split_stored c.args.x.now c.args.y.now c.columns_of.new.y c.requires.y_len as_many c.args.alpha c.args.beta _ c.requires.x_len c.columns_of.ensures c.columns_of-2.ensures
