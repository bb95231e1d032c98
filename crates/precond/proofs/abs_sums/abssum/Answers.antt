-- `precond::abs_sums::abssum` meets its contract.
use mathlib.Core.Path.{◌∙◌}
use Rattle.rules.specs.Arithmetic.{+0}
use Rattle.rules.specs.Vectors.{scaled}
use Rattle.rules.proofs.KernelLengths.{scaled-length}
use Rattle.precond.proofs.LikeX.{rows_of_columns}
use Rattle.precond.proofs.abs_sums.abssum.Goals as goal

pub returns-clause-sigma_left : goal.returns-clause-sigma_left
returns-clause-sigma_left c = rw (c.column_sums.ensures, c.scale.ensures) at c.row_sums.ensures
    ∙ rows_of_columns c.args.k.now (scaled +0 c.args.tau.now) (record { is = scaled-length +0 c.args.tau.now ∙ c.requires.like_x.is })
