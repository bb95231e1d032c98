-- `columns::dense_cols` meets its contract.
use Rattle.rules.specs.Arithmetic.{◌+ᶠ◌}
use Rattle.rules.specs.Vectors.{abssum}
use Rattle.rules.specs.Split.{column_shown}
use Rattle.rules.proofs.Arithmetic.{Reached}
use Rattle.columns.proofs.dense_cols.Given as goal

abbrev pub invariant-loop-k : goal.invariant-loop-k
invariant-loop-k l = Reached (λ i v. abssum (column_shown l.rows.0 l.cols.0 l.first.0 l.factory l.lesson i) 1 +ᶠ v) l.k l.initial.y l.y
