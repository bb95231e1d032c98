-- `columns::dense_rows` meets its contract.
use Rattle.rules.specs.Arithmetic.{◌+ᶠ◌}
use Rattle.rules.proofs.Arithmetic.{Reached}
use Rattle.columns.proofs.Shown.{abs_row_on}
use Rattle.columns.proofs.dense_rows.Given as goal

abbrev pub invariant-loop-r : goal.invariant-loop-r
invariant-loop-r l = Reached (λ i v. abs_row_on l.rows.0 l.factory l.lesson l.n1 l.n2 i +ᶠ v) l.r l.initial.y l.y
