-- One more row of the progress record, by what putting it answered.
use Prim.Native.Nat.{◌+◌}
use mathlib.Core.Path.{◌≡◌, sym, ◌∙◌}
use mathlib.Core.Bool.{Bool, true, false}
use mathlib.Core.List.{List}
use lib.Ieee.{Float}
use Rattle.rules.specs.declared.Criteria.{Criteria}
use Rattle.rules.specs.Outcome.{Outcome}
use Rattle.rules.specs.Progress.{row_of, row_fits, row_put, log_row}
use Rattle.rules.proofs.Outcome.{ruled_if_fits}
use Rattle.rules.proofs.Progress.{row_written, row_dropped}
use Rattle.iterate.specs.declared.RowCounts.{RowCounts}
use Rattle.iterate.specs.Record.{log_with}

module _ (tau : Float) (found : Criteria) (counts : RowCounts) {log log' : List Float} {put : Bool} (o : Outcome (row_fits counts.written log) (row_put counts.written (row_of tau found) log) log put log') where
  pub counted_written : put ≡ true → log_with (record { written = counts.written + 1; dropped = counts.dropped }) log' ≡ log_row (row_of tau found) (log_with counts log)
  counted_written e =
      let fits : row_fits counts.written log ≡ true = sym o.answered ∙ e in
      rw (row_written (row_of tau found) (log_with counts log) fits, ruled_if_fits o fits)

  pub counted_dropped : put ≡ false → log_with (record { written = counts.written; dropped = counts.dropped + 1 }) log' ≡ log_row (row_of tau found) (log_with counts log)
  counted_dropped e =
      let full : row_fits counts.written log ≡ false = sym o.answered ∙ e in
      rw (row_dropped (row_of tau found) (log_with counts log) full, o.left, full)
