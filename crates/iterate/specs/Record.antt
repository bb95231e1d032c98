-- What a step makes of the progress record, by what it answered.
use Rattle.std.specs.Prelude.{ℕ, cond, List, Float}
use Rattle.rules.specs.Progress.{Log, is_due, row_of, log_row}
use Rattle.whole_step.specs.declared.StepAnswer.{StepAnswer}
use Rattle.whole_step.specs.declared.StepAnswer.TheVariants.{Judged, Failed}
use Rattle.iterate.specs.declared.RowCounts.{RowCounts}

-- a record of these places, with its rows so far
abbrev pub log_with : RowCounts → List Float → Log
log_with counts places = record { places = places; written = counts.written; dropped = counts.dropped }

-- step k, which answered so and left this tau
abbrev pub log_answered : ℕ → ℕ → Float → StepAnswer → Log → Log
log_answered period k tau (Judged found made) log = cond (is_due period k) (log_row (row_of tau found) log) log
log_answered period k tau (Failed b made) log = log
