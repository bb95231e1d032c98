-- How many records agree with a list, and how many differ.
use Rattle.std.specs.Prelude.{ℕ}
use Rattle.tally.specs.Tallies.{plus}
use Rattle.tally.specs.declared.counts.Counts.{Counts}

abbrev pub counts : ℕ → ℕ → Counts
counts agree differ = record { records = plus agree differ; agree = agree; differ = differ }
