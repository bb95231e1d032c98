-- Counts by number, modulo 2^64.
use Rattle.std.specs.Prelude.{ℕ, ◌+◌, ◌%◌, ◌^◌, List, slice_index, slice_set}
use Rattle.std.specs.List.{fold}

-- one more, and several together
abbrev pub plus : ℕ → ℕ → ℕ
plus a b = (a + b) % 2 ^ 64

-- one more at a place, if there is one
abbrev pub counted : List ℕ → ℕ → List ℕ
counted tally at = slice_set tally at (plus (slice_index tally at) 1)

-- all counts together
abbrev pub total_of : List ℕ → ℕ
total_of tally = fold plus 0 tally
