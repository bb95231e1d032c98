-- A row of a packed matrix times x, over some of its columns, added to the sum so far.
use Rattle.std.specs.Prelude.{ℕ, ◌+◌, ◌-◌, List, Float}
use Rattle.rules.specs.Arithmetic.{◌*ᶠ◌, at, sum_from}
use Rattle.rules.specs.Matrices.{packed_place}

abbrev pub term : List Float → List Float → ℕ → ℕ → Float
term mat x r c = at mat (packed_place r c) *ᶠ at x c

-- the columns from `start` up to `end`
abbrev pub row_on : Float → List Float → List Float → ℕ → ℕ → ℕ → Float
row_on so_far mat x r start end = sum_from so_far (end - start) (λ j. term mat x r (start + j))
