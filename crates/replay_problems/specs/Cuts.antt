-- The ways in which a dense matrix is cut in two.
use Rattle.std.specs.Prelude.{ℕ, ◌-◌, ◌/◌, cond, ◌==◌}

abbrev pub ways : ℕ
ways = 5

-- how many of n columns stand in the first slice: none, the first, half of them, all but the last, all
unfoldable pub columns_first : ℕ → ℕ → ℕ
columns_first way n =
    cond (n == 0) 0
    (cond (way == 0) 0
    (cond (way == 1) 1
    (cond (way == 2) (n / 2)
    (cond (way == 3) (n - 1) n))))
