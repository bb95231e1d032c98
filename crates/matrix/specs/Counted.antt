-- What `triangle` answers of any order, also of one whose triangle 64 bits can't count.
use Rattle.std.specs.Prelude.{ℕ, cond, leb}
use Rattle.rules.specs.Matrices.{triangle}

-- the largest order whose triangle is counted, 2³² - 1, and the largest number of 64 bits
abbrev pub largest_order : ℕ
largest_order = 4294967295

abbrev pub largest : ℕ
largest = 18446744073709551615

-- the triangle; the largest number for an order above the largest
unfoldable pub counted_triangle : ℕ → ℕ
counted_triangle n = cond (leb n largest_order) (triangle n) largest
