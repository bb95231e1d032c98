-- How many numbers and how many bits a card has at most.
use Prim.Native.Nat.{ℕ, ◌+◌, ◌*◌, ◌≤◌, ◌<◌}
use native.Mathlib.Nat.{mul-le-mul}
use native.Mathlib.Omega.{arith}
use mathlib.Core.Path.{◌≡◌}
use mathlib.Core.Bool.{Bool, true, false}
use borrow.Author.Tests.{le-leb, lt-leb}
use Rattle.rules.specs.declared.Rows.{Rows}
use Rattle.rules.specs.declared.Cols.{Cols}
use Rattle.rules.specs.declared.Storage.{Storage}
use Rattle.rules.specs.Refusals.{is_packed}
use Rattle.card.specs.Card.{numbers_of_a, number_count}
use Rattle.card.specs.Outcome.{stored_of}

pub triangle_most : (n : ℕ) → n ≤ 32 → n * (n + 1) ≤ 1056
triangle_most n h = mul-le-mul {n₁ = n} {m₁ = n + 1} {n₂ = 32} {m₂ = 33} h (omega arith)

pub product_most : (m n : ℕ) → m ≤ 32 → n ≤ 32 → m * n ≤ 1024
product_most m n g h = mul-le-mul {n₁ = m} {m₁ = n} {n₂ = 32} {m₂ = 32} g h

pub number_most : (packed : Bool) (n m : ℕ) → n ≤ 32 → m ≤ 32 → number_count packed n m ≤ 1091
number_most true n m g h = omega (arith, triangle_most n g)
number_most false n m g h = omega (arith, product_most m n h g)

-- ---- how many numbers A has

module _ (storage : Storage) (rows : Rows) (cols : Cols) where
  pub stored_large_n : 32 < cols.0 → stored_of storage rows cols ≡ 0
  unfolding stored_of
  stored_large_n h = rw (lt-leb cols.0 32 h)

  pub stored_large_m : cols.0 ≤ 32 → 32 < rows.0 → stored_of storage rows cols ≡ 0
  unfolding stored_of
  stored_large_m g h = rw (le-leb cols.0 32 g, lt-leb rows.0 32 h)

  pub stored_is : cols.0 ≤ 32 → rows.0 ≤ 32 → stored_of storage rows cols ≡ numbers_of_a (is_packed storage) cols.0 rows.0
  unfolding stored_of
  stored_is g h = rw (le-leb cols.0 32 g, le-leb rows.0 32 h)
