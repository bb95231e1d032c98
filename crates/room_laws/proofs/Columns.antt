-- A column that is not shown, and places that can be counted.
use Prim.Native.Nat.{ℕ, ◌+◌, ◌*◌, ◌≤◌}
use native.Mathlib.Nat.{mul-le-mul}
use native.Mathlib.Omega.{arith}
use mathlib.Core.Path.{◌≡◌}
use mathlib.Core.Bool.{true, false}
use mathlib.Core.List.{List, []}
use borrow.Author.Tests.{le-ltb}
use mir.Syntax.{w64}
use mir.Val.{Fits}
use lib.Ieee.{Float}
use Rattle.rules.specs.Limits.{limit}
use Rattle.rules.specs.Split.{split_fits, column_shown}

square_within : (a b : ℕ) → a ≤ limit → b ≤ limit → a * b ≤ limit * limit
square_within a b h l = mul-le-mul h l

-- a place of a matrix within the limits can be counted, in numbers and in bytes
module _ (a b : ℕ) (a_within : a ≤ limit) (b_within : b ≤ limit) where
  pub start_counted : Fits w64 (a * b)
  start_counted = record { fits = omega (arith, square_within a b a_within b_within) }

  pub end_counted : (r : ℕ) → r ≤ limit → Fits w64 (a * b + r)
  end_counted r h = record { fits = omega (arith, square_within a b a_within b_within) }

  pub bytes_counted : Fits w64 (a * b * 8)
  bytes_counted = record { fits = omega (arith, square_within a b a_within b_within) }

-- nothing is shown where the slices do not fit, or there is no such column
module _ (m n n1 : ℕ) (factory lesson : List Float) (k : ℕ) where
  pub none_shown : split_fits m n n1 factory lesson ≡ false → column_shown m n n1 factory lesson k ≡ []
  unfolding column_shown
  none_shown e = rw e

  pub none_beyond : split_fits m n n1 factory lesson ≡ true → n ≤ k → column_shown m n n1 factory lesson k ≡ []
  unfolding column_shown
  none_beyond e h = rw (e, le-ltb k n h)
