-- What the parts of the root say to one another.
use Rattle.std.specs.Prelude.{ℕ, ◌+◌, ◌*◌, ◌^◌, ◌≤◌, ◌<◌}

-- m is a number's digits, moved up so that its root has 53, and k the root's place. An m of 54 digits is even, so that it is not the last of them.
pub record Digits (m k : ℕ) : Type 0 where
  pub least : 2 ^ 52 ≤ m
  pub most : m + 1 < 2 ^ 54
  pub place : k ≤ 2045

-- q has 53 digits and is the whole number nearest to √(m * 2 ^ 52).
pub record Halved (m q : ℕ) : Type 0 where
  pub least : 2 ^ 52 ≤ q
  pub most : q < 2 ^ 53
  pub not_less : q * q < m * 2 ^ 52 + q
  pub not_more : m * 2 ^ 52 ≤ q * q + q
