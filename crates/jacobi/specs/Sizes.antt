-- Sizes within the limits.
use Rattle.std.specs.Prelude.{ℕ, ◌*◌, ◌<◌, ◌≤◌, ◌≡◌, List, Float, length}
use Rattle.rules.specs.Limits.{limit, most_sweeps}
use Rattle.rules.specs.Matrices.{triangle}

-- x is a packed triangle of order n
pub record IsPacked (n : ℕ) (x : List Float) : Type 0 where
  pub order : n ≤ limit
  pub stored : length x ≡ triangle n

-- z is n columns of n
pub record IsSquare (n : ℕ) (z : List Float) : Type 0 where
  pub order : n ≤ limit
  pub stored : length z ≡ n * n

pub record IsPair (n i j : ℕ) : Type 0 where
  pub rising : i < j
  pub inside : j < n

-- more rotations than one call makes, and far fewer than a count holds
abbrev pub most_rotations : ℕ
most_rotations = most_sweeps * (limit * limit)
