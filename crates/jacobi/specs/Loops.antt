-- What the loops of Jacobi's method leave.
use Rattle.std.specs.Prelude.{ℕ, ◌<◌, ◌≤◌, ◌≡◌, Bool, List, Float, length, set}
use Rattle.rules.specs.Arithmetic.{at}
use Rattle.rules.specs.Matrices.{packed_place}
use Rattle.rules.specs.Jacobi.{Rotating, Swept, in_packed, rotated_first, rotated_second}

abbrev pub state : List Float → List Float → ℕ → Rotating
state x z rotations = record { matrix = x; vectors = z; rotations = rotations }

abbrev pub swept : Rotating → Bool → Swept
swept reached succeeded = record { reached = reached; succeeded = succeeded }

-- what stands at row r and column c of a packed triangle
abbrev pub cell : List Float → ℕ → ℕ → Float
cell x r c = at x (packed_place r c)

-- the numbers at p and q, rotated as the first and the second of a pair
abbrev pub two_rotated : ℕ → ℕ → Float → Float → List Float → List Float
two_rotated p q c s x = set (set x p (rotated_first c s (at x p) (at x q))) q (rotated_second c s (at x p) (at x q))

-- the entries (i, i), (j, j) and (i, j)
pub record CornersOf (n i j : ℕ) (x : List Float) (a b d : Float) : Type 0 where
  pub first : a ≡ in_packed n x i i
  pub second : b ≡ in_packed n x j j
  pub shared : d ≡ in_packed n x i j

-- Rows and columns i and j of x' are those of x, rotated, but for their three common entries, of which nothing is said; the first k rows are done.
pub record RowsRotated (k i j : ℕ) (c s : Float) (x x' : List Float) : Type 0 where
  pub same : length x' ≡ length x
  pub first : (m : ℕ) → m < k → (m ≡ i → ⊥) → (m ≡ j → ⊥) → cell x' m i ≡ rotated_first c s (cell x m i) (cell x m j)
  pub second : (m : ℕ) → m < k → (m ≡ i → ⊥) → (m ≡ j → ⊥) → cell x' m j ≡ rotated_second c s (cell x m i) (cell x m j)
  pub first_later : (m : ℕ) → k ≤ m → (m ≡ i → ⊥) → (m ≡ j → ⊥) → cell x' m i ≡ cell x m i
  pub second_later : (m : ℕ) → k ≤ m → (m ≡ i → ⊥) → (m ≡ j → ⊥) → cell x' m j ≡ cell x m j
  pub others : (p q : ℕ) → (p ≡ i → ⊥) → (p ≡ j → ⊥) → (q ≡ i → ⊥) → (q ≡ j → ⊥) → cell x' p q ≡ cell x p q
