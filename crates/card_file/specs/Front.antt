-- What reading the front of a card file does to a buffer. Of the file itself, and of what was read of it, nothing can be said.
use Rattle.std.specs.Prelude.{ℕ, ◌≤◌, ◌<◌, ◌≡◌, List, length, drop}
use Rattle.card.specs.Card.{front_length}

-- of a file that has at most so many bytes: no more than its front is counted, and the places after that are kept; a buffer that does not hold the front is kept, and 0 counted
pub record FrontOutcome (most : ℕ) (before : List ℕ) (count : ℕ) (after : List ℕ) : Type 0 where
  pub too_short : length before < front_length most → (count ≡ 0) × (after ≡ before)
  pub within : count ≤ front_length most
  pub kept : drop (front_length most) after ≡ drop (front_length most) before
