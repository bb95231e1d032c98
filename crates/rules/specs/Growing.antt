-- A list of numbers, words or bytes, that grows in a buffer: what the routines that put one part after another are held to.
use Rattle.std.specs.Prelude.{ℕ, ◌≡◌, List, ◌++◌, take, drop}

-- so many places of a buffer are those before a place and then a part, and the others are kept
pub record Grown (at : ℕ) (before part : List ℕ) (count : ℕ) (after : List ℕ) : Type 0 where
  pub text : take count after ≡ take at before ++ part
  pub kept : drop count after ≡ drop count before
