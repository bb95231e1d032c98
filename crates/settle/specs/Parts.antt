-- What the pieces of work become when a run ends.
use Rattle.std.specs.Prelude.{ℕ, ◌+◌, List, ◌++◌, Float, length, take, drop}

-- v written over a list from a place on
unfoldable pub copied_to : ℕ → List Float → List Float → List Float
copied_to start v w = take start w ++ v ++ drop (start + length v) w
