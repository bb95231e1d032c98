-- When two lists hold the same numbers, bit for bit. Every NaN is one pattern.
use Rattle.std.specs.Prelude.{Bool, ◌&&◌, List, length, ◌==◌, Float}
use Rattle.std.specs.List.{list_all, zip}
use Rattle.std.specs.Float.{binary64}
use Rattle.std.specs.Float.Ieee.{to_bits}

-- the same numbers at the places that both have
abbrev pub same_places : List Float → List Float → Bool
same_places xs ys = list_all (λ p. to_bits binary64 p.0 == to_bits binary64 p.1) (zip xs ys)

-- the same numbers, and as many
abbrev pub same_bits : List Float → List Float → Bool
same_bits xs ys = length xs == length ys && same_places xs ys
