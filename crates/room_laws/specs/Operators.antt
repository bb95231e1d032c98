-- What the laws of the two diagonals are said over.
use Rattle.std.specs.Prelude.{List, Float}
use Rattle.rules.specs.declared.Shape.{Shape}
use Rattle.rules.specs.Problem.{Slices, Embed, embed_in}

-- c, A and b as operators: their absolute sums are added up from the left in either edition, so that edition one stands for both
abbrev pub operators_in : Shape → List Float → Slices → List Float → Embed
operators_in shape c a b = embed_in 1 shape c a b
