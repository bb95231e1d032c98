-- What is answered of any block, also of one that no cone word says: document 01 gives a word 13 bits of size, 8191 at most.
use Rattle.std.specs.Prelude.{ℕ, Bool, cond, leb}
use Rattle.rules.specs.declared.Cone.{Cone}
use Rattle.rules.specs.Blocks.{places}
use Rattle.rules.specs.Projections.{block_work}

-- a block that a word can say
abbrev pub is_sayable : Cone → Bool
is_sayable cone = leb (places cone) 8191

-- its places and its cone work; none for a block that no word can say
unfoldable pub sayable_places : Cone → ℕ
sayable_places cone = cond (is_sayable cone) (places cone) 0

unfoldable pub sayable_work : Cone → ℕ
sayable_work cone = cond (is_sayable cone) (block_work cone) 0
