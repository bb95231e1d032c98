-- A card's bytes by their places: what the writer's own functions are held to.
use Rattle.std.specs.Prelude.{ℕ, ◌*◌, List, ◌++◌, drop, replicate}
use Rattle.card.specs.Fields.{field_at}

-- the byte that the eight bits from place 8 * i on say, zero bits after the last
unfoldable pub byte_at : List ℕ → ℕ → ℕ
unfolding field_at
byte_at bits i = field_at 0 8 (drop (8 * i) bits ++ replicate 8 0)
