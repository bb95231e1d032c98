-- A card's fields by their places: what the reader's own functions are held to.
use Rattle.std.specs.Prelude.{ℕ, zero, suc, ◌+◌, ◌*◌, cond, List, [], ◌∷◌, leb, eqb, length, take, drop}
use Rattle.card.specs.declared.Fault.TheVariants.{Short}
use Rattle.card.specs.Card.{value_from, value, Card, Reading, fault, closed, number_count}

-- the number that the w bits from a place on say
unfoldable pub field_at : ℕ → ℕ → List ℕ → ℕ
unfolding value_from
field_at at w bits = value (take w (drop at bits))

-- so many fields of a width, one after another
unfoldable pub fields_at : ℕ → ℕ → ℕ → List ℕ → List ℕ
unfolding field_at
fields_at zero at w bits = []
fields_at (suc k) at w bits = field_at at w bits ∷ fields_at k (at + w) w bits

abbrev pub count_at : List ℕ → ℕ
count_at bits = field_at 17 6 bits

-- how many bits a card has, and what it says, once n and m are known
unfoldable pub bit_count : ℕ → ℕ → List ℕ → ℕ
unfolding field_at
bit_count n m bits = 23 + 16 * count_at bits + 20 + 7 + 64 * number_count (eqb (field_at 4 1 bits) 1) n m

unfoldable pub card_at : ℕ → ℕ → List ℕ → Card
unfolding field_at fields_at
card_at n m bits =
    record { packed = eqb (field_at 4 1 bits) 1; n = n; m = m; words = fields_at (count_at bits) 23 16 bits; max_iter = field_at (23 + 16 * count_at bits) 20 bits; sweep_limit = field_at (23 + 16 * count_at bits + 20) 7 bits; numbers = fields_at (number_count (eqb (field_at 4 1 bits) 1) n m) (23 + 16 * count_at bits + 20 + 7) 64 bits }

-- what is left to judge then
unfoldable pub rest_at : ℕ → ℕ → List ℕ → Reading
unfolding bit_count card_at closed
rest_at n m bits = cond (leb (bit_count n m bits) (length bits)) (closed (card_at n m bits) (drop (bit_count n m bits) bits)) (fault Short)
