-- Document 01, "What the hub hands over": the cone list. One reading makes blocks of its words; everything else is over the blocks. Lists are plain here: what
-- a list with groups says is a plain list (Groups.antt).
use Rattle.std.specs.Prelude.{ℕ, zero, suc, ◌+◌, ◌/◌, ◌%◌, Bool, true, false, not, cond, ◌||◌, List, [], ◌∷◌, leb, eqb, Option, Some, None}
use Rattle.rules.specs.declared.Cone.{Cone}
use Rattle.rules.specs.declared.Cone.TheVariants.{Zero, RPos, SOC, RotSOC, PSD}
use Rattle.rules.specs.Matrices.{triangle}

-- what a word of a plain list says: a block; a bad word says none
abbrev pub Word : Type 0
Word = Option Cone

pattern abbrev pub Block : Cone → Word
Block b = Some b

pattern abbrev pub Bad : Word
Bad = None

-- "A cone word is 16 bits, most significant field first: 3 bits of kind, 13 bits of size."
abbrev pub kind_of : ℕ → ℕ
kind_of word = word / 8192

abbrev pub size_of : ℕ → ℕ
size_of word = word % 8192

-- the largest d up to n with d(d + 1)/2 at most size
unfoldable pub order_up_to : ℕ → ℕ → ℕ
order_up_to zero size = zero
order_up_to (suc n) size = cond (leb (triangle (suc n)) size) (suc n) (order_up_to n size)

-- the order of a triangle of that size; 127 is that of the largest size that 13 bits hold
unfoldable pub order_of : ℕ → ℕ
unfolding order_up_to
order_of size = order_up_to 127 size

-- "Kinds: 0 zero, 1 nonnegative, 2 second-order, 3 rotated, 4 semidefinite (size d(d+1)/2). Kinds 5 to 7 are reserved."; by request (viii) of document 02 "Kinds 5
-- and 6 stay refused", and kind 7 is a group, which is no block of a plain list
unfoldable pub read_kind : ℕ → ℕ → Word
unfolding order_of
read_kind zero size = Block (Zero size)
read_kind (suc zero) size = Block (RPos size)
read_kind (suc (suc zero)) size = Block (SOC size)
read_kind (suc (suc (suc zero))) size = Block (RotSOC size)
read_kind (suc (suc (suc (suc zero)))) size = cond (eqb (triangle (order_of size)) size) (Block (PSD (order_of size))) Bad
read_kind (suc (suc (suc (suc (suc kind))))) size = Bad

unfoldable pub read_word : ℕ → Word
unfolding read_kind
read_word word = read_kind (kind_of word) (size_of word)

-- how many places a block has
abbrev pub places : Cone → ℕ
places (Zero size) = size
places (RPos size) = size
places (SOC size) = size
places (RotSOC size) = size
places (PSD order) = triangle order

abbrev pub is_bad : Word → Bool
is_bad (Block b) = false
is_bad Bad = true

abbrev pub with_block : Word → List Cone → List Cone
with_block (Block b) blocks = b ∷ blocks
with_block Bad blocks = blocks

-- the blocks of a list, in its order
unfoldable pub blocks_of : List ℕ → List Cone
unfolding read_word
blocks_of [] = []
blocks_of (word ∷ words) = with_block (read_word word) (blocks_of words)

-- "a reserved kind, a kind 4 size not triangular"
unfoldable pub has_bad_word : List ℕ → Bool
unfolding read_word
has_bad_word [] = false
has_bad_word (word ∷ words) = is_bad (read_word word) || has_bad_word words

unfoldable pub total_places : List Cone → ℕ
total_places [] = 0
total_places (b ∷ blocks) = places b + total_places blocks

-- ".. or sizes not summing to m"
unfoldable pub is_bad_cone : List ℕ → ℕ → Bool
unfolding has_bad_word blocks_of total_places
is_bad_cone words m = has_bad_word words || not (eqb (total_places (blocks_of words)) m)
