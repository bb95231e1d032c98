-- Document 02, (i): "Bits, most significant first".
use Rattle.std.specs.Prelude.{ℕ, zero, suc, ◌/◌, ◌%◌, ◌^◌, List, [], ◌∷◌, ◌++◌}

-- that many bits of a number
unfoldable pub bits_of : ℕ → ℕ → List ℕ
bits_of zero v = []
bits_of (suc w) v = v / 2 ^ w % 2 ∷ bits_of w v

unfoldable pub bits_of_bytes : List ℕ → List ℕ
unfolding bits_of
bits_of_bytes [] = []
bits_of_bytes (b ∷ bytes) = bits_of 8 b ++ bits_of_bytes bytes

-- that many bits of each number
unfoldable pub bits_of_all : ℕ → List ℕ → List ℕ
unfolding bits_of
bits_of_all w [] = []
bits_of_all w (v ∷ vs) = bits_of w v ++ bits_of_all w vs
