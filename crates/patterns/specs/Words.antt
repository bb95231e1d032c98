-- A 64-bit word as eight bytes, the most significant first; what lies past the end of the bytes counts as 0.
use Rattle.std.specs.Prelude.{ℕ, zero, suc, ◌+◌, ◌*◌, List, get_or}

-- the number that the k bytes from a place on spell
unfoldable pub spelled : List ℕ → ℕ → ℕ → ℕ
spelled bytes at zero = 0
spelled bytes at (suc k) = spelled bytes at k * 256 + get_or bytes (at + k) 0

unfoldable pub word_at : List ℕ → ℕ → ℕ
unfolding spelled
word_at bytes at = spelled bytes at 8
