-- A record is its bytes, eight to a word.
use Rattle.std.specs.Prelude.{ℕ, suc, ◌+◌, ◌*◌, ◌-◌, ◌/◌, ◌<◌, Bool, true, false, cond, Option, Some, None, ◌&&◌, ◌≡◌, List, [], ◌∷◌, ◌++◌, leb, ltb, eqb, Float, length, get_or, take, drop}
use Rattle.std.specs.List.{list_all}
use Rattle.std.specs.Float.{binary64}
use Rattle.std.specs.Float.Ieee.{of_bits, to_bits}
use Rattle.rules.specs.Arithmetic.{each}
use Rattle.rules.specs.Prepare.{zeros}
use Rattle.patterns.specs.Words.{word_at}

-- a word of the record, 0 past its end
unfoldable pub word_of : List ℕ → ℕ → ℕ
word_of bytes at = cond (ltb at (length bytes / 8)) (word_at bytes (at * 8)) 0

-- 0 for no and 1 for yes
unfoldable pub flag_of : List ℕ → ℕ → Option Bool
flag_of bytes at = cond (eqb (word_of bytes at) 0) (Some false) (cond (eqb (word_of bytes at) 1) (Some true) None)

unfoldable pub number_of : List ℕ → ℕ → Float
number_of bytes at = of_bits binary64 (word_of bytes at)

-- as many places as there is room for: the n numbers from a place on, and +0 after them; +0 alone where there is no room for n
unfoldable pub numbers_in : ℕ → List ℕ → ℕ → ℕ → List Float
numbers_in room bytes from n =
    cond (leb n room) (each (λ k v. number_of bytes (from + k)) (zeros n) ++ zeros (room - n)) (zeros room)

-- a number stands there, bit for bit; every NaN is one pattern
abbrev pub stands : List ℕ → ℕ → Float → Bool
stands bytes at x = eqb (to_bits binary64 x) (word_of bytes at)

unfoldable pub stand_from : List ℕ → ℕ → List Float → Bool
stand_from bytes at [] = true
stand_from bytes at (x ∷ xs) = stands bytes at x && stand_from bytes (suc at) xs

-- each of the numbers has the pattern
abbrev pub all_have : ℕ → List Float → Bool
all_have pattern xs = list_all (λ x. eqb (to_bits binary64 x) pattern) xs

-- the first n numbers stand from a place on, and all after them have the pattern
unfoldable pub stand_before : List ℕ → ℕ → List Float → ℕ → ℕ → Bool
stand_before bytes at xs n pattern = leb n (length xs) && stand_from bytes at (take n xs) && all_have pattern (drop n xs)

-- what is too large for a cone word counts as the largest
unfoldable pub cone_word : ℕ → ℕ
cone_word word = cond (ltb word 65536) word 65535

-- the first n places hold the cone words from a place on, and there are as many places as before
pub record ConeWords (bytes : List ℕ) (from n : ℕ) (before after : List ℕ) : Type 0 where
  pub same : length after ≡ length before
  pub each : (k : ℕ) → k < n → get_or after k 0 ≡ cone_word (word_of bytes (from + k))

-- as many places as there is room for: the n cone words from a place on, and 0 after them; 0 alone where there is no room for n
pub record ConeWordsIn (room : ℕ) (bytes : List ℕ) (from n : ℕ) (r : List ℕ) : Type 0 where
  pub places : length r ≡ room
  pub each_is : (k : ℕ) → get_or r k 0 ≡ cond (leb n room && ltb k n) (cone_word (word_of bytes (from + k))) 0
