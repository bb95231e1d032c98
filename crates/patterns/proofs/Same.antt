-- Laws of the same numbers.
use Rattle.std.proofs.Common.{◌≡◌, true, List, [], ◌∷◌, length, refl, eq-eqb}
use lib.Ieee.{Float, binary64, to_bits}
use Rattle.patterns.specs.Same.{same_places, same_bits}

places_themselves : (xs : List Float) → same_places xs xs ≡ true
places_themselves [] = refl
places_themselves (x ∷ xs) = rw (eq-eqb (to_bits binary64 x) (to_bits binary64 x) refl, places_themselves xs)

pub bits_themselves : (xs : List Float) → same_bits xs xs ≡ true
bits_themselves xs = rw (eq-eqb (length xs) (length xs) refl, places_themselves xs)
