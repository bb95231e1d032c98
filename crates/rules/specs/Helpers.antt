-- Document 01, "Port order", 1: the float helpers, for every f64. A float is `nan`, an infinity `inf s`, or `fin s m e`, the number m * 2 ^ e,
-- negative where the sign s is true; zeros keep their sign, and there is one `nan`.
use Rattle.std.specs.Prelude.{Bool, true, false, cond, ◌&&◌, ◌||◌, List, [], ◌∷◌, eqb, Float}
use Rattle.std.specs.Bool.{beq}
use Rattle.std.specs.Float.Ieee as Ieee
use Rattle.std.specs.Float.{nan, inf, fin, binary64}
use Rattle.std.specs.Float.Ieee.{of_bits, is_nan}

-- Larger and smaller of two, request (iv) of document 02: IEEE 754-2019's maximumNumber and minimumNumber, for numbers and quiet NaN.
-- "A NaN yields to the other operand"; two NaN give NaN.
unfoldable pub yielding : Float → Float → Float → Float
unfolding is_nan
yielding a b of_numbers = cond (is_nan a) b (cond (is_nan b) a of_numbers)

-- a zero of sign s
abbrev pub is_zero : Bool → Float → Bool
is_zero s nan = false
is_zero s (inf t) = false
is_zero s (fin t m e) = beq s t && eqb m 0

-- −0 is less than +0, and all else compares as ever
unfoldable pub less : Float → Float → Bool
unfolding Ieee.lt
less a b = is_zero true a && is_zero false b || Ieee.lt a b

-- maximumNumber: a if b is less, b if a is less, and if neither is, either of them: they are one f64 then (`neither_is_less`, proofs/EitherOrder.antt)
unfoldable pub larger : Float → Float → Float
unfolding yielding less
larger a b = yielding a b (cond (less b a) a b)

-- minimumNumber: a if a is less, b if b is less, and if neither is, either of them
unfoldable pub smaller : Float → Float → Float
unfolding yielding less
smaller a b = yielding a b (cond (less a b) a b)

-- "Absolute value clears the sign."
unfoldable pub magnitude : Float → Float
magnitude nan = nan
magnitude (inf s) = inf false
magnitude (fin s m e) = fin false m e

-- "Reciprocal is 1 divided by the number."
unfoldable pub one : Float
unfolding of_bits
one = of_bits binary64 0x3ff0_0000_0000_0000

unfoldable pub reciprocal : Float → Float
unfolding one Ieee.div
reciprocal x = Ieee.div binary64 one x

-- ---- what is infinite, and what is finite: neither infinite nor a NaN

abbrev pub is_infinite : Float → Bool
is_infinite nan = false
is_infinite (inf s) = true
is_infinite (fin s m e) = false

abbrev pub is_finite : Float → Bool
is_finite nan = false
is_finite (inf s) = false
is_finite (fin s m e) = true

unfoldable pub all_finite : List Float → Bool
all_finite [] = true
all_finite (x ∷ xs) = is_finite x && all_finite xs
