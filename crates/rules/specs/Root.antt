-- Document 01, "Port order", 1: "Root: correctly rounded to nearest; −0 gives −0, below zero NaN", stated over whole numbers.
-- IEEE 754-2019, 5.4.1: the root of a number above zero is the exact root, rounded once.
use Prim.Native.Nat.{ℕ, zero, suc, ◌+◌, ◌-◌, ◌*◌, ◌/◌, ◌^◌, ◌<◌, compare}
use Rattle.std.specs.Prelude.{Bool, true, false, not, cond, T, leb, Float}
use Rattle.std.specs.Float.{nan, inf, fin, Format}
use Rattle.std.specs.Float.Ieee.{prec, low, up, down, size, nearest, units, fits}

-- The largest r with r * r at most n, one binary digit at a time: n is below 4 ^ d.
unfoldable pub root_digits : ℕ → ℕ → ℕ
root_digits zero n = 0
root_digits (suc d) n = let r = 2 * root_digits d (n / 4) in cond (leb ((r + 1) * (r + 1)) n) (r + 1) r

unfoldable pub whole_root : ℕ → ℕ
unfolding root_digits size
whole_root n = root_digits (size n) n

-- The format's value nearest to √w, in units of the format's least value. Of the root's whole part the format keeps the `prec` leading digits, q, and
-- drops k. The next value up lies nearer where √w is above (q + 1/2) * 2 ^ k, which is said with both sides doubled and squared; in a tie the even one is taken.
unfoldable pub root_of_units : Format → ℕ → Float
unfolding whole_root units size
root_of_units f w =
    let r = whole_root w in
    let k = size r - prec f in
    let q = r / 2 ^ k in
    units f false (nearest q (compare (4 * w) ((2 * q + 1) * (2 * q + 1) * (2 ^ k * 2 ^ k)))) k

-- A number m * 2 ^ e above zero is w = m * 2 ^ e * 2 ^ low * 2 ^ low squares of the least value 2 ^ -low, which is whole.
unfoldable pub root : Format → Float → Float
unfolding root_of_units
root f nan = nan
root f (inf true) = nan
root f (inf false) = inf false
root f (fin s zero e) = fin s zero e
root f (fin true (suc m) e) = nan
root f (fin false (suc m) e) = root_of_units f (suc m * up e * (2 ^ low f * 2 ^ low f) / down e)

-- ---- what it says that every other value of the format lies farther from the root

-- A finite value's magnitude in units of the format's least value, and in squares of that: whole numbers, for each value of the format.
unfoldable pub in_units : Format → Float → ℕ
in_units f nan = 0
in_units f (inf s) = 0
in_units f (fin s m e) = m * up e * 2 ^ low f / down e

unfoldable pub in_squared_units : Format → Float → ℕ
in_squared_units f nan = 0
in_squared_units f (inf s) = 0
in_squared_units f (fin s m e) = m * up e * (2 ^ low f * 2 ^ low f) / down e

-- +0, or a finite number above it
unfoldable pub is_number : Float → Bool
is_number nan = false
is_number (inf s) = false
is_number (fin s m e) = not s

-- Of a finite x of the format f, above 0: r is a number of the format, and every other one, y, lies farther from √x. In whole numbers: √x is nearer to r than to a y above r where it is
-- below the middle between the two, (r + y) / 2, which is said with both sides doubled and squared; and so for a y below.
pub record NoneNearer (f : Format) (x r : Float) : Type 0 where
  pub number : T (is_number r)
  pub held : T (fits f r)
  pub above : (y : Float) → T (is_number y) → T (fits f y) → in_units f r < in_units f y
      → 4 * in_squared_units f x < (in_units f r + in_units f y) * (in_units f r + in_units f y)
  pub below : (y : Float) → T (is_number y) → T (fits f y) → in_units f y < in_units f r
      → (in_units f r + in_units f y) * (in_units f r + in_units f y) < 4 * in_squared_units f x
