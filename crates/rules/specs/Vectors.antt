-- Document 01, "Port order", 2: the vector routines of floatgeneric.rs. A buffer is a list of floats.
use Rattle.std.specs.Prelude.{ℕ, ◌+◌, ◌-◌, ◌*◌, ◌/◌, Bool, false, cond, ◌&&◌, List, eqb, pos, negsuc, Float, length}
use Rattle.std.specs.Float.{fin, binary64}
use Rattle.std.specs.Float.Ieee.{add, mul}
use Rattle.rules.specs.Helpers.{magnitude, is_infinite, all_finite}
use Rattle.rules.specs.Root.{root}
use Rattle.rules.specs.Arithmetic.{◌+ᶠ◌, ◌*ᶠ◌, +0, at, sum_to, sum_from, each}
use Rattle.rules.specs.Editions.{halved, sum_by}

abbrev pub same_length : List Float → List Float → Bool
same_length x y = eqb (length x) (length y)

unfoldable pub scaled : Float → List Float → List Float
unfolding each mul
scaled alpha x = each (λ k v. alpha *ᶠ v) x

-- the plain sum of squares, and the plain norm, by edition
abbrev pub plain_sum_by : ℕ → List Float → Float
plain_sum_by edition x = sum_by edition (length x) (λ k. at x k *ᶠ at x k)

abbrev pub plain_norm_by : ℕ → List Float → Float
plain_norm_by edition x = root binary64 (plain_sum_by edition x)

-- 2 ^ 600, and 2 ^ -600 (`negsuc k` is the whole number -(k + 1))
abbrev pub two^600 : Float
two^600 = fin false 1 (pos 600)

abbrev pub two^−600 : Float
two^−600 = fin false 1 (negsuc 599)

-- Request (ix) of document 02: "if the plain sum is infinite while all entries are finite, it multiplies entries by 2^−600, takes the plain norm and
-- multiplies by 2^600, each rounding as usual; it may still be infinite. Otherwise it is unchanged." A sum of squares is never −∞ (`plain_infinite`, proofs/LargeNorms.antt).
-- Each edition asks and takes its own sums.
abbrev pub scaled_norm_by : ℕ → List Float → Float
scaled_norm_by edition x = plain_norm_by edition (scaled two^−600 x) *ᶠ two^600

unfoldable pub norm_by : ℕ → List Float → Float
unfolding sum_from halved root mul scaled all_finite
norm_by edition x = cond (is_infinite (plain_sum_by edition x) && all_finite x) (scaled_norm_by edition x) (plain_norm_by edition x)

-- those of edition one
abbrev pub plain_sum : List Float → Float
plain_sum x = plain_sum_by 1 x

abbrev pub plain_norm : List Float → Float
plain_norm x = plain_norm_by 1 x

abbrev pub scaled_norm : List Float → Float
scaled_norm x = scaled_norm_by 1 x

abbrev pub norm : List Float → Float
norm x = norm_by 1 x

unfoldable pub added : Float → List Float → List Float → List Float
unfolding each add mul
added alpha x y = each (λ k v. v +ᶠ alpha *ᶠ at x k) y

unfoldable pub shifted : Float → List Float → List Float
unfolding each add
shifted s y = each (λ k v. v +ᶠ s) y

-- how many of the places 0, step, 2 * step, .. lie below len, for a step above 0
abbrev pub strides : ℕ → ℕ → ℕ
strides len step = (len + (step - 1)) / step

-- "For abssum with step 0 the answer is 0."
unfoldable pub abssum : List Float → ℕ → Float
unfolding sum_from magnitude
abssum x step = cond (eqb step 0) +0 (sum_to (strides (length x) step) (λ k. magnitude (at x (k * step))))

unfoldable pub transformed_di : Float → List Float → List Float → Float → List Float → List Float
unfolding each add mul
transformed_di alpha mat x beta y = each (λ i v. alpha *ᶠ at mat i *ᶠ at x i +ᶠ beta *ᶠ v) y
