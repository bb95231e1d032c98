-- Document 01, "Port order", 2: "Sums start at +0 and go by rising index; every product and sum rounds once, in the order written."
use Rattle.std.specs.Prelude.{ℕ, zero, suc, List, [], ◌∷◌, ◌++◌, Float, length, get_or}
use Rattle.std.specs.Float.Ieee as Ieee
use Rattle.std.specs.Float.{nan, binary64}
use Rattle.std.specs.Float.Ieee.{of_bits}

infixl 65 ◌+ᶠ◌
infixl 65 ◌-ᶠ◌
infixl 70 ◌*ᶠ◌
infixl 70 ◌/ᶠ◌
-- the four operations on f64, each rounded once
abbrev pub ◌+ᶠ◌ : Float → Float → Float
a +ᶠ b = Ieee.add binary64 a b

abbrev pub ◌-ᶠ◌ : Float → Float → Float
a -ᶠ b = Ieee.sub binary64 a b

abbrev pub ◌*ᶠ◌ : Float → Float → Float
a *ᶠ b = Ieee.mul binary64 a b

abbrev pub ◌/ᶠ◌ : Float → Float → Float
a /ᶠ b = Ieee.div binary64 a b

abbrev pub +0 : Float
+0 = of_bits binary64 0

-- what stands at place k
abbrev pub at : List Float → ℕ → Float
at xs k = get_or xs k nan

-- start + f 0 + f 1 + .. + f (n - 1), from the left
unfoldable pub sum_from : Float → ℕ → (ℕ → Float) → Float
unfolding Ieee.add
sum_from start zero f = start
sum_from start (suc n) f = sum_from start n f +ᶠ f n

-- +0 + f 0 + f 1 + .. + f (n - 1)
abbrev pub sum_to : ℕ → (ℕ → Float) → Float
sum_to n f = sum_from +0 n f

-- each of the first n places k holds f k of what it held, and the others what they held
unfoldable pub each_to : (ℕ → Float → Float) → ℕ → List Float → List Float
each_to f zero xs = xs
each_to f (suc n) [] = []
each_to f (suc n) (x ∷ xs) = f 0 x ∷ each_to (λ k v. f (suc k) v) n xs

-- every place k holds f k of what it held
unfoldable pub each : (ℕ → Float → Float) → List Float → List Float
unfolding each_to
each f xs = each_to f (length xs) xs

-- f 0, f 1, .. f (n - 1)
unfoldable pub tabulate : ℕ → (ℕ → Float) → List Float
tabulate zero f = []
tabulate (suc n) f = f 0 ∷ tabulate n (λ k. f (suc k))

-- Numbers by columns: column c has height c of them, f 0 c, f 1 c, .., and the columns 0 to n - 1 stand one after another.
unfoldable pub by_columns : (ℕ → ℕ) → ℕ → (ℕ → ℕ → Float) → List Float
unfolding tabulate
by_columns height zero f = []
by_columns height (suc n) f = by_columns height n f ++ tabulate (height n) (λ r. f r n)
