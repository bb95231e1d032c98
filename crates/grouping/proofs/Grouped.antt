-- A block of which every place becomes the smallest.
use Prim.Native.Nat.{ℕ}
use native.Mathlib.Omega.{arith}
use mathlib.Core.Path.{◌≡◌, refl, ap}
use mathlib.Core.List.{List, [], ◌∷◌}
use lib.Ieee.{Float}
use lib.ListN.{length, replicate}
use Rattle.rules.specs.Arithmetic.{at, each}
use Rattle.rules.specs.Product.{smallest_to, grouped}

filled : (m : Float) (xs : List Float) → replicate (length xs) m ≡ each (λ k v. m) xs
unfolding each
filled m [] = refl
filled m (x ∷ xs) = ap (λ (l : List Float). m ∷ l) (filled m xs)

pub grouped_is : (n : ℕ) (m : Float) (xs : List Float) → n ≡ length xs → m ≡ smallest_to n (at xs 0) xs → replicate (length xs) m ≡ grouped xs
unfolding grouped
grouped_is n m xs all is = rw (is, all) (filled _ xs)

pub grouped_none : (xs : List Float) → length xs ≡ 0 → xs ≡ grouped xs
unfolding grouped each
grouped_none [] h = refl
grouped_none (x ∷ xs) h = absurd (omega (arith, h))
