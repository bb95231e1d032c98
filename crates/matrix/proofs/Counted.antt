-- Laws of the triangle that the code counts, for its callers.
use Prim.Native.Nat.{ℕ, ◌+◌, ◌*◌, ◌≤◌, ◌<◌}
use native.Mathlib.Nat.{mul-le-mul, mul-le-mul_left}
use native.Mathlib.Omega.{arith}
use mathlib.Core.Path.{◌≡◌, refl, ◌∙◌}
use mathlib.Core.Bool.{Bool, true, false, cond}
use borrow.Author.Tests.{le-leb, lt-leb, leb-false}
use lib.Dec.{leb}
use Rattle.rules.specs.Limits.{limit}
use Rattle.rules.specs.Matrices.{triangle}
use Rattle.rules.proofs.Matrices.{product_small}
use Rattle.matrix.specs.Counted.{largest_order, largest, counted_triangle}

-- up to the largest order it is the triangle, and its product fits 64 bits
pub counted_is : (n : ℕ) → n ≤ largest_order → counted_triangle n ≡ triangle n
unfolding counted_triangle
counted_is n h = rw (le-leb n largest_order h)

pub counted_fits : (n : ℕ) → n ≤ largest_order → n * (n + 1) ≤ largest_order * (largest_order + 1)
counted_fits n h = mul-le-mul {m₂ = largest_order + 1} h (omega arith)

pub counted_above : (n : ℕ) → largest_order < n → counted_triangle n ≡ largest
unfolding counted_triangle
counted_above n h = rw (lt-leb n largest_order h)

-- an order within the limits: what is answered is the triangle, and small
pub counted_small : {n p : ℕ} → p ≡ counted_triangle n → n ≤ limit → (p ≡ triangle n) × (p ≤ limit * (limit + 1))
counted_small {n} {p} e h =
    let is : p ≡ triangle n = e ∙ counted_is n (omega arith) in
    (is, omega (arith, is, product_small n (n + 1) h (omega arith)))

-- a triangle has at least as many numbers as its order
triangle_above : (n k : ℕ) → k < n → 0 < k → k < triangle n
triangle_above n k h l =
    let m : n * 2 ≤ n * (n + 1) = mul-le-mul_left n (omega arith) in
    omega arith

-- no test against a number below the largest tells it from the triangle
pub counted_within : (n k : ℕ) → k < largest_order → leb (counted_triangle n) k ≡ leb (triangle n) k
unfolding counted_triangle
counted_within n k h = go (leb n largest_order) refl
  where
    go : (t : Bool) → leb n largest_order ≡ t → leb (cond t (triangle n) largest) k ≡ leb (triangle n) k
    go true e = refl
    go false e = rw (lt-leb largest k (omega arith), lt-leb (triangle n) k (omega (arith, triangle_above n largest_order (leb-false n largest_order e) (omega arith))))
