-- Laws of the packed triangle: how many numbers stand before a column.
use Prim.Native.Nat.{ℕ, ◌+◌, ◌*◌, ◌<◌, ◌≤◌}
use native.Mathlib.Nat.{mul-add, add-mul, mul-le-mul}
use native.Mathlib.Omega.{arith}
use mathlib.Core.Path.{◌≡◌}
use Rattle.rules.specs.Matrices.{triangle}

pub triangle_more : (n : ℕ) → triangle (n + 1) ≡ triangle n + (n + 1)
triangle_more n =
    let e : (n + 1) * (n + 1 + 1) ≡ n * (n + 1) + 2 * (n + 1) = omega (arith, mul-add (n + 1) (n + 1) 1, add-mul n 1 (n + 1)) in
    rw e (omega arith)

pub triangle_grows : (a b : ℕ) → a ≤ b → triangle a ≤ triangle b
triangle_grows a b h =
    let l : a * (a + 1) ≤ b * (b + 1) = mul-le-mul h (omega arith) in
    omega arith

-- column c of the triangle, down to the diagonal, is stored
pub triangle_inside : (c n : ℕ) → c < n → triangle c + (c + 1) ≤ triangle n
triangle_inside c n h = omega (arith, triangle_more c, triangle_grows (c + 1) n (omega arith))
