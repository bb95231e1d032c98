-- One pass of a packed matrix's kernels: where the number that it reads is stored, and what it adds.
use Prim.Native.Nat.{ℕ, ◌+◌, ◌<◌, ◌≤◌}
use native.Mathlib.Omega.{arith}
use mathlib.Core.Path.{◌≡◌, sym}
use mathlib.Core.List.{List}
use lib.Ieee.{Float}
use lib.ListN.{length, set}
use Rattle.rules.specs.Limits.{limit}
use Rattle.rules.specs.Arithmetic.{◌+ᶠ◌, ◌*ᶠ◌, at}
use Rattle.rules.specs.Matrices.{triangle, packed_place}
use Rattle.rules.proofs.Arithmetic.{Reached, reached_more}
use Rattle.rules.proofs.Columns.{packed_place-le, packed_place_ge, packed_place_inside}
use Rattle.matrix.specs.Counted.{counted_triangle}
use Rattle.matrix.proofs.Counted.{counted_small}
use Rattle.packed_transform.specs.Lines.{term}

-- row r + k of w, over a column of n
pub stored : (n long r w k c : ℕ) → long ≡ triangle n → r + w ≤ n → k < w → c < n → packed_place (r + k) c < long
stored n long r w k c all rows l h = rw all (packed_place_inside n (r + k) c (omega arith) h)

-- left of the diagonal, and right of it
pub left_place : (r k c p : ℕ) → p ≡ counted_triangle (r + k) → r + k ≤ limit → c ≤ r → p + c ≡ packed_place (r + k) c
left_place r k c p is within l = rw (counted_small is within).0 (sym (packed_place_ge (r + k) c (omega arith)))

pub right_place : (r k c top : ℕ) → top ≡ triangle c + r → r + k ≤ c → top + k ≡ packed_place (r + k) c
right_place r k c top is l = omega (arith, packed_place-le (r + k) c l)

pub next_sum : (mat x : List Float) (r c k p : ℕ) {xs ys : List Float} → p ≡ packed_place (r + k) c → Reached (λ i s. s +ᶠ term mat x (r + i) c) k xs ys → k < length xs
    → Reached (λ i s. s +ᶠ term mat x (r + i) c) (k + 1) xs (set ys k (at ys k +ᶠ at mat p *ᶠ at x c))
next_sum mat x r c k p is reached inside = rw is (reached_more reached inside)
