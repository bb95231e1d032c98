-- Document 02, request (xi): "A second edition of sums. .. Add an edition, chosen by a parameter, whose norms and matrix products add a range by halves".
use Rattle.std.specs.Prelude.{ℕ, zero, suc, ◌+◌, ◌-◌, ◌/◌, cond, eqb, Float}
use Rattle.std.specs.Float.Ieee.{add}
use Rattle.rules.specs.Arithmetic.{◌+ᶠ◌, +0, sum_to}

-- "a range of one is its term, a longer range of length L is the sum of its first floor(L/2) and the sum of the rest, an empty one is +0": of the n terms f 0, f 1, ..
-- A recursion goes by a number that falls by one: here by how often a range and its parts may still be cut.
unfoldable pub halved : ℕ → ℕ → (ℕ → Float) → Float
unfolding add
halved zero n f = cond (eqb n 1) (f 0) +0
halved (suc cuts) n f =
    let half = n / 2 in
    let both = halved cuts half f +ᶠ halved cuts (n - half) (λ k. f (half + k)) in
    cond (eqb n 0) +0 (cond (eqb n 1) (f 0) both)

-- n times are enough for n terms, and what is left over changes nothing (`more_by_halves`, proofs/Editions.antt).
abbrev pub sum_by_halves : ℕ → (ℕ → Float) → Float
sum_by_halves n f = halved n n f

-- The sum of the n terms f 0, f 1, .. in edition two, and in edition one. Parameters have no other edition (`bad_param`).
abbrev pub sum_by : ℕ → ℕ → (ℕ → Float) → Float
sum_by edition n f = cond (eqb edition 2) (sum_by_halves n f) (sum_to n f)
