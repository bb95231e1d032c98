-- Two halves of a range, as they are lent, add up to the whole.
use Prim.Native.Nat.{ℕ, ◌+◌, ◌-◌, ◌/◌, ◌≤◌}
use native.Mathlib.Omega.{arith}
use mathlib.Core.Path.{◌≡◌, sym, ◌∙◌, ap}
use mathlib.Core.List.{List}
use lib.Ieee.{Float, nan}
use lib.ListN.{length, drop}
use lib.Seq.{get_or-take, get_or-drop}
use Rattle.rules.specs.Arithmetic.{◌+ᶠ◌, at}
use Rattle.rules.specs.Editions.{sum_by_halves}
use Rattle.rules.specs.Step.{part}
use Rattle.rules.proofs.Editions.{halves_same, more_by_halves}
use Rattle.rules.proofs.Parts.{part_length}

-- the sum of a part's terms, each made of a number
abbrev part_sum : (Float → Float) → ℕ → ℕ → List Float → Float
part_sum term i k xs = sum_by_halves (length (part i k xs)) (λ j. term (at (part i k xs) j))

part-sum : (term : Float → Float) (i k : ℕ) (xs : List Float) → i + k ≤ length xs → part_sum term i k xs ≡ sum_by_halves k (λ j. term (at xs (i + j)))
part-sum term i k xs h =
    ap (λ n. sum_by_halves n (λ j. term (at (part i k xs) j))) (part_length i k xs h)
    ∙ halves_same (λ j. term (at (part i k xs) j)) (λ j. term (at xs (i + j))) k (λ j l. ap term (get_or-take k (drop i xs) j nan l ∙ get_or-drop i xs j nan))

-- the first half, from place 0 on, and the rest: their sums add up to that of the whole
pub two_halves : (term : Float → Float) (xs : List Float) {n half : ℕ} {first rest : Float} → n ≡ length xs → half ≡ n / 2 → 2 ≤ n → first ≡ part_sum term 0 (half - 0) xs → rest ≡ part_sum term half (n - half) xs → first +ᶠ rest ≡ sum_by_halves (length xs) (λ j. term (at xs j))
two_halves term xs {n} {half} all is some a b =
    let first_is = a ∙ ap (λ k. part_sum term 0 k xs) (sub-zero half) ∙ part-sum term 0 half xs (omega (arith, all, is)) ∙ halves_same (λ j. term (at xs (0 + j))) (λ j. term (at xs j)) half (λ j l. ap (λ k. term (at xs k)) (zero-add j)) in
    let rest_is = b ∙ part-sum term half (n - half) xs (omega (arith, all, is)) in
    (λ i. first_is i +ᶠ rest_is i)
    ∙ ap (λ k. sum_by_halves k (λ j. term (at xs j)) +ᶠ sum_by_halves (n - k) (λ j. term (at xs (k + j)))) is
    ∙ sym (more_by_halves n (λ j. term (at xs j)) some)
    ∙ ap (λ k. sum_by_halves k (λ j. term (at xs j))) all
  where
    sub-zero : (k : ℕ) → k - 0 ≡ k
    sub-zero k = omega arith

    zero-add : (k : ℕ) → 0 + k ≡ k
    zero-add k = omega arith
