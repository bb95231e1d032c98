-- Laws of a range that is summed by halves, as code lends it.
use Prim.Native.Nat.{ℕ, ◌+◌, ◌-◌, ◌/◌, ◌≤◌}
use native.Mathlib.Omega.{arith}
use mathlib.Core.Path.{◌≡◌, sym, ◌∙◌, ap}
use mathlib.Core.List.{List}
use lib.Ieee.{Float, nan}
use lib.ListN.{length, take, drop, length-drop}
use lib.Seq.{get_or-take, get_or-drop, length-take-le}
use Rattle.rules.specs.Arithmetic.{◌+ᶠ◌, at, each}
use Rattle.rules.specs.Editions.{sum_by_halves}
use Rattle.rules.proofs.Arithmetic.{each-length, each_at}
use Rattle.rules.proofs.Editions.{halves_same, more_by_halves}

-- the two halves of a range, cut where the code cuts it: their sums, of a term made of each number, add up to that of the whole
pub two_halves : (term : Float → Float) (xs : List Float) {half : ℕ} {front back : List Float} {first rest : Float} → half ≡ length xs / 2 → 2 ≤ length xs → front ≡ take half xs → back ≡ drop half xs → first ≡ sum_by_halves (length front) (λ j. term (at front j)) → rest ≡ sum_by_halves (length back) (λ j. term (at back j)) → first +ᶠ rest ≡ sum_by_halves (length xs) (λ j. term (at xs j))
two_halves term xs {half} {front} {back} is some f b a e =
    let first_is = a ∙ ap (λ (l : List Float). sum_by_halves (length l) (λ j. term (at l j))) f ∙ ap (λ k. sum_by_halves k (λ j. term (at (take half xs) j))) (length-take-le half xs (omega arith)) ∙ halves_same (λ j. term (at (take half xs) j)) (λ j. term (at xs j)) half (λ j l. ap term (get_or-take half xs j nan l)) in
    let rest_is = e ∙ ap (λ (l : List Float). sum_by_halves (length l) (λ j. term (at l j))) b ∙ ap (λ k. sum_by_halves k (λ j. term (at (drop half xs) j))) (length-drop half xs) ∙ halves_same (λ j. term (at (drop half xs) j)) (λ j. term (at xs (half + j))) (length xs - half) (λ j l. ap term (get_or-drop half xs j nan)) in
    (λ i. first_is i +ᶠ rest_is i)
    ∙ ap (λ k. sum_by_halves k (λ j. term (at xs j)) +ᶠ sum_by_halves (length xs - k) (λ j. term (at xs (k + j)))) is
    ∙ sym (more_by_halves (length xs) (λ j. term (at xs j)) some)

-- terms that were put down one by one
pub sum_of_terms : (f : ℕ → Float) (old new : List Float) {n : ℕ} {s : Float} → s ≡ sum_by_halves (length new) (at new) → new ≡ each (λ k v. f k) old → length old ≡ n → s ≡ sum_by_halves n f
sum_of_terms f old new {n} e put long =
    let same : length new ≡ n = ap length put ∙ each-length (λ k v. f k) old ∙ long in
    e ∙ ap (λ k. sum_by_halves k (at new)) same
    ∙ halves_same (at new) f n (λ k l. ap (λ (t : List Float). at t k) put ∙ each_at (λ k v. f k) old k (omega (arith, long, l)))
