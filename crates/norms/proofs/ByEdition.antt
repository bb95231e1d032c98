-- Laws of the norm, by edition.
use Prim.Native.Nat.{ℕ}
use mathlib.Core.Path.{◌≡◌, sym, ◌∙◌, ap}
use mathlib.Core.Bool.{true}
use mathlib.Core.List.{List}
use borrow.Author.Tests.{ne_eqb}
use lib.Ieee.{Float}
use lib.ListN.{length}
use Rattle.rules.specs.Arithmetic.{◌*ᶠ◌, at}
use Rattle.rules.specs.Editions.{sum_by_halves}
use Rattle.rules.specs.Vectors.{two^−600, scaled, plain_sum_by, norm_by}
use Rattle.rules.proofs.Arithmetic.{each_at}
use Rattle.rules.proofs.Editions.{halves_same}
use Rattle.rules.proofs.KernelLengths.{scaled-length}
use Rattle.norms.specs.Squares.{square_of}

-- of any other number it is edition one's
pub norm_from_the_left : (edition : ℕ) (x : List Float) → (edition ≡ 2 → ⊥) → norm_by 1 x ≡ norm_by edition x
unfolding norm_by
norm_from_the_left edition x other = rw (ne_eqb edition 2 other)

-- the sum of the squares of 2 ^ -600 times each number
pub smaller-sum : (x : List Float) {s : Float} → s ≡ sum_by_halves (length x) (λ k. square_of true (at x k)) → s ≡ plain_sum_by 2 (scaled two^−600 x)
unfolding scaled
smaller-sum x e =
    e
    ∙ halves_same (λ k. square_of true (at x k)) (λ k. at (scaled two^−600 x) k *ᶠ at (scaled two^−600 x) k) (length x) (λ k l. ap (λ v. v *ᶠ v) (sym (each_at (λ j v. two^−600 *ᶠ v) x k l)))
    ∙ ap (λ n. sum_by_halves n (λ k. at (scaled two^−600 x) k *ᶠ at (scaled two^−600 x) k)) (sym (scaled-length two^−600 x))
