-- Laws of the norm: by what its plain sum is, and what a loop has summed.
use Prim.Native.Nat.{ℕ, zero, suc, ◌+◌, ◌-◌, ◌/◌}
use mathlib.Core.Path.{◌≡◌, refl, sym, ◌∙◌, ap}
use mathlib.Core.Bool.{Bool, true, false, cond, and-false, false≢true}
use mathlib.Core.Logic.{inr, ⊎_elim}
use mathlib.Core.List.{List}
use lib.Dec.{eqb}
use lib.Ieee.{Float, nan, inf, fin, of_bits, eq}
use lib.ListN.{length}
use Rattle.rules.specs.Helpers.{is_infinite, all_finite}
use Rattle.rules.specs.Arithmetic.{◌*ᶠ◌, +0, at, sum_from, sum_to}
use Rattle.rules.specs.Editions.{halved, sum_by_halves}
use Rattle.rules.specs.Vectors.{plain_sum, plain_sum_by, plain_norm_by, scaled_norm_by, norm_by, scaled}
use Rattle.rules.proofs.Arithmetic.{sum_same, each_at, Summed, summed_all}
use Rattle.rules.proofs.KernelLengths.{scaled-length}
use Rattle.rules.proofs.Signs.{has_sign, is_plus, NotMinus, square_not_minus, add_not_minus}

-- ---- a sum of squares is NaN, or has sign +

-- the squares that are added up
abbrev pub squares : List Float → ℕ → Float
squares x k = at x k *ᶠ at x k

pub sum_not_minus : (x : List Float) (n : ℕ) → NotMinus (sum_to n (squares x))
unfolding has_sign sum_from of_bits
sum_not_minus x zero = inr refl
sum_not_minus x (suc n) = add_not_minus (sum_not_minus x n) (square_not_minus (at x n))

halved_not_minus : (cuts n : ℕ) (f : ℕ → Float) → ((k : ℕ) → NotMinus (f k)) → NotMinus (halved cuts n f)
unfolding has_sign halved of_bits
halved_not_minus zero n f h = go (eqb n 1)
  where
    go : (one : Bool) → NotMinus (cond one (f 0) +0)
    go true = h 0
    go false = inr refl
halved_not_minus (suc cuts) n f h = go (eqb n 0) (eqb n 1) (add_not_minus (halved_not_minus cuts (n / 2) f h) (halved_not_minus cuts (n - n / 2) (λ k. f (n / 2 + k)) (λ k. h (n / 2 + k))))
  where
    go : (none one : Bool) {both : Float} → NotMinus both → NotMinus (cond none +0 (cond one (f 0) both))
    go true one b = inr refl
    go false true b = h 0
    go false false b = b

sum_by_not_minus : (edition : ℕ) (x : List Float) → NotMinus (plain_sum_by edition x)
sum_by_not_minus edition x = go (eqb edition 2)
  where
    go : (halves : Bool) → NotMinus (cond halves (sum_by_halves (length x) (squares x)) (sum_to (length x) (squares x)))
    go true = halved_not_minus (length x) (length x) (squares x) (λ k. square_not_minus (at x k))
    go false = sum_not_minus x (length x)

-- so it is infinite exactly where it equals +∞
infinite_plus : (s : Float) → is_plus s ≡ true → is_infinite s ≡ eq s (inf false)
unfolding has_sign eq
infinite_plus nan e = refl
infinite_plus (inf true) e = absurd (false≢true e)
infinite_plus (inf false) e = refl
infinite_plus (fin s m d) e = refl

pub plain_infinite : (edition : ℕ) (x : List Float) → is_infinite (plain_sum_by edition x) ≡ eq (plain_sum_by edition x) (inf false)
unfolding eq
plain_infinite edition x = ⊎_elim (λ e. rw e refl) (infinite_plus (plain_sum_by edition x)) (sum_by_not_minus edition x)

-- ---- the norm, by what code asks

pub norm_of_other_sum : (edition : ℕ) (x : List Float) → eq (plain_sum_by edition x) (inf false) ≡ false → norm_by edition x ≡ plain_norm_by edition x
unfolding norm_by
norm_of_other_sum edition x e = rw (plain_infinite edition x, e)

pub norm_of_not_finite : (edition : ℕ) (x : List Float) → all_finite x ≡ false → norm_by edition x ≡ plain_norm_by edition x
unfolding norm_by
norm_of_not_finite edition x e = rw (e, and-false (is_infinite (plain_sum_by edition x)))

pub norm_of_large : (edition : ℕ) (x : List Float) → eq (plain_sum_by edition x) (inf false) ≡ true → all_finite x ≡ true → norm_by edition x ≡ scaled_norm_by edition x
unfolding norm_by
norm_of_large edition x e f = rw (plain_infinite edition x, e, f)

-- what a loop has summed of the squares, each number times alpha
pub scaled-summed : (alpha : Float) (x : List Float) {n : ℕ} {s : Float} → Summed +0 (λ k. (alpha *ᶠ at x k) *ᶠ (alpha *ᶠ at x k)) n s → n ≡ length x → s ≡ plain_sum (scaled alpha x)
unfolding scaled
scaled-summed alpha x r e =
    summed_all r (e ∙ sym (scaled-length alpha x)) ∙ sum_same +0 _ _ (length (scaled alpha x)) (λ k b. ap (λ v. v *ᶠ v) (sym (each_at (λ j v. alpha *ᶠ v) x k (rw (scaled-length alpha x) at b))))
