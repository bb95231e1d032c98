-- Laws of sums by halves, and of a sum by any edition.
use Prim.Native.Nat.{ℕ, zero, suc, ◌+◌, ◌-◌, ◌/◌, ◌≤◌, ◌<◌}
use native.Mathlib.Omega.{arith}
use mathlib.Core.Path.{◌≡◌, refl, ◌∙◌}
use mathlib.Core.Bool.{Bool, true, false, cond}
use borrow.Author.Tests.{ne_eqb}
use lib.Dec.{eqb}
use lib.Ieee.{Float}
use Rattle.rules.specs.Arithmetic.{◌+ᶠ◌, +0, sum_from}
use Rattle.rules.specs.Editions.{halved, sum_by_halves, sum_by}
use Rattle.rules.proofs.Arithmetic.{sum_same}

-- ---- the same terms have the same sum

-- one range, by its length
range_same : (n : ℕ) {a b c d : Float} → (0 < n → a ≡ b) → (2 ≤ n → c ≡ d) → cond (eqb n 0) +0 (cond (eqb n 1) a c) ≡ cond (eqb n 0) +0 (cond (eqb n 1) b d)
range_same zero h k = refl
range_same (suc zero) h k = h (omega arith)
range_same (suc (suc n)) h k = rw (ne_eqb (suc (suc n)) 0 (λ e. omega (arith, e)), ne_eqb (suc (suc n)) 1 (λ e. omega (arith, e))) (k (omega arith))

halved_same : (cuts n : ℕ) (f g : ℕ → Float) → ((k : ℕ) → k < n → f k ≡ g k) → halved cuts n f ≡ halved cuts n g
unfolding halved
halved_same zero zero f g h = refl
halved_same zero (suc zero) f g h = h 0 (omega arith)
halved_same zero (suc (suc n)) f g h = rw (ne_eqb (suc (suc n)) 1 (λ e. omega (arith, e)))
halved_same (suc cuts) n f g h =
    range_same n (λ some. h 0 some)
    (λ two. rw (halved_same cuts (n / 2) f g (λ k l. h k (omega arith)), halved_same cuts (n - n / 2) (λ k. f (n / 2 + k)) (λ k. g (n / 2 + k)) (λ k l. h (n / 2 + k) (omega arith))))

pub halves_same : (f g : ℕ → Float) (n : ℕ) → ((k : ℕ) → k < n → f k ≡ g k) → sum_by_halves n f ≡ sum_by_halves n g
halves_same f g n h = halved_same n n f g h

pub sum_by_same : (edition : ℕ) (f g : ℕ → Float) (n : ℕ) → ((k : ℕ) → k < n → f k ≡ g k) → sum_by edition n f ≡ sum_by edition n g
sum_by_same edition f g n h = go (eqb edition 2)
  where
    go : (b : Bool) → cond b (sum_by_halves n f) (sum_from +0 n f) ≡ cond b (sum_by_halves n g) (sum_from +0 n g)
    go true = halves_same f g n h
    go false = sum_same +0 f g n h

-- ---- the request's sentence

-- as many cuts as there are terms are enough
enough : (cuts more n : ℕ) (f : ℕ → Float) → n ≤ cuts → n ≤ more → halved cuts n f ≡ halved more n f
unfolding halved
enough zero zero n f h k = refl
enough zero (suc more) zero f h k = refl
enough zero (suc more) (suc n) f h k = absurd (omega arith)
enough (suc cuts) zero zero f h k = refl
enough (suc cuts) zero (suc n) f h k = absurd (omega arith)
enough (suc cuts) (suc more) n f h k =
    range_same n (λ some. refl)
    (λ two. rw (enough cuts more (n / 2) f (omega arith) (omega arith), enough cuts more (n - n / 2) (λ j. f (n / 2 + j)) (omega arith) (omega arith)))

pub none_by_halves : (f : ℕ → Float) → sum_by_halves 0 f ≡ +0
unfolding halved
none_by_halves f = refl

pub one_by_halves : (f : ℕ → Float) → sum_by_halves 1 f ≡ f 0
unfolding halved
one_by_halves f = refl

long_range : (n : ℕ) (a b c : Float) → 2 ≤ n → cond (eqb n 0) a (cond (eqb n 1) b c) ≡ c
long_range n a b c h = rw (ne_eqb n 0 (λ e. omega (arith, e, h)), ne_eqb n 1 (λ e. omega (arith, e, h)))

pub more_by_halves : (n : ℕ) (f : ℕ → Float) → 2 ≤ n → sum_by_halves n f ≡ sum_by_halves (n / 2) f +ᶠ sum_by_halves (n - n / 2) (λ k. f (n / 2 + k))
unfolding halved
more_by_halves zero f h = absurd (omega arith)
more_by_halves (suc n) f h =
    let half = suc n / 2 in
    let first : halved n half f ≡ sum_by_halves half f = enough n half half f (omega arith) (omega arith) in
    let rest : halved n (suc n - half) (λ k. f (half + k)) ≡ sum_by_halves (suc n - half) (λ k. f (half + k)) = enough n (suc n - half) (suc n - half) (λ k. f (half + k)) (omega arith) (omega arith) in
    long_range (suc n) _ _ _ h ∙ (λ i. first i +ᶠ rest i)

-- the sum of edition two, and that of another number
pub by_halves : (edition n : ℕ) (f : ℕ → Float) → edition ≡ 2 → sum_by edition n f ≡ sum_by_halves n f
by_halves edition n f e = rw e

pub from_the_left : (edition n : ℕ) (f : ℕ → Float) → (edition ≡ 2 → ⊥) → sum_by edition n f ≡ sum_from +0 n f
from_the_left edition n f e = rw (ne_eqb edition 2 e)
