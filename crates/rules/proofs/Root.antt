-- The laws of the root over whole numbers: `whole_root` is the whole root, and the root of a number of known length is the nearest number of that length. Assumes nothing.
use Prim.Native.Nat.{ℕ, zero, suc, ◌+◌, ◌-◌, ◌*◌, ◌/◌, ◌%◌, ◌^◌, ◌≤◌, ◌<◌, compare, Ordering}
use native.Mathlib.Numerals.{add-one}
use native.Mathlib.Nat.{le_antisymm, le_of_suc-le-suc, not-suc-le-zero, le_trans, le_of_eq, le_of_lt, lt_of_lt_of_le, lt_of_le_of_lt, lt_of_not-le, not-le_of_lt, one-mul, mul-one, mul_assoc, mul-add, add-mul, mul-mul-mul_comm, mul-le-mul, mul-le-mul_left, mul-le-mul_right, mul-pos, mul-lt-mul_of_pos_right, lt_of_mul-lt-mul_right, le_of_mul-le-mul_right, div-mul-le_self, lt-div-mul-add, le-div_iff_mul-le, pow-succ'}
use native.Mathlib.Omega.{arith}
use mathlib.Core.Path.{◌≡◌, refl, sym, ap, ◌∙◌, subst}
use mathlib.Core.Logic.{◌⊎◌, inl, inr}
use mathlib.Core.Bool.{Bool, true, false, not, cond}
use lib.Dec.{T, is_le, compare_is_eq, leb, leb→le, nleb→lt, eqb→eq}
use lib.Pow.{pow_pos, pow_mono, pow-add}
use lib.Ieee.{binary64, size, nearest, units}
use lib.Ieee.Digits.{size-lt, size-le}
use Rattle.rules.specs.Root.{root_digits, whole_root, root_of_units}

-- ---- squares

abbrev sq : ℕ → ℕ
sq a = a * a

pub sq_twice : (a : ℕ) → 2 * a * (2 * a) ≡ 4 * (a * a)
sq_twice a = mul-mul-mul_comm 2 a 2 a

pub sq_next : (a : ℕ) → (a + 1) * (a + 1) ≡ a * a + 2 * a + 1
sq_next a = mul-add (a + 1) a 1 ∙ ap (λ (x : ℕ). x + (a + 1) * 1) (add-mul a 1 a) ∙ ap (λ (x : ℕ). a * a + 1 * a + x) (mul-one (a + 1)) ∙ sum (a * a) a
  where
    sum : (s a : ℕ) → s + 1 * a + (a + 1) ≡ s + 2 * a + 1
    sum s a = omega arith

pub sq_mono : {a b : ℕ} → a ≤ b → a * a ≤ b * b
sq_mono h = mul-le-mul h h

pub sq_lt_back : {a b : ℕ} → a * a < b * b → a < b
sq_lt_back h = lt_of_not-le (λ g. not-le_of_lt h (sq_mono g))

-- ---- the whole root

quarter : (n x y : ℕ) → y ≡ 4 * x → n < y → n / 4 < x
quarter n x y e h = omega arith

whole_below : (n x y : ℕ) → y ≡ 4 * x → x ≤ n / 4 → y ≤ n
whole_below n x y e h = omega arith

whole_above : (n x y : ℕ) → y ≡ 4 * x → n / 4 < x → n < y
whole_above n x y e h = omega arith

two_more : (s : ℕ) → 2 * s + 1 + 1 ≡ 2 * (s + 1)
two_more s = omega arith

abbrev IsRoot : ℕ → ℕ → Type 0
IsRoot r n = (r * r ≤ n) × (n < (r + 1) * (r + 1))

-- one digit more
digit_more : (s n : ℕ) → IsRoot s (n / 4) → IsRoot (cond (leb ((2 * s + 1) * (2 * s + 1)) n) (2 * s + 1) (2 * s)) n
digit_more s n within = go (leb odd n) (leb→le odd n) (nleb→lt odd n)
  where
    odd : ℕ
    odd = (2 * s + 1) * (2 * s + 1)

    go : (b : Bool) → (T b → (2 * s + 1) * (2 * s + 1) ≤ n) → (T (not b) → n < (2 * s + 1) * (2 * s + 1)) → IsRoot (cond b (2 * s + 1) (2 * s)) n
    go true y z = (y tt, whole_above n ((s + 1) * (s + 1)) ((2 * s + 1 + 1) * (2 * s + 1 + 1)) (ap sq (two_more s) ∙ sq_twice (s + 1)) within.1)
    go false y z = (whole_below n (s * s) (2 * s * (2 * s)) (sq_twice s) within.0, z tt)

root_digits_is : (d n : ℕ) → n < 2 ^ d * 2 ^ d → IsRoot (root_digits d n) n
unfolding root_digits
root_digits_is zero n h = (omega arith, omega arith)
root_digits_is (suc d) n h =
    digit_more (root_digits d (n / 4)) n (root_digits_is d (n / 4) (quarter n (2 ^ d * 2 ^ d) (2 ^ suc d * 2 ^ suc d) (ap sq (pow-succ' 2 d) ∙ sq_twice (2 ^ d)) h))

pub whole_root_is : (n : ℕ) → (whole_root n * whole_root n ≤ n) × (n < (whole_root n + 1) * (whole_root n + 1))
unfolding whole_root
whole_root_is n = root_digits_is (size n) n (lt_of_lt_of_le (size-lt n) (le_trans (le_of_eq (sym (mul-one (2 ^ size n)))) (mul-le-mul_left (2 ^ size n) (pow_pos (size n)))))

-- ---- the leading digits of the root

pub one_more : (q k : ℕ) → (q + 1) * k ≡ q * k + k
one_more q k = add-mul q 1 k ∙ ap (λ (x : ℕ). q * k + x) (one-mul k)

one_up : (r y x : ℕ) → r < x → y ≡ x → r + 1 ≤ y
one_up r y x h e = omega arith

-- q is the leading digits of √w where the digits below 2 ^ k are dropped
abbrev pub Leading : ℕ → ℕ → ℕ → Type 0
Leading q k w = (q * k * (q * k) ≤ w) × (w < (q + 1) * k * ((q + 1) * k))

pub leading : (w k : ℕ) → 0 < k → Leading (whole_root w / k) k w
leading w k pos =
    let r = whole_root w in
    let q = r / k in (
      le_trans (sq_mono (div-mul-le_self r k)) (whole_root_is w).0,
      lt_of_lt_of_le (whole_root_is w).1 (sq_mono (one_up r ((q + 1) * k) (q * k + k) (lt-div-mul-add pos) (one_more q k))),
    )

-- twice the middle between q * k and (q + 1) * k, squared
abbrev pub middle : ℕ → ℕ → ℕ
middle q k = (2 * q + 1) * (2 * q + 1) * (k * k)

-- what `nearest` picks: q where w is at most the middle, the next number where w is at least that
abbrev pub Picked : ℕ → ℕ → ℕ → ℕ → Type 0
Picked n q k w = ((n ≡ q) × (4 * w ≤ middle q k)) ⊎ ((n ≡ q + 1) × (middle q k ≤ 4 * w))

at_tie : (q a b : ℕ) → a ≡ b → (((q + q % 2) ≡ q) × (a ≤ b)) ⊎ (((q + q % 2) ≡ q + 1) × (b ≤ a))
at_tie q a b e = go (q % 2) refl
  where
    go : (r : ℕ) → q % 2 ≡ r → ((q + r ≡ q) × (a ≤ b)) ⊎ ((q + r ≡ q + 1) × (b ≤ a))
    go zero h = inl (omega arith, omega arith)
    go (suc r) h = inr (omega arith, omega arith)

pub picked : (q k w : ℕ) → Picked (nearest q (compare (4 * w) (middle q k))) q k w
picked q k w = go (compare (4 * w) (middle q k)) refl
  where
    go : (o : Ordering) → compare (4 * w) (middle q k) ≡ o → Picked (nearest q o) q k w
    go Ordering.lt e = inl (refl, leb→le (4 * w) (middle q k) (subst (λ (o : Ordering). T (is_le o)) (sym e) tt))
    go Ordering.eq e = at_tie q (4 * w) (middle q k) (eqb→eq (4 * w) (middle q k) (subst (λ (o : Ordering). T (compare_is_eq o)) (sym e) tt))
    go Ordering.gt e = inr (sym (add-one q), le_of_lt (nleb→lt (4 * w) (middle q k) (subst (λ (o : Ordering). T (not (is_le o))) (sym e) tt)))

-- ---- of a number that was shifted

-- a is the whole number nearest to √n
abbrev pub NearestRoot : ℕ → ℕ → Type 0
NearestRoot a n = (a * a < n + a) × (n ≤ a * a + a)

-- the two halves of that, from the products of neighbours
pub at_most : (a n : ℕ) → n ≤ a * (a + 1) → n ≤ a * a + a
at_most a n h = subst (λ (x : ℕ). n ≤ x) (mul-add a a 1 ∙ ap (λ (x : ℕ). a * a + x) (mul-one a)) h

pub above_last : (a n : ℕ) → a * (a + 1) < n → (a + 1) * (a + 1) < n + (a + 1)
above_last a n h = sum ((a + 1) * (a + 1)) (a * (a + 1)) (add-mul a 1 (a + 1)) h
  where
    sum : (x y : ℕ) → x ≡ y + 1 * (a + 1) → y < n → x < n + (a + 1)
    sum x y e h = omega arith

one_below : (a b n : ℕ) → b < a → n ≤ b * b + b → n + a ≤ a * a
one_below zero b n l h = absurd (not-suc-le-zero l)
one_below (suc c) b n l h =
    sum (suc c * suc c) (c * c) (b * b) (ap sq (sym (add-one c)) ∙ sq_next c) (sq_mono (le_of_suc-le-suc l)) h
  where
    sum : (a c² b² : ℕ) → a ≡ c² + 2 * c + 1 → b² ≤ c² → n ≤ b² + b → n + suc c ≤ a
    sum a c² b² e m h = omega arith

nearest_root_le : (a b n : ℕ) → NearestRoot a n → NearestRoot b n → a ≤ b
nearest_root_le a b n p q = le_of_suc-le-suc (lt_of_not-le (λ l. not-le_of_lt p.0 (one_below a b n l q.1)))

pub nearest_root_unique : (a b n : ℕ) → NearestRoot a n → NearestRoot b n → a ≡ b
nearest_root_unique a b n p q = le_antisymm (nearest_root_le a b n p q) (nearest_root_le b a n q p)

-- q is the leading digits of √n, and x what `nearest` picks by 4 * n against (2 * q + 1) * (2 * q + 1), which is odd
odd_middle : (x q n s t : ℕ) → s ≡ q * q → t ≡ 4 * s + 4 * q + 1 → s ≤ n → n < s + 2 * q + 1 → 0 < q → ((x ≡ q) × (4 * n ≤ t)) ⊎ ((x ≡ q + 1) × (t ≤ 4 * n)) → NearestRoot x n
odd_middle x q n s t e d lo hi p (inl h) =
    subst (λ (y : ℕ). NearestRoot y n) (sym h.0) (omega arith, omega arith)
odd_middle x q n s t e d lo hi p (inr h) =
    subst (λ (y : ℕ). NearestRoot y n) (sym h.0) (up_by_one (sq_next q), omega (arith, sq_next q))
  where
    up_by_one : (q + 1) * (q + 1) ≡ q * q + 2 * q + 1 → (q + 1) * (q + 1) < n + (q + 1)
    up_by_one r = omega (arith, h.1)

pub middle_is : (q : ℕ) → (2 * q + 1) * (2 * q + 1) ≡ 4 * (q * q) + 4 * q + 1
middle_is q = sq_next (2 * q) ∙ sum (2 * q * (2 * q)) (q * q) (sq_twice q)
  where
    sum : (a s : ℕ) → a ≡ 4 * s → a + 2 * (2 * q) + 1 ≡ 4 * s + 4 * q + 1
    sum a s e = omega arith

pub shifted_sq : (a k : ℕ) → a * k * (a * k) ≡ a * a * (k * k)
shifted_sq a k = mul-mul-mul_comm a k a k

unshift_le : (a b k : ℕ) → 0 < k → a * (k * k) ≤ b * (k * k) → a ≤ b
unshift_le a b k pos h = le_of_mul-le-mul_right h (mul-pos pos pos)

unshift_picked : (x q n k : ℕ) → 0 < k → Picked x q k (n * (k * k)) → ((x ≡ q) × (4 * n ≤ (2 * q + 1) * (2 * q + 1))) ⊎ ((x ≡ q + 1) × ((2 * q + 1) * (2 * q + 1) ≤ 4 * n))
unshift_picked x q n k pos (inl h) = inl (h.0, unshift_le (4 * n) ((2 * q + 1) * (2 * q + 1)) k pos (subst (λ (a : ℕ). a ≤ middle q k) (sym (mul_assoc 4 n (k * k))) h.1))
unshift_picked x q n k pos (inr h) = inr (h.0, unshift_le ((2 * q + 1) * (2 * q + 1)) (4 * n) k pos (subst (λ (a : ℕ). middle q k ≤ a) (sym (mul_assoc 4 n (k * k))) h.1))

unshift_leading : (q n k : ℕ) → 0 < k → Leading q k (n * (k * k)) → (q * q ≤ n) × (n < q * q + 2 * q + 1)
unshift_leading q n k pos h = (
  unshift_le (q * q) n k pos (subst (λ (a : ℕ). a ≤ n * (k * k)) (shifted_sq q k) h.0),
  subst (λ (a : ℕ). n < a) (sq_next q) (lt_of_mul-lt-mul_right (k * k) (subst (λ (a : ℕ). n * (k * k) < a) (shifted_sq (q + 1) k) h.1)),
)

shifted_nearest : (n k : ℕ) → 0 < k → 0 < whole_root (n * (k * k)) / k
    → NearestRoot (nearest (whole_root (n * (k * k)) / k) (compare (4 * (n * (k * k))) (middle (whole_root (n * (k * k)) / k) k))) n
shifted_nearest n k pos some =
    let w = n * (k * k) in
    let q = whole_root w / k in
    let l = unshift_leading q n k pos (leading w k pos) in
    odd_middle (nearest q (compare (4 * w) (middle q k))) q n (q * q) ((2 * q + 1) * (2 * q + 1)) refl (middle_is q) l.0 l.1 some (unshift_picked (nearest q (compare (4 * w) (middle q k))) q n k pos (picked q k w))

digits_are : (n k : ℕ) → 2 ^ 104 ≤ n → n < 2 ^ 106 → (2 ^ 52 * 2 ^ k ≤ whole_root (n * (2 ^ k * 2 ^ k))) × (whole_root (n * (2 ^ k * 2 ^ k)) < 2 ^ 53 * 2 ^ k)
digits_are n k lo hi =
    let K = 2 ^ k in
    let w = n * (K * K) in
    let r = whole_root w in
    let at_least : 2 ^ 52 * K * (2 ^ 52 * K) ≤ w = subst (λ (a : ℕ). a ≤ w) (sym (shifted_sq (2 ^ 52) K)) (mul-le-mul_right (K * K) lo) in
    let below : w < 2 ^ 53 * K * (2 ^ 53 * K) = subst (λ (a : ℕ). w < a) (sym (shifted_sq (2 ^ 53) K)) (mul-lt-mul_of_pos_right hi (mul-pos (pow_pos k) (pow_pos k))) in (
      before_next (2 ^ 52 * K) r (sq_lt_back (lt_of_le_of_lt at_least (whole_root_is w).1)),
      sq_lt_back (lt_of_le_of_lt (whole_root_is w).0 below),
    )
  where
    before_next : (a r : ℕ) → a < r + 1 → a ≤ r
    before_next a r h = omega arith

size_is : (r k : ℕ) → 2 ^ 52 * 2 ^ k ≤ r → r < 2 ^ 53 * 2 ^ k → size r - 53 ≡ k
size_is r k lo hi =
    let most : size r ≤ 53 + k = size-le r (53 + k) (subst (λ (a : ℕ). r < a) (sym (pow-add 2 53 k)) hi) in
    let least : 52 + k < size r = lt_of_not-le (λ g. not-le_of_lt (size-lt r) (le_trans (pow_mono g) (subst (λ (a : ℕ). a ≤ r) (sym (pow-add 2 52 k)) lo))) in
    omega arith

root_of_units_is : (w : ℕ) → root_of_units binary64 w
    ≡ units binary64 false (nearest (whole_root w / 2 ^ (size (whole_root w) - 53)) (compare (4 * w) (middle (whole_root w / 2 ^ (size (whole_root w) - 53)) (2 ^ (size (whole_root w) - 53))))) (size (whole_root w) - 53)
unfolding root_of_units
root_of_units_is w = refl

-- The root of n * 4 ^ k is q * 2 ^ k, for the q that is nearest to √n.
pub root_of_shifted : (q n k : ℕ) → 2 ^ 104 ≤ n → n < 2 ^ 106 → NearestRoot q n → root_of_units binary64 (n * (2 ^ k * 2 ^ k)) ≡ units binary64 false q k
root_of_shifted q n k lo hi near =
    let w = n * (2 ^ k * 2 ^ k) in
    let r = whole_root w in
    let bounds = digits_are n k lo hi in
    let some : 0 < r / 2 ^ k = le_trans (pow_pos 52) ((le-div_iff_mul-le (pow_pos k)).1 bounds.0) in
    root_of_units_is w
    ∙ ap (λ (j : ℕ). units binary64 false (nearest (r / 2 ^ j) (compare (4 * w) (middle (r / 2 ^ j) (2 ^ j)))) j) (size_is r k bounds.0 bounds.1)
    ∙ ap (λ (x : ℕ). units binary64 false x k) (nearest_root_unique (nearest (r / 2 ^ k) (compare (4 * w) (middle (r / 2 ^ k) (2 ^ k)))) q n (shifted_nearest n (2 ^ k) (pow_pos k) some) near)
