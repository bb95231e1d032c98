-- Where all terms are whole and their absolute values sum to at most 2^53, the sum of either edition is the exact whole number: so is every sum on the way, and
-- binary64 holds each whole number of that size. Assumes nothing.
use Prim.Native.Nat.{ℕ, zero, suc, ◌+◌, ◌-◌, ◌*◌, ◌/◌, ◌^◌, ◌≤◌, ◌<◌}
use native.Mathlib.Nat.{add-zero, add-suc, mul-one, zero-mul, mul_assoc, mul_comm, mul-sub, add-mul, mul-pos, zero-lt-suc, mul-le-mul_right, mul-lt-mul_of_pos_right}
use native.Mathlib.Omega.{arith}
use mathlib.Core.Path.{◌≡◌, refl, sym, ap, ◌∙◌, subst}
use mathlib.Core.Bool.{Bool, true, false, not, ◌&&◌, cond}
use borrow.Author.Tests.{lt-ltb, le-ltb, ne_eqb}
use lib.Dec.{eqb, ltb}
use lib.IntN.{ℤ, pos, negsuc, neg_ℤ, nat_abs, pos-ne-negsuc, sub_ℕ, ◌+ℤ◌, ◌*ℤ◌, neg_ℤ-neg_ℤ, neg_ℤ-+ℤ, +ℤ-neg_ℤ_cancel, +ℤ_comm, +ℤ_assoc, +ℤ_idl, +ℤ_idr}
use lib.Ieee.{Float, nan, inf, fin, Format, binary64, up, down, round, sum, add, of_bits}
use lib.Ieee.Fits.{down_pos}
use lib.Ieee.Exact.{HasValue}
use lib.Ieee.Back.{round_whole}
use lib.Ieee.Scale.{round_same}
use Rattle.rules.specs.Arithmetic.{◌+ᶠ◌, +0, sum_from}
use Rattle.rules.specs.Editions.{halved, sum_by_halves, sum_by}
use Rattle.rules.specs.Demands.{IsWhole, whole_sum, absolute_sum, WholeTerms}
use Rattle.rules.proofs.Columns.{by_less}

-- ---- a whole number by its sign and its size

abbrev signed : Bool → ℕ → ℤ
signed s a = cond s (neg_ℤ (pos a)) (pos a)

signed_size : (s : Bool) (a : ℕ) → nat_abs (signed s a) ≡ a
signed_size false a = refl
signed_size true zero = refl
signed_size true (suc a) = refl

signed_times : (s : Bool) (a d : ℕ) → signed s a *ℤ pos d ≡ signed s (a * d)
signed_times false a d = refl
signed_times true zero d = rw (zero-mul d)
signed_times true (suc a) d = refl

times_size : (z : ℤ) (d : ℕ) → nat_abs (z *ℤ pos d) ≡ nat_abs z * d
times_size (pos a) d = refl
times_size (negsuc a) d = signed_size true (suc a * d)

minus_is_no_plus : (x y : ℕ) → 0 < y → pos x ≡ neg_ℤ (pos y) → ⊥
minus_is_no_plus x zero h e = absurd (omega arith)
minus_is_no_plus x (suc y) h e = pos-ne-negsuc x y e

-- a float that has the sign and the size is that whole number
valued : (v : Float) (s : Bool) (a : ℕ) → HasValue v s a 1 → IsWhole v (signed s a)
valued nan s a h = h
valued (inf t) s a h = h
valued (fin t m e) s a h = ap (λ (u : Bool). signed u (m * up e)) h.0 ∙ ap (λ (x : ℕ). signed s x) (sym (mul-one (m * up e)) ∙ h.1) ∙ sym (signed_times s a (down e))

-- a whole float has the size of its number
whole_size : (s : Bool) (x : ℕ) (z : ℤ) (d : ℕ) → signed s x ≡ z *ℤ pos d → x ≡ nat_abs z * d
whole_size s x z d h = sym (signed_size s x) ∙ ap nat_abs h ∙ times_size z d

-- and the sign, but for a zero, which may have either
whole_sign : (s : Bool) (x : ℕ) (z : ℤ) (d : ℕ) → 0 < d → signed s x ≡ z *ℤ pos d → z ≡ signed s (nat_abs z)
whole_sign false x (pos a) d h e = refl
whole_sign false x (negsuc a) d h e = absurd (minus_is_no_plus x (suc a * d) (mul-pos (zero-lt-suc a) h) e)
whole_sign true x (pos zero) d h e = refl
whole_sign true x (pos (suc a)) d h e = absurd (minus_is_no_plus (suc a * d) x (omega (arith, whole_size true x (pos (suc a)) d e, mul-pos (zero-lt-suc a) h)) (sym e))
whole_sign true x (negsuc a) d h e = refl

-- ---- one addition

-- a common denominator changes no sum
same_order : (a b c : ℕ) → 0 < c → ltb (a * c) (b * c) ≡ ltb a b
same_order a b c h =
    by_less a b (λ l. rw (lt-ltb a b l, lt-ltb (a * c) (b * c) (mul-lt-mul_of_pos_right l h)))
    (λ l. rw (le-ltb a b l, le-ltb (a * c) (b * c) (mul-le-mul_right c l)))

over_one : (f : Format) (s : Bool) (x a c : ℕ) → 0 < c → x ≡ a * c → round f s x c ≡ round f s a 1
over_one f s x a c h e = round_same f s x c a 1 h (zero-lt-suc 0) (mul-one x ∙ e)

sub-mul : (a b c : ℕ) → a * c - b * c ≡ (a - b) * c
sub-mul a b c = rw (mul_comm a c, mul_comm b c, mul_comm (a - b) c, mul-sub c a b)

sum_over_one : (f : Format) (s t : Bool) (a b c : ℕ) → 0 < c → sum f s (a * c) t (b * c) c ≡ sum f s a t b 1
unfolding sum
sum_over_one f s t a b c h =
    let joined : round f s (a * c + b * c) c ≡ round f s (a + b) 1 = over_one f s (a * c + b * c) (a + b) c h (sym (add-mul a b c)) in
    let less : round f t (b * c - a * c) c ≡ round f t (b - a) 1 = over_one f t (b * c - a * c) (b - a) c h (sub-mul b a c) in
    let more : round f (s && ltb b a) (a * c - b * c) c ≡ round f (s && ltb b a) (a - b) 1 = over_one f (s && ltb b a) (a * c - b * c) (a - b) c h (sub-mul a b c) in
    rw (same_order a b c h, same_order b a c h, joined, less, more)

-- binary64 holds each whole number up to 2^53
rounded : (s : Bool) (a : ℕ) → a ≤ 2 ^ 53 → IsWhole (round binary64 s a 1) (signed s a)
rounded s a h = valued (round binary64 s a 1) s a (round_whole binary64 s a h)

-- of opposite signs: what is left of the larger size keeps its sign
larger_left : (s : Bool) (d b : ℕ) → signed s (d + b) +ℤ signed (not s) b ≡ signed s d
larger_left false d b = +ℤ-neg_ℤ_cancel (pos d) (pos b)
larger_left true d b =
    sym (neg_ℤ-neg_ℤ (neg_ℤ (pos (d + b)) +ℤ pos b))
    ∙ ap neg_ℤ (neg_ℤ-+ℤ (neg_ℤ (pos (d + b))) (pos b) ∙ ap (λ z. z +ℤ neg_ℤ (pos b)) (neg_ℤ-neg_ℤ (pos (d + b))) ∙ +ℤ-neg_ℤ_cancel (pos d) (pos b))

larger_right : (s : Bool) (d a : ℕ) → signed s a +ℤ signed (not s) (d + a) ≡ signed (not s) d
larger_right false d a = +ℤ_comm (pos a) (neg_ℤ (pos (d + a))) ∙ larger_left true d a
larger_right true d a = +ℤ_comm (neg_ℤ (pos a)) (pos (d + a)) ∙ larger_left false d a

-- where nothing is left the sign doesn't matter
sign_kept : (s : Bool) (a b : ℕ) → signed (s && ltb b a) (a - b) ≡ signed s (a - b)
sign_kept false a b = refl
sign_kept true a b =
    by_less b a (λ l. rw (lt-ltb b a l))
    (λ l.
    let none : a - b ≡ 0 = omega arith in
    rw (le-ltb b a l, none))

unlike_exact : (s : Bool) (a b : ℕ) → a + b ≤ 2 ^ 53 → IsWhole (cond (ltb a b) (round binary64 (not s) (b - a) 1) (round binary64 (s && ltb b a) (a - b) 1)) (signed s a +ℤ signed (not s) b)
unlike_exact s a b h =
    by_less a b
    (λ l.
    let back : b - a + a ≡ b = omega arith in
    let is : signed (not s) (b - a) ≡ signed s a +ℤ signed (not s) b = sym (larger_right s (b - a) a) ∙ ap (λ (x : ℕ). signed s a +ℤ signed (not s) x) back in
    rw (lt-ltb a b l) (subst (λ (z : ℤ). IsWhole (round binary64 (not s) (b - a) 1) z) is (rounded (not s) (b - a) (omega arith))))
    (λ l.
    let back : a - b + b ≡ a = omega arith in
    let is : signed (s && ltb b a) (a - b) ≡ signed s a +ℤ signed (not s) b = sign_kept s a b ∙ sym (larger_left s (a - b) b) ∙ ap (λ (x : ℕ). signed s x +ℤ signed (not s) b) back in
    rw (le-ltb a b l) (subst (λ (z : ℤ). IsWhole (round binary64 (s && ltb b a) (a - b) 1) z) is (rounded (s && ltb b a) (a - b) (omega arith))))

sum_exact : (s t : Bool) (a b : ℕ) → a + b ≤ 2 ^ 53 → IsWhole (sum binary64 s a t b 1) (signed s a +ℤ signed t b)
unfolding sum
sum_exact false false a b h = rounded false (a + b) h
sum_exact false true a b h = unlike_exact false a b h
sum_exact true false a b h = unlike_exact true a b h
sum_exact true true a b h = subst (λ (z : ℤ). IsWhole (round binary64 true (a + b) 1) z) (neg_ℤ-+ℤ (pos a) (pos b)) (rounded true (a + b) h)

-- "−0 counting as 0": no sign of a zero is asked for or told
whole-add : (u v : Float) (a b : ℤ) → IsWhole u a → IsWhole v b → nat_abs a + nat_abs b ≤ 2 ^ 53 → IsWhole (u +ᶠ v) (a +ℤ b)
unfolding add
whole-add nan v a b p q h = absurd p
whole-add (inf s) v a b p q h = absurd p
whole-add (fin s m e) nan a b p q h = absurd q
whole-add (fin s m e) (inf t) a b p q h = absurd q
whole-add (fin s m e) (fin t n d) a b p q h =
    let c = down e * down d in
    let first : m * up e * down d ≡ nat_abs a * c = rw (whole_size s (m * up e) a (down e) p, mul_assoc (nat_abs a) (down e) (down d)) in
    let second : n * up d * down e ≡ nat_abs b * c = rw (whole_size t (n * up d) b (down d) q, mul_assoc (nat_abs b) (down d) (down e), mul_comm (down d) (down e)) in
    let is : sum binary64 s (nat_abs a) t (nat_abs b) 1 ≡ sum binary64 s (m * up e * down d) t (n * up d * down e) c =
    sym (sum_over_one binary64 s t (nat_abs a) (nat_abs b) c (mul-pos (down_pos e) (down_pos d))) ∙ (λ i. sum binary64 s (sym first i) t (sym second i) c) in
    subst (λ (x : Float). IsWhole x (a +ℤ b)) is
    (subst (λ (z : ℤ). IsWhole (sum binary64 s (nat_abs a) t (nat_abs b) 1) z) (sym (λ i. whole_sign s (m * up e) a (down e) (down_pos e) p i +ℤ whole_sign t (n * up d) b (down d) (down_pos d) q i))
    (sum_exact s t (nat_abs a) (nat_abs b) h))

-- ---- the exact sums

size_sub : (a b : ℕ) → nat_abs (sub_ℕ a b) ≤ a + b
size_sub a b = by_less a b (λ l. rw (lt-ltb a b l) (omega arith)) (λ l. rw (le-ltb a b l) (omega arith))

-- a sum is no larger than the absolute values come to
size_add : (a b : ℤ) → nat_abs (a +ℤ b) ≤ nat_abs a + nat_abs b
size_add (pos a) (pos b) = omega arith
size_add (pos a) (negsuc b) = size_sub a (suc b)
size_add (negsuc a) (pos b) = omega (arith, size_sub b (suc a))
size_add (negsuc a) (negsuc b) = omega arith

size_whole : (n : ℕ) (z : ℕ → ℤ) → nat_abs (whole_sum n z) ≤ absolute_sum n z
unfolding whole_sum absolute_sum
size_whole zero z = omega arith
size_whole (suc n) z = omega (arith, size_add (whole_sum n z) (z n), size_whole n z)

-- a range in two parts
whole_parts : (a b : ℕ) (z : ℕ → ℤ) → whole_sum (a + b) z ≡ whole_sum a z +ℤ whole_sum b (λ k. z (a + k))
unfolding whole_sum
whole_parts a zero z = rw (add-zero a) (sym (+ℤ_idr (whole_sum a z)))
whole_parts a (suc b) z = rw (add-suc a b, whole_parts a b z) (+ℤ_assoc (whole_sum a z) (whole_sum b (λ k. z (a + k))) (z (a + b)))

absolute_parts : (a b : ℕ) (z : ℕ → ℤ) → absolute_sum (a + b) z ≡ absolute_sum a z + absolute_sum b (λ k. z (a + k))
unfolding absolute_sum
absolute_parts a zero z = rw (add-zero a) (omega arith)
absolute_parts a (suc b) z = rw (add-suc a b, absolute_parts a b z) (omega arith)

first_terms : (a b : ℕ) (f : ℕ → Float) (z : ℕ → ℤ) → WholeTerms (a + b) f z → WholeTerms a f z
first_terms a b f z w = record { whole = λ k l. w.whole k (omega arith); small = omega (arith, w.small, absolute_parts a b z) }

rest_terms : (a b : ℕ) (f : ℕ → Float) (z : ℕ → ℤ) → WholeTerms (a + b) f z → WholeTerms b (λ k. f (a + k)) (λ k. z (a + k))
rest_terms a b f z w = record { whole = λ k l. w.whole (a + k) (omega arith); small = omega (arith, w.small, absolute_parts a b z) }

-- ---- both editions

zero-whole : IsWhole +0 (pos 0)
unfolding of_bits
zero-whole = refl

-- two parts that are exact add up exactly
parts_exact : (a b : ℕ) (f : ℕ → Float) (z : ℕ → ℤ) (u v : Float) → WholeTerms (a + b) f z → IsWhole u (whole_sum a z) → IsWhole v (whole_sum b (λ k. z (a + k))) → IsWhole (u +ᶠ v) (whole_sum (a + b) z)
parts_exact a b f z u v w p q =
    subst (λ (x : ℤ). IsWhole (u +ᶠ v) x) (sym (whole_parts a b z))
    (whole-add u v (whole_sum a z) (whole_sum b (λ k. z (a + k))) p q (omega (arith, w.small, absolute_parts a b z, size_whole a z, size_whole b (λ k. z (a + k)))))

one_exact : (f : ℕ → Float) (z : ℕ → ℤ) → IsWhole (f 0) (z 0) → IsWhole (f 0) (whole_sum 1 z)
unfolding whole_sum
one_exact f z h = subst (λ (x : ℤ). IsWhole (f 0) x) (sym (+ℤ_idl (z 0))) h

left_exact : (n : ℕ) (f : ℕ → Float) (z : ℕ → ℤ) → WholeTerms n f z → IsWhole (sum_from +0 n f) (whole_sum n z)
unfolding sum_from whole_sum absolute_sum
left_exact zero f z w = zero-whole
left_exact (suc n) f z w =
    whole-add (sum_from +0 n f) (f n) (whole_sum n z) (z n) (left_exact n f z (record { whole = λ k l. w.whole k (omega arith); small = omega (arith, w.small) })) (w.whole n (omega arith)) (omega (arith, w.small, size_whole n z))

halves_exact : (cuts n : ℕ) (f : ℕ → Float) (z : ℕ → ℤ) → n ≤ cuts → WholeTerms n f z → IsWhole (halved cuts n f) (whole_sum n z)
unfolding halved whole_sum
halves_exact zero zero f z h w = zero-whole
halves_exact zero (suc n) f z h w = absurd (omega arith)
halves_exact (suc cuts) zero f z h w = zero-whole
halves_exact (suc cuts) (suc zero) f z h w = one_exact f z (w.whole 0 (omega arith))
halves_exact (suc cuts) (suc (suc n)) f z h w =
    let half = suc (suc n) / 2 in
    let rest = suc (suc n) - half in
    let split : half + rest ≡ suc (suc n) = omega arith in
    let terms : WholeTerms (half + rest) f z = rw split w in
    rw (ne_eqb (suc (suc n)) 0 (λ e. omega (arith, e)), ne_eqb (suc (suc n)) 1 (λ e. omega (arith, e)))
    (subst (λ (k : ℕ). IsWhole (halved cuts half f +ᶠ halved cuts rest (λ j. f (half + j))) (whole_sum k z)) split
    (parts_exact half rest f z (halved cuts half f) (halved cuts rest (λ j. f (half + j))) terms (halves_exact cuts half f z (omega arith) (first_terms half rest f z terms))
    (halves_exact cuts rest (λ j. f (half + j)) (λ j. z (half + j)) (omega arith) (rest_terms half rest f z terms))))

pub whole_sums_exact : (edition n : ℕ) (f : ℕ → Float) (z : ℕ → ℤ) → WholeTerms n f z → IsWhole (sum_by edition n f) (whole_sum n z)
whole_sums_exact edition n f z w = go (eqb edition 2)
  where
    go : (b : Bool) → IsWhole (cond b (sum_by_halves n f) (sum_from +0 n f)) (whole_sum n z)
    go true = halves_exact n n f z (omega arith) w
    go false = left_exact n f z w
