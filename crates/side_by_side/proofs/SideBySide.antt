-- Laws of sums that are added up side by side, and of places that are reached several at once.
use Prim.Native.Nat.{ℕ, zero, suc, ◌+◌, ◌-◌, ◌<◌, ◌≤◌}
use native.Mathlib.Nat.{sub_self}
use native.Mathlib.Omega.{arith}
use mathlib.Core.Path.{◌≡◌, refl, sym, ap, ◌∙◌}
use mathlib.Core.Bool.{Bool}
use mathlib.Core.List.{List, [], ◌∷◌, ◌++◌}
use lib.Ieee.{Float, nan}
use lib.ListN.{length, take, drop, replicate, length-replicate, get_or-replicate}
use lib.Seq.{take-add, length-take-le}
use borrow.Author.Tests.{eq-eqb}
use Rattle.rules.specs.Outcome.{Outcome}
use Rattle.rules.specs.Vectors.{same_length}
use Rattle.rules.proofs.Outcome.{ruled_if_fits}
use Rattle.rules.specs.Arithmetic.{◌+ᶠ◌, ◌*ᶠ◌, +0, at, sum_from, each_to, each}
use Rattle.rules.proofs.Arithmetic.{sum_none, sum_more, each-length, each_at, each_is, each_same, each_to-length, Reached}
use Rattle.rules.proofs.Parts.{put, places, from_start, zeros-part, put_length, put_part, next_lent, next_put}
use Rattle.rules.proofs.Slices.{each_on}

-- every place, and then every place again
pub each_after : (f g : ℕ → Float → Float) (xs : List Float) → each g (each f xs) ≡ each (λ k v. g k (f k v)) xs
each_after f g xs =
    each_is (λ k v. g k (f k v)) xs (each g (each f xs)) (each-length g (each f xs) ∙ each-length f xs)
    (λ i l. each_at g (each f xs) i (rw (each-length f xs) l) ∙ ap (g i) (each_at f xs i l))

-- ---- several sums: ys is what n passes have made of xs, each of which adds a term to every sum

pub record SummedEach (terms : ℕ → ℕ → Float) (n : ℕ) (xs ys : List Float) : Type 0 where
  pub is : ys ≡ each (λ k s. sum_from s n (terms k)) xs
  pub same : length ys ≡ length xs

pub summed_each_none : (terms : ℕ → ℕ → Float) (xs : List Float) → SummedEach terms 0 xs xs
summed_each_none terms xs = record { is = each_is _ xs xs refl (λ i l. sym (sum_none (at xs i) (terms i))); same = refl }

pub summed_each_more : {terms : ℕ → ℕ → Float} {n : ℕ} {xs ys zs : List Float} → SummedEach terms n xs ys → zs ≡ each (λ k s. s +ᶠ terms k n) ys → SummedEach terms (n + 1) xs zs
summed_each_more {terms} {n} {xs} {ys} {zs} r e =
    let once : zs ≡ each (λ k s. sum_from s n (terms k) +ᶠ terms k n) xs = rw (e, r.is) (each_after _ _ xs) in
    let is : zs ≡ each (λ k s. sum_from s (n + 1) (terms k)) xs = each_is _ xs zs (ap length once ∙ each-length _ xs) (λ i l. ap (λ v. at v i) once ∙ each_at _ xs i l ∙ sum_more (at xs i) (terms i) n) in
    record { is = is; same = ap length is ∙ each-length _ xs }

pub summed_each_all : {terms : ℕ → ℕ → Float} {n m : ℕ} {xs ys : List Float} → SummedEach terms n xs ys → n ≡ m → ys ≡ each (λ k s. sum_from s m (terms k)) xs
summed_each_all {terms} {n} {m} {xs} {ys} r e = rw (← e) r.is

-- the same, where the passes count from `start` on
pub record SummedOver (terms : ℕ → ℕ → Float) (start c : ℕ) (xs ys : List Float) : Type 0 where
  pub summed : SummedEach (λ k j. terms k (start + j)) (c - start) xs ys
  pub begun : start ≤ c

pub summed_over_none : (terms : ℕ → ℕ → Float) (start : ℕ) (xs : List Float) → SummedOver terms start start xs xs
summed_over_none terms start xs = record { summed = rw (sub_self start) (summed_each_none _ xs); begun = omega arith }

pub summed_over_more : {terms : ℕ → ℕ → Float} {start c : ℕ} {xs ys zs : List Float} → SummedOver terms start c xs ys → zs ≡ each (λ k s. s +ᶠ terms k c) ys → SummedOver terms start (c + 1) xs zs
summed_over_more {terms} {start} {c} {xs} {ys} {zs} r e =
    let here : start + (c - start) ≡ c = omega (arith, r.begun) in
    let next : c - start + 1 ≡ c + 1 - start = omega (arith, r.begun) in
    let more : SummedEach (λ k j. terms k (start + j)) (c - start + 1) xs zs = summed_each_more r.summed (rw here e) in
    record { summed = rw next at more; begun = omega (arith, r.begun) }

pub summed_over_all : {terms : ℕ → ℕ → Float} {start c end : ℕ} {xs ys : List Float} → SummedOver terms start c xs ys → c ≡ end → ys ≡ each (λ k s. sum_from s (end - start) (λ j. terms k (start + j))) xs
summed_over_all {terms} {start} {c} {end} {xs} {ys} r e = rw (← e) r.summed.is

-- ---- the places of a part, reached at once

each_to_front : (f : ℕ → Float → Float) (n : ℕ) (xs : List Float) → each_to f n xs ≡ each f (take n xs) ++ drop n xs
unfolding each
each_to_front f zero xs = refl
each_to_front f (suc n) [] = refl
each_to_front f (suc n) (x ∷ xs) = ap (λ (l : List Float). f 0 x ∷ l) (each_to_front (λ k v. f (suc k) v) n xs)

pub reached_part : {f : ℕ → Float → Float} {n : ℕ} {xs ys : List Float} → Reached f n xs ys → (w : ℕ) (zs : List Float) → n + w ≤ length xs
    → zs ≡ each (λ k v. f (n + k) v) (take (n + w - n) (drop n ys))
    → Reached f (n + w) xs (put n (n + w) ys zs)
reached_part {f} {n} {xs} {ys} r w zs inside e =
    let front : length (take n xs) ≡ n = length-take-le n xs (omega arith) in
    let new : length (each f (take n xs)) ≡ n = each-length f (take n xs) ∙ front in
    let was : ys ≡ each f (take n xs) ++ drop n xs = r.is ∙ each_to_front f n xs in
    let lent : take (n + w - n) (drop n ys) ≡ take w (drop n xs) = rw (was, next_lent n (n + w) (each f (take n xs)) xs new (omega arith), places n w) in
    let zs_is : zs ≡ each (λ k v. f (n + k) v) (take w (drop n xs)) = rw (← lent) e in
    let both : each f (take n xs) ++ zs ≡ each f (take (n + w) xs) = rw (zs_is, take-add n w xs) (each_on f (λ k v. f (n + k) v) f (take n xs) (take w (drop n xs)) (λ i v l. refl) (λ j v l. rw front)) in
    let is : put n (n + w) ys zs ≡ each_to f (n + w) xs = rw (was, next_put n (n + w) (each f (take n xs)) xs new (omega arith) zs, both) (sym (each_to_front f (n + w) xs)) in
    record { is = is; same = ap length is ∙ each_to-length f (n + w) xs; within = inside }

-- ---- sums in the first w places of an array of n: lent, they come back each with more added

pub record Lanes (n w : ℕ) (array sums : List Float) : Type 0 where
  pub long : length array ≡ n
  pub few : w ≤ n
  pub are : take (w - 0) (drop 0 array) ≡ sums

pub lanes_start : (n w : ℕ) → w ≤ n → Lanes n w (replicate n +0) (replicate w +0)
lanes_start n w h = record { long = length-replicate n +0; few = h; are = zeros-part w n h }

pub lanes_count : {n w : ℕ} {array sums : List Float} → Lanes n w array sums → length (take (w - 0) (drop 0 array)) ≡ w
lanes_count {n} {w} {array} l = rw (from_start w) (length-take-le w array (omega (arith, l.long, l.few)))

pub lanes_on : {n w : ℕ} {array sums : List Float} → Lanes n w array sums → (f : ℕ → Float → Float) (back : List Float) → back ≡ each f (take (w - 0) (drop 0 array)) → Lanes n w (put 0 w array back) (each f sums)
lanes_on {n} {w} {array} {sums} l f back is =
    let as_many : length back ≡ w - 0 = ap length is ∙ each-length f _ ∙ lanes_count l ∙ sym (from_start w) in
    let inside : w ≤ length array = omega (arith, l.long, l.few) in
    record {
      long = put_length 0 w array back (omega arith) inside as_many ∙ l.long;
      few = l.few;
      are = put_part 0 w array back (omega arith) inside as_many ∙ (rw l.are at is);
    }

-- y gets them
pub sums_put : (alpha beta : Float) (f : ℕ → Float → Float) (w : ℕ) (y s : List Float) {r : Bool} {y' : List Float} → length y ≡ w → s ≡ each f (replicate w +0)
    → Outcome (same_length s y) (each (λ k v. alpha *ᶠ at s k +ᶠ beta *ᶠ v) y) y r y'
    → y' ≡ each (λ k v. alpha *ᶠ f k +0 +ᶠ beta *ᶠ v) y
sums_put alpha beta f w y s high is put =
    let as_many : length s ≡ length y = ap length is ∙ each-length f _ ∙ length-replicate w +0 ∙ sym high in
    ruled_if_fits put (eq-eqb _ _ as_many)
    ∙ each_same _ _ y
    (λ k l.
    let below : k < w = omega arith in
    let sum : at s k ≡ f k +0 = ap (λ v. at v k) is ∙ each_at f (replicate w +0) k (rw length-replicate below) ∙ ap (f k) (get_or-replicate w k +0 nan below) in
    rw sum)
