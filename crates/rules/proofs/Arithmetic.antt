-- Laws of the two combinators, in the order in which a loop's proof uses them: before the first pass, at a pass, after the last.
use Prim.Native.Nat.{ℕ, zero, suc, ◌+◌, ◌<◌, ◌≤◌}
use native.Mathlib.Numerals.{add-one}
use native.Mathlib.Omega.{arith}
use mathlib.Core.Path.{◌≡◌, refl, sym, ◌∙◌, ap}
use mathlib.Core.List.{List, [], ◌∷◌}
use lib.Ieee.{Float, nan}
use lib.ListN.{length, set}
use lib.Seq.{ext_get_or}
use Rattle.rules.specs.Arithmetic.{◌+ᶠ◌, at, sum_from, each_to, each}

-- ---- sums

pub sum_none : (start : Float) (f : ℕ → Float) → sum_from start 0 f ≡ start
unfolding sum_from
sum_none start f = refl

pub sum_more : (start : Float) (f : ℕ → Float) (n : ℕ) → sum_from start n f +ᶠ f n ≡ sum_from start (n + 1) f
unfolding sum_from
sum_more start f n = rw (add-one n)

pub sum_same : (start : Float) (f g : ℕ → Float) (n : ℕ) → ((k : ℕ) → k < n → f k ≡ g k) → sum_from start n f ≡ sum_from start n g
unfolding sum_from
sum_same start f g zero h = refl
sum_same start f g (suc n) h =
    rw (sum_same start f g n (λ k l. h k (omega arith)), h n (omega arith))

-- ---- each place

pub each_none : (f : ℕ → Float → Float) (xs : List Float) → each_to f 0 xs ≡ xs
unfolding each_to
each_none f xs = refl

pub each_to-length : (f : ℕ → Float → Float) (n : ℕ) (xs : List Float) → length (each_to f n xs) ≡ length xs
unfolding each_to
each_to-length f zero xs = refl
each_to-length f (suc n) [] = refl
each_to-length f (suc n) (x ∷ xs) = ap suc (each_to-length (λ k v. f (suc k) v) n xs)

-- a place that no pass has reached yet
pub each_to_later : (f : ℕ → Float → Float) (n : ℕ) (xs : List Float) (i : ℕ) → n ≤ i → at (each_to f n xs) i ≡ at xs i
unfolding each_to
each_to_later f zero xs i h = refl
each_to_later f (suc n) [] i h = refl
each_to_later f (suc n) (x ∷ xs) zero h = absurd (omega arith)
each_to_later f (suc n) (x ∷ xs) (suc i) h = each_to_later (λ k v. f (suc k) v) n xs i (omega arith)

-- a place that a pass has reached
pub each_to-at : (f : ℕ → Float → Float) (n : ℕ) (xs : List Float) (i : ℕ) → i < n → i < length xs → at (each_to f n xs) i ≡ f i (at xs i)
unfolding each_to
each_to-at f n [] i h l = absurd (omega arith)
each_to-at f zero (x ∷ xs) i h l = absurd (omega arith)
each_to-at f (suc n) (x ∷ xs) zero h l = refl
each_to-at f (suc n) (x ∷ xs) (suc i) h l = each_to-at (λ k v. f (suc k) v) n xs i (omega arith) (omega arith)

pub each_more : (f : ℕ → Float → Float) (n : ℕ) (xs : List Float) → n < length xs → set (each_to f n xs) n (f n (at xs n)) ≡ each_to f (n + 1) xs
unfolding each_to
each_more f n xs h = rw (add-one n) (go f n xs h)
  where
    go : (f : ℕ → Float → Float) (n : ℕ) (xs : List Float) → n < length xs → set (each_to f n xs) n (f n (at xs n)) ≡ each_to f (suc n) xs
    go f n [] h = absurd (omega arith)
    go f zero (x ∷ xs) h = refl
    go f (suc n) (x ∷ xs) h = ap (λ (l : List Float). f 0 x ∷ l) (go (λ k v. f (suc k) v) n xs (omega arith))

pub each_all : (f : ℕ → Float → Float) (n : ℕ) (xs : List Float) → length xs ≤ n → each_to f n xs ≡ each f xs
unfolding each
each_all f zero [] h = refl
each_all f (suc n) [] h = refl
each_all f zero (x ∷ xs) h = absurd (omega arith)
each_all f (suc n) (x ∷ xs) h = ap (λ (l : List Float). f 0 x ∷ l) (each_all (λ k v. f (suc k) v) n xs (omega arith))

pub each-length : (f : ℕ → Float → Float) (xs : List Float) → length (each f xs) ≡ length xs
unfolding each
each-length f xs = each_to-length f (length xs) xs

pub each_at : (f : ℕ → Float → Float) (xs : List Float) (i : ℕ) → i < length xs → at (each f xs) i ≡ f i (at xs i)
unfolding each
each_at f [] i h = absurd (omega arith)
each_at f (x ∷ xs) zero h = refl
each_at f (x ∷ xs) (suc i) h = each_at (λ k v. f (suc k) v) xs i (omega arith)

-- what holds of every place holds of the list
pub each_is : (f : ℕ → Float → Float) (xs ys : List Float) → length ys ≡ length xs → ((i : ℕ) → i < length xs → at ys i ≡ f i (at xs i)) → ys ≡ each f xs
each_is f xs ys same places =
    ext_get_or nan ys (each f xs) (same ∙ sym (each-length f xs)) (λ i h. places i (omega arith) ∙ sym (each_at f xs i (omega arith)))

pub each_same : (f g : ℕ → Float → Float) (xs : List Float) → ((i : ℕ) → i < length xs → f i (at xs i) ≡ g i (at xs i)) → each f xs ≡ each g xs
each_same f g xs h = each_is g xs (each f xs) (each-length f xs) (λ i l. each_at f xs i l ∙ h i l)

-- ---- a loop over the places: ys is what n passes have made of xs

pub record Reached (f : ℕ → Float → Float) (n : ℕ) (xs ys : List Float) : Type 0 where
  pub is : ys ≡ each_to f n xs
  pub same : length ys ≡ length xs
  pub within : n ≤ length xs

pub reached_none : (f : ℕ → Float → Float) (xs : List Float) → Reached f 0 xs xs
reached_none f xs = record { is = sym (each_none f xs); same = refl; within = omega arith }

-- a pass stores f of what the place held
pub reached_more : {f : ℕ → Float → Float} {n : ℕ} {xs ys : List Float} → Reached f n xs ys → n < length xs → Reached f (n + 1) xs (set ys n (f n (at ys n)))
reached_more {f} {n} {xs} {ys} r h =
    let e : set ys n (f n (at ys n)) ≡ each_to f (n + 1) xs = rw (r.is, each_to_later f n xs n (omega arith)) (each_more f n xs h) in
    record { is = e; same = ap length e ∙ each_to-length f (n + 1) xs; within = omega arith }

-- after the last pass every place has been reached
pub reached_all : {f : ℕ → Float → Float} {n : ℕ} {xs ys : List Float} → Reached f n xs ys → length xs ≤ n → ys ≡ each f xs
reached_all {f} {n} {xs} {ys} r h = r.is ∙ each_all f n xs h

-- ---- a loop over terms: s is what n passes have added to start

pub record Summed (start : Float) (f : ℕ → Float) (n : ℕ) (s : Float) : Type 0 where
  pub is : s ≡ sum_from start n f

pub summed_none : (start : Float) (f : ℕ → Float) → Summed start f 0 start
summed_none start f = record { is = sym (sum_none start f) }

pub summed_more : {start : Float} {f : ℕ → Float} {n : ℕ} {s : Float} → Summed start f n s → Summed start f (n + 1) (s +ᶠ f n)
summed_more {start} {f} {n} {s} r = record { is = rw r.is (sum_more start f n) }

pub summed_all : {start : Float} {f : ℕ → Float} {n m : ℕ} {s : Float} → Summed start f n s → n ≡ m → s ≡ sum_from start m f
summed_all {start} {f} {n} {m} {s} r e = rw (← e) r.is
