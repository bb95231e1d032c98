-- Laws of a card's numbers, taken from a place on.
use Prim.Native.Nat.{ℕ, zero, suc, ◌+◌, ◌≤◌, ◌<◌}
use native.Mathlib.Numerals.{add-one}
use native.Mathlib.Omega.{arith}
use mathlib.Core.Path.{◌≡◌, refl, sym, ap, ◌∙◌}
use mathlib.Core.List.{List, [], ◌∷◌, ◌++◌, append-nil}
use lib.Ieee.{Float}
use lib.ListN.{length, take, drop, get_or, set, get_or-eq_default}
use lib.Seq.{drop-cons, drop-length, get_or-drop, append_snoc, set_at}
use Rattle.std.specs.Prelude.{Option, Some, None, MatchOption, IsSome, unwrap_or, slice_range}
use Rattle.std.proofs.Common.{Bor, ◌⊎◌, inl, inr}
use Rattle.std.proofs.lemmas.List.Folds.{drop_split}
use Rattle.rules.specs.Arithmetic.{tabulate}
use Rattle.card_problem.specs.Problem.{number_at, numbers_at}

tabulate-length : (n : ℕ) (f : ℕ → Float) → length (tabulate n f) ≡ n
unfolding tabulate
tabulate-length zero f = refl
tabulate-length (suc n) f = ap suc (tabulate-length n (λ k. f (suc k)))

tabulate_more : (n : ℕ) (f : ℕ → Float) → tabulate (suc n) f ≡ tabulate n f ++ f n ∷ []
unfolding tabulate
tabulate_more zero f = refl
tabulate_more (suc n) f = ap (λ (l : List Float). f 0 ∷ l) (tabulate_more n (λ k. f (suc k)))

pub numbers_length : (numbers : List ℕ) (from count : ℕ) → length (numbers_at numbers from count) ≡ count
unfolding numbers_at
numbers_length numbers from count = tabulate-length count (λ k. number_at numbers (from + k))

numbers_more : (numbers : List ℕ) (from count : ℕ) → numbers_at numbers from (suc count) ≡ numbers_at numbers from count ++ number_at numbers (from + count) ∷ []
unfolding numbers_at
numbers_more numbers from count = tabulate_more count (λ k. number_at numbers (from + k))

-- ---- a front that grows by one place

stored : (xs l : List Float) (i : ℕ) (v : Float) → length xs ≡ i → i < length l → set (xs ++ drop i l) i v ≡ (xs ++ v ∷ []) ++ drop (suc i) l
stored xs l i v e h =
    rw (drop-cons l i v h, set_at xs (get_or l i v) (drop (suc i) l) v i e) (sym (append_snoc xs v (drop (suc i) l)))

pub filled : (numbers : List ℕ) (from k : ℕ) (l ws : List Float) (v : Float) → ws ≡ numbers_at numbers from k ++ drop k l → k < length l → v ≡ number_at numbers (from + k)
    → set ws k v ≡ numbers_at numbers from (k + 1) ++ drop (k + 1) l
filled numbers from k l ws v e h f =
    rw (e, f, add-one k, numbers_more numbers from k) (stored (numbers_at numbers from k) l k (number_at numbers (from + k)) (numbers_length numbers from k) h)

-- all of it is filled
pub filled_all : (numbers : List ℕ) (from k : ℕ) (l ws : List Float) → ws ≡ numbers_at numbers from k ++ drop k l → k ≡ length l → ws ≡ numbers_at numbers from (length l)
filled_all numbers from k l ws e all = e ∙ rw (all, drop-length l) (append-nil (numbers_at numbers from (length l)))

-- ---- the first of them

tabulate_front : (count most : ℕ) (f : ℕ → Float) → count ≤ most → take count (tabulate most f) ≡ tabulate count f
unfolding tabulate
tabulate_front zero most f h = refl
tabulate_front (suc count) zero f h = absurd (omega arith)
tabulate_front (suc count) (suc most) f h = ap (λ (l : List Float). f 0 ∷ l) (tabulate_front count most (λ k. f (suc k)) (omega arith))

pub front_of : (numbers : List ℕ) (from count most : ℕ) → count ≤ most → take count (numbers_at numbers from most) ≡ numbers_at numbers from count
unfolding numbers_at
front_of numbers from count most h = tabulate_front count most (λ k. number_at numbers (from + k)) h

-- ---- the same of lists that are read alike

tabulate_same : (n : ℕ) (f g : ℕ → Float) → ((k : ℕ) → f k ≡ g k) → tabulate n f ≡ tabulate n g
unfolding tabulate
tabulate_same zero f g e = refl
tabulate_same (suc n) f g e = rw (e 0, tabulate_same n (λ k. f (suc k)) (λ k. g (suc k)) (λ k. e (suc k)))

pub numbers_same : (xs ys : List ℕ) (a b count : ℕ) → ((k : ℕ) → get_or xs (a + k) 0 ≡ get_or ys (b + k) 0) → numbers_at xs a count ≡ numbers_at ys b count
unfolding numbers_at
numbers_same xs ys a b count same = tabulate_same count (λ k. number_at xs (a + k)) (λ k. number_at ys (b + k)) (λ k. rw (same k))

-- what is read of the numbers from a place on, or of none, where that lies past their end
abbrev pub IsRest : List ℕ → ℕ → Option (Bor (List ℕ)) → Type 0
IsRest numbers at o =
    MatchOption o ((length numbers < at) ⊎ (length numbers < length numbers)) (λ x. (at ≤ length numbers) × (length numbers ≤ length numbers) × (x.now ≡ slice_range numbers at (length numbers)) × (length x.now + at ≡ length numbers)) × (at ≤ length numbers × length numbers ≤ length numbers → IsSome o)

pub rest_read : (numbers : List ℕ) (at count : ℕ) (o : Option (Bor (List ℕ))) (none x : Bor (List ℕ)) → IsRest numbers at o → none.now ≡ [] → x ≡ unwrap_or o none → numbers_at x.now 0 count ≡ numbers_at numbers at count
rest_read numbers at count None none x e is u =
    numbers_same x.now numbers 0 at count (λ k.
    let here : 0 + k ≡ k = omega arith in
    let past : length numbers ≤ at + k = elim e.0 [ inl h ↦ omega arith | inr h ↦ omega arith ] in
    rw (here, u, is, get_or-eq_default numbers 0 {n = at + k} past))
rest_read numbers at count (Some r) none x e is u =
    let parts = e.0 in
    let whole : slice_range numbers at (length numbers) ≡ drop at numbers = sym (drop_split numbers at (length numbers) parts.0 ∙ rw (drop-length numbers) (append-nil (slice_range numbers at (length numbers)))) in
    numbers_same x.now numbers 0 at count (λ k.
    let here : 0 + k ≡ k = omega arith in
    rw (here, u, parts.2, whole) (get_or-drop at numbers k 0))
