-- What the norm's rule could ask in place of its plain sum, or leave unasked, with the same answer.
use Prim.Native.Nat.{ℕ, zero, suc, ◌*◌, ◌^◌, ◌≤◌}
use native.Mathlib.Omega.{arith}
use mathlib.Core.Path.{◌≡◌, refl, sym, ◌∙◌, ap}
use mathlib.Core.Bool.{Bool, true, false, ◌&&◌, and-true, and_assoc, false≢true, true≢false}
use mathlib.Core.Logic.{⊎_elim}
use mathlib.Core.List.{List}
use lib.Dec.{T}
use lib.Ieee.{Float, nan, inf, fin, binary64, of_bits, up, down, mul, eq, fits, is_nan}
use lib.Ieee.Fits.{add-fits}
use lib.ListN.{length, drop, drop_of_length-le}
use lib.Seq.{drop-cons}
use Rattle.rules.specs.Helpers.{is_infinite, is_finite, all_finite}
use Rattle.rules.specs.Root.{root, is_number}
use Rattle.rules.specs.Arithmetic.{◌+ᶠ◌, ◌*ᶠ◌, at, sum_from, sum_to}
use Rattle.rules.specs.Vectors.{plain_sum, plain_norm, two^−600, scaled_norm, norm, scaled}
use Rattle.rules.proofs.RootNearest.{root_is_nearest}
use Rattle.rules.proofs.Signs.{has_sign, is_plus, round_sign, square_plus, add_plus, square_not_minus, plus_terms, infinite_stays, infinite_comes, signed_is_number}
use Rattle.rules.proofs.LargeNorms.{squares, sum_not_minus, plain_infinite, norm_of_not_finite, norm_of_large, scaled-summed}

-- The root of a sum of squares is infinite exactly where the sum is.
number_not_infinite : (r : Float) → T (is_number r) → is_infinite r ≡ false
unfolding is_number
number_not_infinite nan t = refl
number_not_infinite (inf s) t = absurd t
number_not_infinite (fin s m e) t = refl

root_infinite : (s : Float) → is_plus s ≡ true → T (fits binary64 s) → is_infinite (root binary64 s) ≡ is_infinite s
unfolding has_sign root
root_infinite nan e h = refl
root_infinite (inf true) e h = absurd (false≢true e)
root_infinite (inf false) e h = refl
root_infinite (fin true m d) e h = absurd (false≢true e)
root_infinite (fin false zero d) e h = refl
root_infinite (fin false (suc m) d) e h = number_not_infinite (root binary64 (fin false (suc m) d)) (root_is_nearest binary64 m d h).number

sum_fits : (f : ℕ → Float) (n : ℕ) → T (fits binary64 (sum_to n f))
unfolding sum_from of_bits fits
sum_fits f zero = tt
sum_fits f (suc n) = add-fits binary64 (sum_to n f) (f n)

pub norm_infinite_exactly : (x : List Float) → is_infinite (plain_norm x) ≡ is_infinite (plain_sum x)
unfolding root
norm_infinite_exactly x = ⊎_elim (λ e. rw e refl) (λ e. root_infinite (plain_sum x) e (sum_fits (squares x) (length x))) (sum_not_minus x (length x))

-- An infinite number stays infinite when it is made smaller.
abbrev small : Float → Float
small v = two^−600 *ᶠ v

small_is_number : (v : Float) → is_nan v ≡ false → is_nan (small v) ≡ false
unfolding is_nan mul
small_is_number nan e = absurd (true≢false e)
small_is_number (inf s) e = refl
small_is_number (fin s m d) e = signed_is_number _ (small (fin s m d)) (round_sign binary64 _ (1 * 1 * (m * up d)) (2 ^ 600 * down d))

-- a square that is a number is of a number, and stays one
square_of-number : (v : Float) → is_plus (v *ᶠ v) ≡ true → is_nan v ≡ false
unfolding has_sign is_nan mul
square_of-number nan e = absurd (false≢true e)
square_of-number (inf s) e = refl
square_of-number (fin s m d) e = refl

small_square_plus : (v : Float) → is_plus (v *ᶠ v) ≡ true → is_plus (small v *ᶠ small v) ≡ true
small_square_plus v e = square_plus (small v) (small_is_number v (square_of-number v e))

small_square_infinite : (v : Float) → is_finite v ≡ false → is_nan v ≡ false → small v *ᶠ small v ≡ inf false
unfolding is_nan mul
small_square_infinite nan f e = absurd (true≢false e)
small_square_infinite (inf true) f e = refl
small_square_infinite (inf false) f e = refl
small_square_infinite (fin s m d) f e = absurd (true≢false f)

-- the squares of numbers made smaller
abbrev small_squares : List Float → ℕ → Float
small_squares x k = small (at x k) *ᶠ small (at x k)

small_sum_plus : (x : List Float) (n : ℕ) → is_plus (sum_to n (squares x)) ≡ true → is_plus (sum_to n (small_squares x)) ≡ true
unfolding has_sign sum_from of_bits
small_sum_plus x zero e = refl
small_sum_plus x (suc n) e =
    let both = plus_terms (sum_to n (squares x)) (squares x n) (sum_not_minus x n) (square_not_minus (at x n)) e in
    add_plus (sum_to n (small_squares x)) (small_squares x n) (small_sum_plus x n both.0) (small_square_plus (at x n) both.1)

-- whether the first n numbers are finite
finite_to : ℕ → List Float → Bool
finite_to zero x = true
finite_to (suc n) x = finite_to n x && is_finite (at x n)

small_sum_more : (x : List Float) (n : ℕ) → is_plus (sum_to n (squares x)) ≡ true → is_plus (squares x n) ≡ true → (b : Bool) → (b && is_finite (at x n)) ≡ false → (b ≡ false → sum_to n (small_squares x) ≡ inf false) → sum_to n (small_squares x) +ᶠ small_squares x n ≡ inf false
small_sum_more x n e last true f before = rw (small_square_infinite (at x n) f (square_of-number (at x n) last)) (infinite_comes (sum_to n (small_squares x)) (small_sum_plus x n e))
small_sum_more x n e last false f before = rw (before refl) (infinite_stays (small_squares x n) (small_square_plus (at x n) last))

small_sum_infinite : (x : List Float) (n : ℕ) → is_plus (sum_to n (squares x)) ≡ true → finite_to n x ≡ false → sum_to n (small_squares x) ≡ inf false
unfolding sum_from finite_to
small_sum_infinite x zero e f = absurd (true≢false f)
small_sum_infinite x (suc n) e f =
    let both = plus_terms (sum_to n (squares x)) (squares x n) (sum_not_minus x n) (square_not_minus (at x n)) e in
    small_sum_more x n both.0 both.1 (finite_to n x) f (small_sum_infinite x n both.0)

finite_split : (x : List Float) (n : ℕ) → n ≤ length x → all_finite x ≡ (finite_to n x && all_finite (drop n x))
unfolding finite_to all_finite
finite_split x zero h = refl
finite_split x (suc n) h = finite_split x n (omega (arith, h)) ∙ rw (drop-cons x n nan h) (sym (and_assoc (finite_to n x) (is_finite (at x n)) (all_finite (drop (suc n) x))))

finite_to_end : (x : List Float) → all_finite x ≡ finite_to (length x) x
unfolding all_finite
finite_to_end x = finite_split x (length x) (omega arith) ∙ rw (drop_of_length-le x {i = length x} (omega arith)) (and-true (finite_to (length x) x))

equals_infinite : (s : Float) → eq s (inf false) ≡ true → s ≡ inf false
unfolding eq
equals_infinite nan e = absurd (false≢true e)
equals_infinite (inf true) e = absurd (false≢true e)
equals_infinite (inf false) e = refl
equals_infinite (fin s m d) e = absurd (false≢true e)

scaled_norm_infinite : (x : List Float) → is_plus (plain_sum x) ≡ true → all_finite x ≡ false → scaled_norm x ≡ inf false
unfolding root mul
scaled_norm_infinite x e f =
    let sum_is : sum_to (length x) (small_squares x) ≡ plain_sum (scaled two^−600 x) = scaled-summed two^−600 x (record { is = refl }) refl in
    rw (← sum_is, small_sum_infinite x (length x) e (sym (finite_to_end x) ∙ f)) refl

-- So where the sum is infinite it need not be asked whether each number is finite.
pub infinite_numbers_change_nothing : (x : List Float) → is_infinite (plain_sum x) ≡ true → norm x ≡ scaled_norm x
unfolding has_sign root
infinite_numbers_change_nothing x e = by (all_finite x) refl
  where
    sum_is : plain_sum x ≡ inf false
    sum_is = equals_infinite (plain_sum x) (sym (plain_infinite 1 x) ∙ e)

    by : (b : Bool) → all_finite x ≡ b → norm x ≡ scaled_norm x
    by true g = norm_of_large 1 x (sym (plain_infinite 1 x) ∙ e) g
    by false g = norm_of_not_finite 1 x g ∙ ap (root binary64) sum_is ∙ sym (scaled_norm_infinite x (ap is_plus sum_is) g)
