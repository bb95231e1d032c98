-- Laws of numbers stored by columns: where an entry stands, and that a list is what its entries are.
use Prim.Native.Nat.{ℕ, zero, suc, ◌+◌, ◌-◌, ◌*◌, ◌<◌, ◌≤◌}
use native.Mathlib.Numerals.{add-one}
use native.Mathlib.Nat.{suc-mul, zero-mul, mul-le-mul_right}
use native.Mathlib.Omega.{arith}
use mathlib.Core.Path.{◌≡◌, refl, sym, ◌∙◌, ap}
use mathlib.Core.Bool.{Bool, true, false}
use mathlib.Core.List.{List}
use borrow.Author.Tests.{ltb-true, ltb-false, eqb-true, eqb-false, lt-ltb, le-ltb}
use lib.Dec.{ltb, eqb}
use lib.Ieee.{Float, nan}
use lib.ListN.{length, set, length-append, length-set, get_or-append}
use lib.Seq.{ext_get_or, get_or-append-add, get_or-set_same, get_or-set_other}
use Rattle.rules.specs.Arithmetic.{at, tabulate, by_columns}
use Rattle.rules.specs.Matrices.{triangle, packed_place, place, entry}
use Rattle.rules.specs.Jacobi.{packed, square, in_packed, in_square}
use Rattle.rules.proofs.Triangle.{triangle_more, triangle_inside}

-- ---- two cases

pub by_less : {P : Type 0} (a b : ℕ) → (a < b → P) → (b ≤ a → P) → P
by_less {P} a b less not_less = go (ltb a b) refl
  where
    go : (t : Bool) → ltb a b ≡ t → P
    go true e = less (ltb-true a b e)
    go false e = not_less (ltb-false a b e)

pub by_same : {P : Type 0} (a b : ℕ) → (a ≡ b → P) → ((a ≡ b → ⊥) → P) → P
by_same {P} a b same not_same = go (eqb a b) refl
  where
    go : (t : Bool) → eqb a b ≡ t → P
    go true e = same (eqb-true a b e)
    go false e = not_same (eqb-false a b e)

-- ---- a row of numbers

pub tabulate-length : (n : ℕ) (f : ℕ → Float) → length (tabulate n f) ≡ n
unfolding tabulate
tabulate-length zero f = refl
tabulate-length (suc n) f = ap suc (tabulate-length n (λ k. f (suc k)))

pub tabulate-at : (n : ℕ) (f : ℕ → Float) (r : ℕ) → r < n → at (tabulate n f) r ≡ f r
unfolding tabulate
tabulate-at zero f r h = absurd (omega arith)
tabulate-at (suc n) f zero h = refl
tabulate-at (suc n) f (suc r) h = tabulate-at n (λ k. f (suc k)) r (omega arith)

pub tabulate_is : (n : ℕ) (f : ℕ → Float) (xs : List Float) → length xs ≡ n → ((r : ℕ) → r < n → at xs r ≡ f r) → xs ≡ tabulate n f
tabulate_is n f xs same each =
    ext_get_or nan xs (tabulate n f) (same ∙ sym (tabulate-length n f)) (λ r h. each r (omega arith) ∙ sym (tabulate-at n f r (omega arith)))

-- ---- columns of any heights

-- how many numbers stand before column c
before : (ℕ → ℕ) → ℕ → ℕ
before height zero = 0
before height (suc c) = before height c + height c

columns_length : (height : ℕ → ℕ) (n : ℕ) (f : ℕ → ℕ → Float) → length (by_columns height n f) ≡ before height n
unfolding by_columns before
columns_length height zero f = refl
columns_length height (suc n) f =
    length-append (by_columns height n f) (tabulate (height n) (λ r. f r n))
    ∙ omega (arith, columns_length height n f, tabulate-length (height n) (λ r. f r n))

before_grows : (height : ℕ → ℕ) (c n : ℕ) → c < n → before height c + height c ≤ before height n
unfolding before
before_grows height c zero h = absurd (omega arith)
before_grows height c (suc n) h =
    by_less c n (λ l. omega (arith, before_grows height c n l))
    (λ l.
    let same : c ≡ n = omega arith in
    rw same (omega arith))

columns_at : (height : ℕ → ℕ) (n : ℕ) (f : ℕ → ℕ → Float) (r c : ℕ) → r < height c → c < n → at (by_columns height n f) (before height c + r) ≡ f r c
unfolding by_columns before
columns_at height zero f r c hr hc = absurd (omega arith)
columns_at height (suc n) f r c hr hc =
    by_less c n
    (λ l.
    get_or-append (by_columns height n f) (tabulate (height n) (λ p. f p n)) nan (before height c + r) (omega (arith, columns_length height n f, before_grows height c n l))
    ∙ columns_at height n f r c hr l)
    (λ l.
    let same : c ≡ n = omega arith in
    let hr' : r < height n = rw same at hr in
    rw (same, ← columns_length height n f) (get_or-append-add (by_columns height n f) (tabulate (height n) (λ p. f p n)) r nan ∙ tabulate-at (height n) (λ p. f p n) r hr'))

-- two lists that agree at every entry agree at every place
columns_same : (height : ℕ → ℕ) (n : ℕ) (xs ys : List Float) → ((r c : ℕ) → r < height c → c < n → at xs (before height c + r) ≡ at ys (before height c + r)) → (p : ℕ) → p < before height n → at xs p ≡ at ys p
unfolding before
columns_same height zero xs ys same p h = absurd (omega arith)
columns_same height (suc n) xs ys same p h =
    by_less p (before height n) (λ l. columns_same height n xs ys (λ r c hr hc. same r c hr (omega arith)) p l)
    (λ l.
    let split : before height n + (p - before height n) ≡ p = omega arith in
    rw split at (same (p - before height n) n (omega arith) (omega arith)))

columns_is : (height : ℕ → ℕ) (n : ℕ) (f : ℕ → ℕ → Float) (xs : List Float) → length xs ≡ before height n → ((r c : ℕ) → r < height c → c < n → at xs (before height c + r) ≡ f r c) → xs ≡ by_columns height n f
columns_is height n f xs same each =
    ext_get_or nan xs (by_columns height n f) (same ∙ sym (columns_length height n f))
    (λ p h. columns_same height n xs (by_columns height n f) (λ r c hr hc. each r c hr hc ∙ sym (columns_at height n f r c hr hc)) p (omega arith))

-- ---- the packed triangle

before_triangle : (c : ℕ) → before (λ q. suc q) c ≡ triangle c
unfolding before
before_triangle zero = refl
before_triangle (suc c) = rw (before_triangle c, ← add-one c) (sym (triangle_more c))

pub packed-length : (n : ℕ) (f : ℕ → ℕ → Float) → length (packed n f) ≡ triangle n
packed-length n f = columns_length (λ q. suc q) n f ∙ before_triangle n

pub packed-at : (n : ℕ) (f : ℕ → ℕ → Float) (r c : ℕ) → r ≤ c → c < n → at (packed n f) (triangle c + r) ≡ f r c
packed-at n f r c hr hc = rw (before_triangle c) at (columns_at (λ q. suc q) n f r c (omega arith) hc)

pub packed_is : (n : ℕ) (f : ℕ → ℕ → Float) (xs : List Float) → length xs ≡ triangle n → ((r c : ℕ) → r ≤ c → c < n → at xs (triangle c + r) ≡ f r c) → xs ≡ packed n f
packed_is n f xs same each =
    columns_is (λ q. suc q) n f xs (same ∙ sym (before_triangle n)) (λ r c hr hc. rw (before_triangle c) (each r c (omega arith) hc))

-- ---- the square

before_square : (n c : ℕ) → before (λ q. n) c ≡ c * n
unfolding before
before_square n zero = sym (zero-mul n)
before_square n (suc c) = omega (arith, before_square n c, suc-mul c n)

pub square-length : (n : ℕ) (f : ℕ → ℕ → Float) → length (square n f) ≡ n * n
square-length n f = columns_length (λ q. n) n f ∙ before_square n n

pub square-at : (n : ℕ) (f : ℕ → ℕ → Float) (r c : ℕ) → r < n → c < n → at (square n f) (c * n + r) ≡ f r c
square-at n f r c hr hc = rw (before_square n c) at (columns_at (λ q. n) n f r c hr hc)

pub square_is : (n : ℕ) (f : ℕ → ℕ → Float) (xs : List Float) → length xs ≡ n * n → ((r c : ℕ) → r < n → c < n → at xs (c * n + r) ≡ f r c) → xs ≡ square n f
square_is n f xs same each =
    columns_is (λ q. n) n f xs (same ∙ sym (before_square n n)) (λ r c hr hc. rw (before_square n c) (each r c hr hc))

pub square_inside : (n r c : ℕ) → r < n → c < n → c * n + r < n * n
square_inside n r c hr hc =
    let l : suc c ≤ n = omega arith in
    omega (arith, mul-le-mul_right n l, suc-mul c n)

-- no two entries of a square share a place
pub square_apart : (n r c p q : ℕ) → r < n → p < n → c * n + r ≡ q * n + p → (r ≡ p) × (c ≡ q)
square_apart n r c p q hr hp e =
    by_less c q
    (λ l.
    let m : suc c ≤ q = omega arith in
    absurd (omega (arith, mul-le-mul_right n m, suc-mul c n)))
    (λ l.
    by_less q c
    (λ k.
    let m : suc q ≤ c = omega arith in
    absurd (omega (arith, mul-le-mul_right n m, suc-mul q n)))
    (λ k.
    let same : c ≡ q = omega arith in
    (omega (arith, ap (λ (m : ℕ). m * n) same), same)))

-- ---- where an entry of a packed triangle stands

pub packed_place-le : (r c : ℕ) → r ≤ c → packed_place r c ≡ triangle c + r
unfolding packed_place
packed_place-le r c h =
    by_less r c (λ l. rw (lt-ltb r c l))
    (λ l.
    let same : r ≡ c = omega arith in
    rw (le-ltb r c l, same))

pub packed_place_ge : (r c : ℕ) → c ≤ r → packed_place r c ≡ triangle r + c
unfolding packed_place
packed_place_ge r c h = rw (le-ltb r c h)

pub packed_place_mirrored : (r c : ℕ) → packed_place c r ≡ packed_place r c
packed_place_mirrored r c =
    by_less r c (λ l. packed_place_ge c r (omega arith) ∙ sym (packed_place-le r c (omega arith)))
    (λ l. packed_place-le c r l ∙ sym (packed_place_ge r c l))

pub packed_place_inside : (n r c : ℕ) → r < n → c < n → packed_place r c < triangle n
packed_place_inside n r c hr hc =
    by_less r c (λ l. omega (arith, packed_place-le r c (omega arith), triangle_inside c n hc))
    (λ l. omega (arith, packed_place_ge r c l, triangle_inside r n hr))

-- no two entries of a triangle share a place
pub triangle_apart : (r c p q : ℕ) → r ≤ c → p ≤ q → triangle c + r ≡ triangle q + p → (r ≡ p) × (c ≡ q)
triangle_apart r c p q hr hp e =
    by_less c q (λ l. absurd (omega (arith, triangle_inside c q l)))
    (λ l.
    by_less q c (λ k. absurd (omega (arith, triangle_inside q c k)))
    (λ k.
    let same : c ≡ q = omega arith in
    (omega (arith, ap (λ (m : ℕ). triangle m) same), same)))

-- Entries that share a place are the same two numbers, in either order: their sums and their differences are equal.
pub packed_place_apart : (r c p q : ℕ) → packed_place r c ≡ packed_place p q → (r + c ≡ p + q) × (r - c + (c - r) ≡ p - q + (q - p))
packed_place_apart r c p q e =
    by_less r c
    (λ u.
    by_less p q (λ v. omega (arith, triangle_apart r c p q (omega arith) (omega arith) (sym (packed_place-le r c (omega arith)) ∙ e ∙ packed_place-le p q (omega arith))))
    (λ v. omega (arith, triangle_apart r c q p (omega arith) v (sym (packed_place-le r c (omega arith)) ∙ e ∙ packed_place_ge p q v))))
    (λ u.
    by_less p q (λ v. omega (arith, triangle_apart c r p q u (omega arith) (sym (packed_place_ge r c u) ∙ e ∙ packed_place-le p q (omega arith))))
    (λ v. omega (arith, triangle_apart c r q p u v (sym (packed_place_ge r c u) ∙ e ∙ packed_place_ge p q v))))

-- ---- a list by its own entries, and one store

pub in_packed-place : (n : ℕ) (x : List Float) (r c : ℕ) → in_packed n x r c ≡ at x (packed_place r c)
unfolding entry place
in_packed-place n x r c = refl

pub in_square-place : (n : ℕ) (z : List Float) (r c : ℕ) → in_square n z r c ≡ at z (c * n + r)
unfolding entry place
in_square-place n z r c = refl

pub in_packed-at : (n : ℕ) (x : List Float) (r c : ℕ) → r ≤ c → in_packed n x r c ≡ at x (triangle c + r)
in_packed-at n x r c h = in_packed-place n x r c ∙ ap (λ (p : ℕ). at x p) (packed_place-le r c h)

pub packed_self : (n : ℕ) (x : List Float) → length x ≡ triangle n → x ≡ packed n (in_packed n x)
packed_self n x same = packed_is n (in_packed n x) x same (λ r c hr hc. sym (in_packed-at n x r c hr))

pub square_self : (n : ℕ) (z : List Float) → length z ≡ n * n → z ≡ square n (in_square n z)
square_self n z same = square_is n (in_square n z) z same (λ r c hr hc. sym (in_square-place n z r c))

pub packed_same : (n : ℕ) (f g : ℕ → ℕ → Float) → ((r c : ℕ) → r ≤ c → c < n → f r c ≡ g r c) → packed n f ≡ packed n g
packed_same n f g h = packed_is n g (packed n f) (packed-length n f) (λ r c hr hc. packed-at n f r c hr hc ∙ h r c hr hc)

pub square_same : (n : ℕ) (f g : ℕ → ℕ → Float) → ((r c : ℕ) → r < n → c < n → f r c ≡ g r c) → square n f ≡ square n g
square_same n f g h = square_is n g (square n f) (square-length n f) (λ r c hr hc. square-at n f r c hr hc ∙ h r c hr hc)

-- a store at (r, c) changes that entry alone
pub packed-set : {n : ℕ} {f : ℕ → ℕ → Float} (g : ℕ → ℕ → Float) (r c : ℕ) (v : Float) {x : List Float} → x ≡ packed n f → r ≤ c → c < n → g r c ≡ v → ((p q : ℕ) → p ≤ q → q < n → (p ≡ r → q ≡ c → ⊥) → g p q ≡ f p q) → set x (triangle c + r) v ≡ packed n g
packed-set {n} {f} g r c v {x} is hr hc new old =
    packed_is n g (set x (triangle c + r) v) (length-set x (triangle c + r) v ∙ same)
    (λ p q hp hq. by_same (triangle q + p) (triangle c + r) (here p q hp) (elsewhere p q hp hq))
  where
    same : length x ≡ triangle n
    same = ap length is ∙ packed-length n f

    here : (p q : ℕ) → p ≤ q → triangle q + p ≡ triangle c + r → at (set x (triangle c + r) v) (triangle q + p) ≡ g p q
    here p q hp e =
        let t = triangle_apart p q r c hp hr e in
        rw (t.0, t.1) (get_or-set_same x (triangle c + r) v nan (omega (arith, same, triangle_inside c n hc)) ∙ sym new)

    elsewhere : (p q : ℕ) → p ≤ q → q < n → (triangle q + p ≡ triangle c + r → ⊥) → at (set x (triangle c + r) v) (triangle q + p) ≡ g p q
    elsewhere p q hp hq apart =
        get_or-set_other x (triangle c + r) (triangle q + p) v nan apart
        ∙ ap (λ (l : List Float). at l (triangle q + p)) is
        ∙ packed-at n f p q hp hq
        ∙ sym (old p q hp hq (λ u w. apart (rw (u, w))))

pub square-set : {n : ℕ} {f : ℕ → ℕ → Float} (g : ℕ → ℕ → Float) (r c : ℕ) (v : Float) {z : List Float} → z ≡ square n f → r < n → c < n → g r c ≡ v → ((p q : ℕ) → p < n → q < n → (p ≡ r → q ≡ c → ⊥) → g p q ≡ f p q) → set z (c * n + r) v ≡ square n g
square-set {n} {f} g r c v {z} is hr hc new old =
    square_is n g (set z (c * n + r) v) (length-set z (c * n + r) v ∙ same)
    (λ p q hp hq. by_same (q * n + p) (c * n + r) (here p q hp) (elsewhere p q hp hq))
  where
    same : length z ≡ n * n
    same = ap length is ∙ square-length n f

    here : (p q : ℕ) → p < n → q * n + p ≡ c * n + r → at (set z (c * n + r) v) (q * n + p) ≡ g p q
    here p q hp e =
        let t = square_apart n p q r c hp hr e in
        rw (t.0, t.1) (get_or-set_same z (c * n + r) v nan (omega (arith, same, square_inside n r c hr hc)) ∙ sym new)

    elsewhere : (p q : ℕ) → p < n → q < n → (q * n + p ≡ c * n + r → ⊥) → at (set z (c * n + r) v) (q * n + p) ≡ g p q
    elsewhere p q hp hq apart =
        get_or-set_other z (c * n + r) (q * n + p) v nan apart
        ∙ ap (λ (l : List Float). at l (q * n + p)) is
        ∙ square-at n f p q hp hq
        ∙ sym (old p q hp hq (λ u w. apart (rw (u, w))))
