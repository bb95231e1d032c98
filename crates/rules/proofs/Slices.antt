-- Laws of a dense matrix whose columns stand in two slices: where its entries are, and sums that run on from one slice into the next.
use Prim.Native.Nat.{ℕ, zero, suc, ◌+◌, ◌-◌, ◌*◌, ◌<◌, ◌≤◌}
use native.Mathlib.Nat.{add-mul, mul_comm, mul-add, suc-mul, mul-le-mul_right}
use native.Mathlib.Omega.{arith}
use mathlib.Core.Path.{◌≡◌, refl, sym, ap, ◌∙◌}
use mathlib.Core.Bool.{Bool, true, false, cond}
use mathlib.Core.List.{List, ◌++◌, append_assoc}
use borrow.Author.Tests.{leb-true, eqb-true, le-leb, eq-eqb, lt-ltb, ltb-true, ltb-false}
use lib.Dec.{ltb}
use lib.Ieee.{Float, nan}
use lib.ListN.{length, take, drop, length-append, length-drop, take-append-drop, get_or-append}
use lib.Seq.{take_at, drop_at, drop-drop, length-take-le, get_or-append-add}
use Rattle.rules.specs.Arithmetic.{at, sum_from, each}
use Rattle.rules.specs.Step.{part}
use Rattle.rules.specs.Split.{split_fits, SplitStored, column_shown}
use Rattle.rules.proofs.Arithmetic.{sum_same, each-length, each_at, each_is}
use Rattle.rules.proofs.Matrices.{dense_inside, both_true}

-- ---- a sum that runs on

pub sum_on : (start : Float) (f g h : ℕ → Float) (n k : ℕ) → ((i : ℕ) → i < n → f i ≡ h i) → ((j : ℕ) → j < k → g j ≡ h (n + j)) → sum_from (sum_from start n f) k g ≡ sum_from start (n + k) h
unfolding sum_from
sum_on start f g h n zero first rest =
    let all : n + 0 ≡ n = omega arith in
    rw all (sum_same start f h n first)
sum_on start f g h n (suc k) first rest =
    let next : n + suc k ≡ suc (n + k) = omega arith in
    rw (next, sum_on start f g h n k first (λ j l. rest j (omega arith)), rest k (omega arith))

-- ---- numbers of the joined list

pub at_first : (v w : List Float) (k : ℕ) → k < length v → at (v ++ w) k ≡ at v k
at_first v w k h = get_or-append v w nan k h

pub at_rest : (v w : List Float) (k : ℕ) → at (v ++ w) (length v + k) ≡ at w k
at_rest v w k = get_or-append-add v w k nan

-- every place of two lists, one after the other
pub each_on : (f g h : ℕ → Float → Float) (v w : List Float) → ((i : ℕ) (e : Float) → i < length v → f i e ≡ h i e) → ((j : ℕ) (e : Float) → j < length w → g j e ≡ h (length v + j) e) → each f v ++ each g w ≡ each h (v ++ w)
each_on f g h v w first rest =
    each_is h (v ++ w) (each f v ++ each g w) (rw (length-append, length-append, each-length, each-length)) (λ i l. go i (ltb i (length v)) refl (rw length-append at l))
  where
    go : (i : ℕ) (t : Bool) → ltb i (length v) ≡ t → i < length v + length w → at (each f v ++ each g w) i ≡ h i (at (v ++ w) i)
    go i true e l =
        let here = ltb-true i (length v) e in
        at_first (each f v) (each g w) i (rw (each-length f v) here) ∙ each_at f v i here ∙ first i (at v i) here ∙ sym (ap (h i) (at_first v w i here))
    go i false e l =
        let above = ltb-false i (length v) e in
        let j = i - length v in
        let there : length v + j ≡ i = omega arith in
        let long : length (each f v) + j ≡ i = rw (each-length f v) there in
        let inside : j < length w = omega arith in
        let after = rw long at (at_rest (each f v) (each g w) j) in
        let before = rw there at (at_rest v w j) in
        after ∙ each_at g w j inside ∙ (rw there at (rest j (at w j) inside)) ∙ sym (ap (h i) before)

-- ---- a dense matrix in two slices

-- column c of so many ends within them
pub column_ends : (m cols c : ℕ) → c < cols → c * m + m ≤ m * cols
column_ends m cols c h =
    omega (arith, mul-le-mul_right m (suc-le c cols h), suc-mul c m, mul_comm m cols)
  where
    suc-le : (a b : ℕ) → a < b → suc a ≤ b
    suc-le a b h = omega arith

-- what a dense matrix in two slices has, part by part, and the other way
pub split_stored : {m n n1 : ℕ} {factory lesson : List Float} → split_fits m n n1 factory lesson ≡ true → SplitStored m n n1 factory lesson
split_stored h =
    let p = both_true _ _ h in
    let w = both_true _ _ p.0 in
    let q = both_true _ _ p.1 in
    let r = both_true _ _ q.0 in
    record {
      m_within = leb-true _ _ w.0;
      n_within = leb-true _ _ w.1;
      cut = leb-true _ _ r.0;
      first_long = eqb-true _ _ r.1;
      rest_long = eqb-true _ _ q.1;
    }

pub split_fits_lem : {m n n1 : ℕ} {factory lesson : List Float} → SplitStored m n n1 factory lesson → split_fits m n n1 factory lesson ≡ true
split_fits_lem s =
    rw (le-leb _ _ s.m_within, le-leb _ _ s.n_within, le-leb _ _ s.cut, eq-eqb _ _ s.first_long) (eq-eqb _ _ s.rest_long)

pub lengths_join : (m n n1 : ℕ) (factory lesson : List Float) → n1 ≤ n → length factory ≡ m * n1 → length lesson ≡ m * (n - n1) → length (factory ++ lesson) ≡ m * n
lengths_join m n n1 factory lesson cut first rest =
    let all : n1 + (n - n1) ≡ n = omega arith in
    rw (length-append, first, rest) (sym (mul-add m n1 (n - n1)) ∙ ap (λ (k : ℕ). m * k) all)

module _ {m n n1 : ℕ} {factory lesson : List Float} (s : SplitStored m n n1 factory lesson) where
  pub columns_all : n1 + (n - n1) ≡ n
  columns_all = omega (arith, s.cut)

  pub joined_length : length (factory ++ lesson) ≡ m * n
  joined_length = lengths_join m n n1 factory lesson s.cut s.first_long s.rest_long

  -- each column is stored in the slice that holds it
  pub first_inside : (c : ℕ) → c < n1 → c * m + m ≤ length factory
  first_inside c h = rw s.first_long (column_ends m n1 c h)

  pub rest_inside : (c : ℕ) → n1 ≤ c → c < n → (c - n1) * m + m ≤ length lesson
  rest_inside c above h = rw s.rest_long (column_ends m (n - n1) (c - n1) (omega arith))

  -- number r of column c, in the first slice and in the second
  pub first_number : (r c : ℕ) → r < m → c < n1 → at (factory ++ lesson) (c * m + r) ≡ at factory (c * m + r)
  first_number r c hr hc = at_first factory lesson (c * m + r) (rw s.first_long (dense_inside m n1 r c hr hc))

  pub rest_number : (r c : ℕ) → at (factory ++ lesson) ((n1 + c) * m + r) ≡ at lesson (c * m + r)
  rest_number r c =
      let there : (n1 + c) * m + r ≡ length factory + (c * m + r) = rw s.first_long (omega (arith, add-mul n1 c m, mul_comm n1 m)) in
      rw there (at_rest factory lesson (c * m + r))

-- ---- parts of the joined list

pub part_in_first : (v w : List Float) (i k : ℕ) → i + k ≤ length v → part i k (v ++ w) ≡ part i k v
part_in_first v w i k h =
    let front : length (take i v) ≡ i = length-take-le i v (omega arith) in
    let all : length (drop i v) ≡ length v - i = length-drop i v in
    let shown : length (take k (drop i v)) ≡ k = length-take-le k (drop i v) (omega arith) in
    let from : drop i (v ++ w) ≡ drop i v ++ w = rw (← append_assoc (take i v) (drop i v) w, take-append-drop i v) at (drop_at (take i v) (drop i v ++ w) i front) in
    let upto : take k (take k (drop i v) ++ drop k (drop i v) ++ w) ≡ take k (drop i v) = rw (append_assoc (take k (drop i v)) (drop k (drop i v)) w) (take_at (take k (drop i v)) (drop k (drop i v) ++ w) k shown) in
    rw from (rw (take-append-drop k (drop i v)) at upto)

pub part_in_rest : (v w : List Float) (i k : ℕ) → part (length v + i) k (v ++ w) ≡ part i k w
part_in_rest v w i k = rw (← drop-drop i (length v) (v ++ w), drop_at v w (length v) refl)

-- The column shown is that of the joined matrix.
module _ {m n n1 : ℕ} {factory lesson : List Float} (s : SplitStored m n n1 factory lesson) (k : ℕ) (h : k < n) where
  first_column : k < n1 → part (k * m) m factory ≡ part (k * m) m (factory ++ lesson)
  first_column l = sym (part_in_first factory lesson (k * m) m (rw s.first_long (column_ends m n1 k l)))

  rest_column : n1 ≤ k → part ((k - n1) * m) m lesson ≡ part (k * m) m (factory ++ lesson)
  rest_column l =
      let split : k ≡ n1 + (k - n1) = omega arith in
      let there : k * m ≡ length factory + (k - n1) * m = rw s.first_long (ap (λ (i : ℕ). i * m) split ∙ add-mul n1 (k - n1) m ∙ rw (mul_comm n1 m)) in
      rw there (sym (part_in_rest factory lesson ((k - n1) * m) m))

  pub column_of_the_joined : column_shown m n n1 factory lesson k ≡ part (k * m) m (factory ++ lesson)
  unfolding column_shown
  column_of_the_joined = rw (split_fits_lem s, lt-ltb k n h) (go (ltb k n1) refl)
    where
      go : (t : Bool) → ltb k n1 ≡ t → cond t (part (k * m) m factory) (part ((k - n1) * m) m lesson) ≡ part (k * m) m (factory ++ lesson)
      go true e = first_column (ltb-true k n1 e)
      go false e = rest_column (ltb-false k n1 e)
