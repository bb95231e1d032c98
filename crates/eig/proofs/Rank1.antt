-- The loops that build the matrix anew: before the first pass, at a pass, after the last.
use Prim.Native.Nat.{ℕ, ◌+◌, ◌-◌, ◌*◌, ◌<◌, ◌≤◌}
use native.Mathlib.Omega.{arith}
use native.Mathlib.Nat.{mul-le-mul, add-mul}
use native.Mathlib.Numerals.{add-one}
use mathlib.Core.Path.{◌≡◌, refl, sym, ◌∙◌, ap}
use mathlib.Core.Bool.{Bool, true, false, cond}
use mathlib.Core.List.{List}
use borrow.Author.Tests.{lt-ltb, le-ltb, eq-eqb, ne_eqb}
use lib.Dec.{ltb, eqb}
use lib.Ieee.{Float, nan, lt}
use lib.ListN.{length, set, take, drop, length-set, length-take, length-drop}
use lib.Seq.{get_or-drop, get_or-take}
use Rattle.rules.specs.Limits.{limit}
use Rattle.rules.specs.Arithmetic.{◌+ᶠ◌, ◌*ᶠ◌, +0, at, each, tabulate}
use Rattle.rules.specs.Matrices.{triangle}
use Rattle.rules.specs.Jacobi.{packed, in_packed, in_square}
use Rattle.rules.specs.Projections.{rebuilt_entry}
use Rattle.rules.proofs.Arithmetic.{Reached, reached_all, each-length, each_at}
use Rattle.rules.proofs.Columns.{by_less, by_same, tabulate_is, packed_self, packed_same, packed_is, packed-at, packed-set, in_packed-at, in_square-place}
use Rattle.rules.proofs.Triangle.{triangle_inside}
use Rattle.jacobi.specs.Sizes.{IsPacked}
use Rattle.eig.specs.Parts.{added, plus_column, plus_rank1}
use Rattle.rules.proofs.Matrices.{square_small}

-- an entry of a list that is known by its entries
pub entry_of : (n : ℕ) (f : ℕ → ℕ → Float) (x : List Float) → x ≡ packed n f → (r c : ℕ) → r ≤ c → c < n → in_packed n x r c ≡ f r c
entry_of n f x is r c hr hc =
    in_packed-at n x r c hr ∙ ap (λ (l : List Float). at l (triangle c + r)) is ∙ packed-at n f r c hr hc

-- ---- one column: the first k rows of column c are done

abbrev column_to : Float → List Float → ℕ → ℕ → List Float → ℕ → ℕ → Float
column_to e z c k x r q = cond (eqb q c) (cond (ltb r k) (added e z x r q) (in_packed (length z) x r q)) (in_packed (length z) x r q)

pub record ColumnTo (e : Float) (z : List Float) (c k : ℕ) (x x' : List Float) : Type 0 where
  pub is : x' ≡ packed (length z) (column_to e z c k x)
  pub same : length x' ≡ length x
  pub within : k ≤ c + 1

pub column_none : (e : Float) (z : List Float) (c : ℕ) (x : List Float) → IsPacked (length z) x → ColumnTo e z c 0 x x
column_none e z c x sized =
    record {
      is =
          packed_self (length z) x sized.stored
          ∙ packed_same (length z) (in_packed (length z) x) (column_to e z c 0 x) (λ r q hr hq. sym (by_same q c (λ s. rw (eq-eqb q c s, le-ltb r 0 (omega arith))) (λ n. rw (ne_eqb q c n))));
      same = refl;
      within = omega arith;
    }

column_elsewhere : (e : Float) (z : List Float) (c k : ℕ) (x : List Float) (p q : ℕ) → (p ≡ k → q ≡ c → ⊥) → column_to e z c (k + 1) x p q ≡ column_to e z c k x p q
column_elsewhere e z c k x p q apart =
    by_same q c
    (λ s.
    by_less p k (λ l. rw (lt-ltb p k l, lt-ltb p (k + 1) (omega arith)))
    (λ l. rw (le-ltb p k l, le-ltb p (k + 1) (by_less k p (λ m. omega arith) (λ m. absurd (apart (omega arith) s))))))
    (λ n. rw (ne_eqb q c n))

pub column_more : {e : Float} {z : List Float} {c k p : ℕ} {x x' : List Float} → ColumnTo e z c k x x' → k ≤ c → c < length z → p ≡ triangle c + k → ColumnTo e z c (k + 1) x (set x' p (e *ᶠ at z k *ᶠ at z c +ᶠ at x' p))
column_more {e} {z} {c} {k} {p} {x} {x'} r h hc is_p =
    let held : at x' (triangle c + k) ≡ in_packed (length z) x k c =
    ap (λ (l : List Float). at l (triangle c + k)) r.is ∙ packed-at (length z) (column_to e z c k x) k c h hc ∙ rw (eq-eqb c c refl, le-ltb k k (omega arith)) in
    let new : column_to e z c (k + 1) x k c ≡ e *ᶠ at z k *ᶠ at z c +ᶠ at x' (triangle c + k) = rw (held, eq-eqb c c refl, lt-ltb k (k + 1) (omega arith)) in
    let stored : set x' (triangle c + k) (e *ᶠ at z k *ᶠ at z c +ᶠ at x' (triangle c + k)) ≡ packed (length z) (column_to e z c (k + 1) x) =
    packed-set (column_to e z c (k + 1) x) k c (e *ᶠ at z k *ᶠ at z c +ᶠ at x' (triangle c + k)) r.is h hc new (λ p q hp hq apart. column_elsewhere e z c k x p q apart) in
    record { is = rw is_p stored; same = length-set x' p (e *ᶠ at z k *ᶠ at z c +ᶠ at x' p) ∙ r.same; within = omega arith }

pub column_all : {e : Float} {z : List Float} {c k : ℕ} {x x' : List Float} → ColumnTo e z c k x x' → c + 1 ≤ k → x' ≡ plus_column e z c x
unfolding plus_column
column_all {e} {z} {c} {k} {x} {x'} r h =
    r.is
    ∙ packed_same (length z) (column_to e z c k x) _
    (λ p q hp hq. by_same q c (λ s. rw (eq-eqb q c s, lt-ltb p k (omega arith))) (λ n. rw (ne_eqb q c n)))

-- ---- all columns: the first k are done

abbrev columns_to : Float → List Float → ℕ → List Float → ℕ → ℕ → Float
columns_to e z k x r q = cond (ltb q k) (added e z x r q) (in_packed (length z) x r q)

pub record ColumnsTo (e : Float) (z : List Float) (k : ℕ) (x x' : List Float) : Type 0 where
  pub is : x' ≡ packed (length z) (columns_to e z k x)
  pub sized : IsPacked (length z) x'
  pub within : k ≤ length z

pub columns_none : (e : Float) (z x : List Float) → IsPacked (length z) x → ColumnsTo e z 0 x x
columns_none e z x sized =
    record {
      is =
          packed_self (length z) x sized.stored
          ∙ packed_same (length z) (in_packed (length z) x) (columns_to e z 0 x) (λ r q hr hq. rw (le-ltb q 0 (omega arith)));
      sized = sized;
      within = omega arith;
    }

pub columns_more : {e : Float} {z : List Float} {k : ℕ} {x x' : List Float} → ColumnsTo e z k x x' → k < length z → (x'' : List Float) → x'' ≡ plus_column e z k x' → IsPacked (length z) x'' → ColumnsTo e z (k + 1) x x''
unfolding plus_column
columns_more {e} {z} {k} {x} {x'} r h x'' is sized =
    record { is = is ∙ packed_same (length z) _ (columns_to e z (k + 1) x) same; sized = sized; within = omega arith }
  where
    old : (p q : ℕ) → p ≤ q → q < length z → in_packed (length z) x' p q ≡ columns_to e z k x p q
    old p q hp hq = entry_of (length z) (columns_to e z k x) x' r.is p q hp hq

    same : (p q : ℕ) → p ≤ q → q < length z → cond (eqb q k) (added e z x' p q) (in_packed (length z) x' p q) ≡ columns_to e z (k + 1) x p q
    same p q hp hq =
        by_same q k
        (λ s. rw (eq-eqb q k s, lt-ltb q (k + 1) (omega arith), old p q hp hq, le-ltb q k (omega arith)))
        (λ n.
        rw (ne_eqb q k n, old p q hp hq)
        (by_less q k (λ l. rw (lt-ltb q k l, lt-ltb q (k + 1) (omega arith)))
        (λ l. rw (le-ltb q k l, le-ltb q (k + 1) (by_less k q (λ m. omega arith) (λ m. absurd (n (omega arith))))))))

pub columns_all : {e : Float} {z : List Float} {k : ℕ} {x x' : List Float} → ColumnsTo e z k x x' → length z ≤ k → x' ≡ plus_rank1 e z x
unfolding plus_rank1
columns_all {e} {z} {k} {x} {x'} r h =
    r.is ∙ packed_same (length z) (columns_to e z k x) (added e z x) (λ p q hp hq. rw (lt-ltb q k (omega arith)))

-- ---- eigenvalues

pub tabulate_reached : {f : ℕ → Float} {n k : ℕ} {w w' : List Float} → Reached (λ p v. f p) k w w' → length w ≡ n → n ≤ k → w' ≡ tabulate n f
tabulate_reached {f} {n} {k} {w} {w'} r same h =
    let all : w' ≡ each (λ p v. f p) w = reached_all r (omega arith) in
    tabulate_is n f w' (r.same ∙ same) (λ p l. ap (λ (y : List Float). at y p) all ∙ each_at (λ q v. f q) w p (omega arith))

-- ---- the matrix of the first k eigenvalues

pub record RebuiltTo (n : ℕ) (work : List Float) (k : ℕ) (x : List Float) : Type 0 where
  pub is : x ≡ packed n (rebuilt_entry (at work) (in_square n (drop n work)) k)
  pub sized : IsPacked n x
  pub within : k ≤ n

rebuilt_zero : (values : ℕ → Float) (z : ℕ → ℕ → Float) (r c : ℕ) → rebuilt_entry values z 0 r c ≡ +0
unfolding rebuilt_entry
rebuilt_zero values z r c = refl

rebuilt_by : (values : ℕ → Float) (z : ℕ → ℕ → Float) (k r c : ℕ) (b : Bool) → lt +0 (values k) ≡ b → rebuilt_entry values z (k + 1) r c ≡ cond b (values k *ᶠ z r k *ᶠ z c k +ᶠ rebuilt_entry values z k r c) (rebuilt_entry values z k r c)
unfolding rebuilt_entry
rebuilt_by values z k r c b e =
    ap (λ (l : ℕ). rebuilt_entry values z l r c) (add-one k)
    ∙ ap (λ (t : Bool). cond t (values k *ᶠ z r k *ᶠ z c k +ᶠ rebuilt_entry values z k r c) (rebuilt_entry values z k r c)) e

pub rebuilt_none : (n : ℕ) (work old x : List Float) → IsPacked n old → x ≡ each (λ k v. +0) old → RebuiltTo n work 0 x
rebuilt_none n work old x sized e =
    let same : length x ≡ triangle n = ap length e ∙ each-length (λ k v. +0) old ∙ sized.stored in
    record {
      is =
          packed_is n (rebuilt_entry (at work) (in_square n (drop n work)) 0) x same
          (λ r c hr hc.
          ap (λ (l : List Float). at l (triangle c + r)) e
          ∙ each_at (λ k v. +0) old (triangle c + r) (omega (arith, sized.stored, triangle_inside c n hc))
          ∙ sym (rebuilt_zero (at work) (in_square n (drop n work)) r c));
      sized = record { order = sized.order; stored = same };
      within = omega arith;
    }

pub rebuilt_off : {n : ℕ} {work : List Float} {k : ℕ} {x : List Float} → RebuiltTo n work k x → k < n → lt +0 (at work k) ≡ false → RebuiltTo n work (k + 1) x
rebuilt_off {n} {work} {k} {x} r h off =
    record {
      is = r.is ∙ packed_same n _ _ (λ p q hp hq. sym (rebuilt_by (at work) (in_square n (drop n work)) k p q false off));
      sized = r.sized;
      within = omega arith;
    }

-- vector k, as it is lent
unfoldable pub lent : ℕ → List Float → ℕ → List Float
lent n work k = take (n + k * n + n - (n + k * n)) (drop (n + k * n) work)

module _ (n : ℕ) (work : List Float) (k : ℕ) (room : n + n * n ≤ length work) (h : k < n) where
  fits : n + k * n + n ≤ n + n * n
  fits =
      let l : (k + 1) * n ≤ n * n = mul-le-mul (omega arith) (omega arith) in
      omega (arith, l, add-mul k 1 n)

  pub lent_inside : n ≤ limit → (n + k * n + n ≤ length work) × (n + k * n + n ≤ limit + limit * limit)
  lent_inside small = omega (arith, fits, square_small n small)

  pub lent_length : length (lent n work k) ≡ n
  unfolding lent
  lent_length = simp (length-take, length-drop) (omega (arith, fits))

  lent_at : (r : ℕ) → r < n → at (lent n work k) r ≡ in_square n (drop n work) r k
  unfolding lent
  lent_at r l =
      let same : n + k * n + r ≡ n + (k * n + r) = omega arith in
      get_or-take (n + k * n + n - (n + k * n)) (drop (n + k * n) work) r nan (omega arith)
      ∙ get_or-drop (n + k * n) work r nan
      ∙ ap (λ (p : ℕ). at work p) same
      ∙ sym (get_or-drop n work (k * n + r) nan)
      ∙ sym (in_square-place n (drop n work) r k)

  pub rebuilt_on : {x : List Float} → RebuiltTo n work k x → lt +0 (at work k) ≡ true → (x' : List Float) → x' ≡ plus_rank1 (at work k) (lent n work k) x → length x' ≡ length x → RebuiltTo n work (k + 1) x'
  unfolding plus_rank1
  rebuilt_on {x} r on x' e same =
      record {
        is =
            e
            ∙ ap (λ (l : ℕ). packed l (λ p q. at work k *ᶠ at (lent n work k) p *ᶠ at (lent n work k) q +ᶠ in_packed l x p q)) lent_length
            ∙ packed_same n _ _
            (λ p q hp hq.
            ap (λ (v : Float). at work k *ᶠ v *ᶠ at (lent n work k) q +ᶠ in_packed n x p q) (lent_at p (omega arith))
            ∙ ap (λ (v : Float). at work k *ᶠ in_square n (drop n work) p k *ᶠ v +ᶠ in_packed n x p q) (lent_at q hq)
            ∙ ap (λ (v : Float). at work k *ᶠ in_square n (drop n work) p k *ᶠ in_square n (drop n work) q k +ᶠ v) (entry_of n (rebuilt_entry (at work) (in_square n (drop n work)) k) x r.is p q hp hq)
            ∙ sym (rebuilt_by (at work) (in_square n (drop n work)) k p q true on));
        sized = record { order = r.sized.order; stored = same ∙ r.sized.stored };
        within = omega arith;
      }

pub rebuilt_all : {n : ℕ} {work : List Float} {k : ℕ} {x : List Float} → RebuiltTo n work k x → n ≤ k → x ≡ packed n (rebuilt_entry (at work) (in_square n (drop n work)) n)
rebuilt_all {n} {work} {k} {x} r h =
    let all : k ≡ n = omega (arith, r.within) in
    r.is ∙ ap (λ (l : ℕ). packed n (rebuilt_entry (at work) (in_square n (drop n work)) l)) all
