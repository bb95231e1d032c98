-- Laws of the packed absolute sums, column by column.
use Prim.Native.Nat.{ℕ, suc, ◌+◌, ◌-◌, ◌<◌}
use native.Mathlib.Omega.{arith}
use mathlib.Core.Path.{◌≡◌, refl, sym, ap, ◌∙◌}
use mathlib.Core.Bool.{Bool, true, false, cond}
use mathlib.Core.List.{List}
use borrow.Author.Tests.{ltb-true, ltb-false, eqb-true, eqb-false, lt-ltb, le-ltb}
use lib.Dec.{ltb, eqb}
use lib.Ieee.{Float, nan}
use lib.ListN.{length, set, length-set}
use lib.Seq.{get_or-set_same, get_or-set_other}
use Rattle.rules.specs.declared.MatType.TheVariants.{SymPack}
use Rattle.rules.specs.declared.Rows.{Rows}
use Rattle.rules.specs.Helpers.{magnitude}
use Rattle.rules.specs.Arithmetic.{◌+ᶠ◌, +0, at, sum_to, each, each_to}
use Rattle.rules.specs.Matrices.{triangle, entry, col_sum, packed_sum, absadded_cols}
use Rattle.rules.proofs.Arithmetic.{sum_none, sum_more, sum_same, each_to-length, each_to_later, each_to-at, each-length, each_at, each_is, each_same}
use Rattle.rules.proofs.Columns.{in_packed-at}
use Rattle.absadd.specs.Columns.{column_added}

-- ---- one column

pub column_added_lem : (mat : List Float) (c : ℕ) (xs ys : List Float) (s : Float) → c < length xs → s ≡ sum_to (suc c) (λ r. magnitude (at mat (triangle c + r))) → ys ≡ each_to (λ k v. v +ᶠ magnitude (at mat (triangle c + k))) c (set xs c (s +ᶠ at xs c)) → ys ≡ each (column_added mat c) xs
unfolding column_added
column_added_lem mat c xs ys s h whole is =
    each_is (column_added mat c) xs ys (ap length is ∙ each_to-length above c stored ∙ length-set xs c (s +ᶠ at xs c)) (λ i l. ap (λ (zs : List Float). at zs i) is ∙ go i l (ltb i c) (eqb i c) refl refl)
  where
    above : ℕ → Float → Float
    above k v = v +ᶠ magnitude (at mat (triangle c + k))

    stored : List Float
    stored = set xs c (s +ᶠ at xs c)

    go : (i : ℕ) → i < length xs → (a b : Bool) → ltb i c ≡ a → eqb i c ≡ b → at (each_to above c stored) i ≡ cond a (above i (at xs i)) (cond b (sum_to (suc c) (λ r. magnitude (at mat (triangle c + r))) +ᶠ at xs i) (at xs i))
    go i l true b p q =
        each_to-at above c stored i (ltb-true i c p) (rw (length-set xs c (s +ᶠ at xs c)) l) ∙ ap (above i) (get_or-set_other xs c i (s +ᶠ at xs c) nan (λ e. omega (arith, ltb-true i c p)))
    go i l false true p q =
        let e : i ≡ c = eqb-true i c q in
        each_to_later above c stored i (ltb-false i c p) ∙ rw e (get_or-set_same xs c (s +ᶠ at xs c) nan h ∙ ap (λ (t : Float). t +ᶠ at xs c) whole)
    go i l false false p q =
        each_to_later above c stored i (ltb-false i c p) ∙ get_or-set_other xs c i (s +ᶠ at xs c) nan (eqb-false i c q)

-- ---- column after column

-- what place i holds after c columns
unfoldable pub packed_to : Rows → List Float → ℕ → ℕ → Float → Float
packed_to rows mat c i v = cond (ltb i c) (packed_sum (entry (SymPack rows) mat) c i v) v

pub record Columns (rows : Rows) (mat : List Float) (c : ℕ) (xs ys : List Float) : Type 0 where
  pub is : ys ≡ each (packed_to rows mat c) xs
  pub same : length ys ≡ length xs

pub columns_none : (rows : Rows) (mat xs : List Float) → Columns rows mat 0 xs xs
unfolding packed_to
columns_none rows mat xs = record { is = each_is (packed_to rows mat 0) xs xs refl (λ i l. rw (le-ltb i 0 (omega arith))); same = refl }

module _ (rows : Rows) (mat : List Float) where
  row_goes_on : (c i : ℕ) (v : Float) → i < c → packed_sum (entry (SymPack rows) mat) c i v +ᶠ magnitude (at mat (triangle c + i)) ≡ packed_sum (entry (SymPack rows) mat) (c + 1) i v
  row_goes_on c i v h =
      let more : c + 1 - suc i ≡ c - suc i + 1 = omega arith in
      let last : suc i + (c - suc i) ≡ c = omega arith in
      rw (more, ← in_packed-at rows.0 mat i c (omega arith)) (ap (λ (k : ℕ). start +ᶠ magnitude (entry (SymPack rows) mat i k)) (sym last) ∙ sum_more (col_sum (entry (SymPack rows) mat) (suc i) i +ᶠ v) (λ k. magnitude (entry (SymPack rows) mat i (suc i + k))) (c - suc i))
    where
      start : Float
      start = packed_sum (entry (SymPack rows) mat) c i v

  row_begins : (c : ℕ) (v : Float) → sum_to (suc c) (λ r. magnitude (at mat (triangle c + r))) +ᶠ v ≡ packed_sum (entry (SymPack rows) mat) (c + 1) c v
  row_begins c v =
      let none : c + 1 - suc c ≡ 0 = omega arith in
      rw none (ap (λ (s : Float). s +ᶠ v) (sum_same +0 (λ r. magnitude (at mat (triangle c + r))) (λ r. magnitude (entry (SymPack rows) mat r c)) (suc c) (λ r h. ap magnitude (sym (in_packed-at rows.0 mat r c (omega arith))))) ∙ sym (sum_none _ _))

  pub columns_more : {c : ℕ} {xs ys zs : List Float} → Columns rows mat c xs ys → zs ≡ each (column_added mat c) ys → Columns rows mat (c + 1) xs zs
  unfolding packed_to column_added
  columns_more {c} {xs} {ys} {zs} r e =
      let same : length zs ≡ length xs = ap length e ∙ each-length (column_added mat c) ys ∙ r.same in
      record { is = each_is (packed_to rows mat (c + 1)) xs zs same place; same = same }
    where
      go : (i : ℕ) (v : Float) (a b : Bool) → ltb i c ≡ a → eqb i c ≡ b → cond a (cond a (packed_sum (entry (SymPack rows) mat) c i v) v +ᶠ magnitude (at mat (triangle c + i))) (cond b (sum_to (suc c) (λ k. magnitude (at mat (triangle c + k))) +ᶠ cond a (packed_sum (entry (SymPack rows) mat) c i v) v) (cond a (packed_sum (entry (SymPack rows) mat) c i v) v)) ≡ cond (ltb i (c + 1)) (packed_sum (entry (SymPack rows) mat) (c + 1) i v) v
      go i v true b p q = rw (lt-ltb i (c + 1) (omega (arith, ltb-true i c p))) (row_goes_on c i v (ltb-true i c p))
      go i v false true p q =
          let same : i ≡ c = eqb-true i c q in
          rw (lt-ltb i (c + 1) (omega arith), same) (row_begins c v)
      go i v false false p q =
          let other : i ≡ c → ⊥ = eqb-false i c q in
          rw (le-ltb i (c + 1) (omega (arith, ltb-false i c p)))

      place : (i : ℕ) → i < length xs → at zs i ≡ packed_to rows mat (c + 1) i (at xs i)
      place i l =
          let held : at ys i ≡ packed_to rows mat c i (at xs i) = ap (λ (ws : List Float). at ws i) r.is ∙ each_at (packed_to rows mat c) xs i l in
          ap (λ (ws : List Float). at ws i) e ∙ each_at (column_added mat c) ys i (omega (arith, r.same)) ∙ rw held (go i (at xs i) (ltb i c) (eqb i c) refl refl)

  pub columns_all : {c : ℕ} {xs ys : List Float} → Columns rows mat c xs ys → c ≡ rows.0 → length xs ≡ rows.0 → ys ≡ absadded_cols (SymPack rows) mat xs
  unfolding packed_to absadded_cols
  columns_all {c} {xs} {ys} r all e =
      r.is
      ∙ each_same (packed_to rows mat c) (λ i v. packed_sum (entry (SymPack rows) mat) rows.0 i v) xs
      (λ i l. rw (all, lt-ltb i rows.0 (omega arith)))
