-- A dense matrix in two slices: its columns stand in the slices, and its lines add up to those of the joined matrix.
use Prim.Native.Nat.{ℕ, ◌+◌, ◌-◌, ◌*◌, ◌<◌, ◌≤◌}
use native.Mathlib.Omega.{arith}
use mathlib.Core.Path.{◌≡◌, refl, sym, ap, subst, ◌∙◌}
use mathlib.Core.Bool.{Bool, true, false}
use mathlib.Core.List.{List, ◌++◌}
use borrow.Author.Tests.{ltb-true, ltb-false, lt-ltb, le-ltb}
use lib.Dec.{ltb}
use lib.Ieee.{Float}
use lib.ListN.{length, set}
use Rattle.rules.specs.declared.Rows.{Rows}
use Rattle.rules.specs.declared.Cols.{Cols}
use Rattle.rules.specs.declared.MatType.TheVariants.{General}
use Rattle.rules.specs.Helpers.{magnitude}
use Rattle.rules.specs.Arithmetic.{◌+ᶠ◌, +0, at, sum_to, sum_from, each}
use Rattle.rules.specs.Vectors.{abssum}
use Rattle.rules.specs.Step.{part}
use Rattle.rules.specs.Matrices.{entry, transposed, col_sum, absadded_cols, absadded_rows}
use Rattle.rules.specs.Split.{SplitStored, column_shown}
use Rattle.rules.proofs.Arithmetic.{sum_same, each_same, Reached, reached_more}
use Rattle.rules.proofs.Vectors.{abssum_of_part}
use Rattle.rules.proofs.Parts.{places}
use Rattle.rules.proofs.Slices.{split_fits_lem, sum_on, columns_all, first_inside, rest_inside, first_number, rest_number}

-- a part of a slice, number by number
part-sum : (xs : List Float) (start m : ℕ) → start + m ≤ length xs → abssum (part start m xs) 1 ≡ sum_to m (λ r. magnitude (at xs (start + r)))
part-sum xs start m h =
    subst (λ (k : ℕ). abssum (part start k xs) 1 ≡ sum_to m (λ r. magnitude (at xs (start + r)))) (places start m) (abssum_of_part xs start (start + m) m refl h)

module _ {m n n1 : ℕ} {factory lesson : List Float} (s : SplitStored m n n1 factory lesson) where
  -- which part is shown
  pub first_shown : (k : ℕ) → k < n → k < n1 → column_shown m n n1 factory lesson k ≡ part (k * m) m factory
  unfolding column_shown
  first_shown k h below = rw (split_fits_lem s, lt-ltb k n h, lt-ltb k n1 below)

  pub rest_shown : (k : ℕ) → k < n → n1 ≤ k → column_shown m n n1 factory lesson k ≡ part ((k - n1) * m) m lesson
  unfolding column_shown
  rest_shown k h above = rw (split_fits_lem s, lt-ltb k n h, le-ltb k n1 above)

  -- the numbers of the joined matrix's column
  first_sum : (k : ℕ) → k < n1 → abssum (part (k * m) m factory) 1 ≡ sum_to m (λ r. magnitude (at (factory ++ lesson) (k * m + r)))
  first_sum k below =
      part-sum factory (k * m) m (first_inside s k below) ∙ sum_same +0 _ _ m (λ r l. ap magnitude (sym (first_number s r k l below)))

  rest_sum : (k : ℕ) → n1 ≤ k → k < n → abssum (part ((k - n1) * m) m lesson) 1 ≡ sum_to m (λ r. magnitude (at (factory ++ lesson) (k * m + r)))
  rest_sum k above h =
      let there : n1 + (k - n1) ≡ k = omega arith in
      part-sum lesson ((k - n1) * m) m (rest_inside s k above h) ∙ sum_same +0 _ _ m (λ r l. ap magnitude (rw there at (sym (rest_number s r (k - n1)))))

-- ---- a row's sum, that runs on from the first slice into the second

abbrev pub abs_row_on : ℕ → List Float → List Float → ℕ → ℕ → ℕ → Float
abs_row_on m factory lesson n1 n2 r =
    sum_from (sum_from +0 n1 (λ c. magnitude (at factory (c * m + r)))) n2 (λ c. magnitude (at lesson (c * m + r)))

-- a pass adds the whole row to its place
pub row_reached : (m : ℕ) (factory lesson : List Float) (n1 n2 : ℕ) {so_far : Float} {r : ℕ} {xs ys : List Float} → so_far ≡ sum_from +0 n1 (λ c. magnitude (at factory (c * m + r))) → Reached (λ i v. abs_row_on m factory lesson n1 n2 i +ᶠ v) r xs ys → r < length xs → Reached (λ i v. abs_row_on m factory lesson n1 n2 i +ᶠ v) (r + 1) xs (set ys r (sum_from so_far n2 (λ c. magnitude (at lesson (c * m + r))) +ᶠ at ys r))
row_reached m factory lesson n1 n2 e reached h = rw e (reached_more reached h)

-- ---- the joined matrix's lines

module _ {rows : Rows} {cols : Cols} {n1 : ℕ} {factory lesson : List Float} (s : SplitStored rows.0 cols.0 n1 factory lesson) where
  pub shown_sum : (k : ℕ) → k < cols.0 → abssum (column_shown rows.0 cols.0 n1 factory lesson k) 1 ≡ col_sum (entry (General rows cols) (factory ++ lesson)) rows.0 k
  unfolding entry
  shown_sum k h = go (ltb k n1) refl
    where
      go : (below : Bool) → ltb k n1 ≡ below → abssum (column_shown rows.0 cols.0 n1 factory lesson k) 1 ≡ sum_to rows.0 (λ r. magnitude (at (factory ++ lesson) (k * rows.0 + r)))
      go true e =
          let below = ltb-true k n1 e in
          rw (first_shown s k h below) (first_sum s k below)
      go false e =
          let above = ltb-false k n1 e in
          rw (rest_shown s k h above) (rest_sum s k above h)

  pub row_on : (r : ℕ) → r < rows.0 → abs_row_on rows.0 factory lesson n1 (cols.0 - n1) r ≡ col_sum (transposed (entry (General rows cols) (factory ++ lesson))) cols.0 r
  unfolding entry
  row_on r h =
      sum_on +0 _ _ (λ c. magnitude (at (factory ++ lesson) (c * rows.0 + r))) n1 (cols.0 - n1) (λ c l. ap magnitude (sym (first_number s r c h l))) (λ c l. ap magnitude (sym (rest_number s r c)))
      ∙ ap (λ (k : ℕ). sum_to k (λ c. magnitude (at (factory ++ lesson) (c * rows.0 + r)))) (columns_all s)

  -- what is added to each place
  pub cols_added : (y : List Float) → length y ≡ cols.0 → each (λ k v. abssum (column_shown rows.0 cols.0 n1 factory lesson k) 1 +ᶠ v) y ≡ absadded_cols (General rows cols) (factory ++ lesson) y
  unfolding absadded_cols
  cols_added y e = each_same _ _ y (λ k l. ap (λ (u : Float). u +ᶠ at y k) (shown_sum k (omega (arith, e))))

  pub rows_added : (y : List Float) → length y ≡ rows.0 → each (λ r v. abs_row_on rows.0 factory lesson n1 (cols.0 - n1) r +ᶠ v) y ≡ absadded_rows (General rows cols) (factory ++ lesson) y
  unfolding absadded_rows
  rows_added y e = each_same _ _ y (λ r l. ap (λ (u : Float). u +ᶠ at y r) (row_on r (omega (arith, e))))
