-- Products of a dense matrix in two slices: a row's sum runs on from the first into the second, and a column stands in one of them.
use Prim.Native.Nat.{ℕ, ◌+◌, ◌-◌, ◌*◌, ◌<◌, ◌≤◌}
use native.Mathlib.Omega.{arith}
use mathlib.Core.Path.{◌≡◌, refl, sym, ap, ◌∙◌}
use mathlib.Core.Bool.{Bool, true}
use mathlib.Core.List.{List, ◌++◌}
use borrow.Author.Tests.{eqb-true}
use lib.Ieee.{Float, nan}
use lib.ListN.{length, take, drop, length-drop, take-append-drop}
use lib.Seq.{take_all, get_or-take, get_or-drop, length-take-le}
use Rattle.rules.specs.declared.MatType.TheVariants.{General}
use Rattle.rules.specs.declared.Rows.{Rows}
use Rattle.rules.specs.declared.Cols.{Cols}
use Rattle.rules.specs.Limits.{limit}
use Rattle.rules.specs.Arithmetic.{◌+ᶠ◌, ◌*ᶠ◌, +0, at, sum_from, each}
use Rattle.rules.specs.Matrices.{width, height, entry, transposed, product, transformed, transformed_by}
use Rattle.rules.specs.Split.{split_transform_fits, SplitStored}
use Rattle.rules.proofs.Arithmetic.{sum_same, each_same}
use Rattle.rules.proofs.Matrices.{both_true}
use Rattle.rules.proofs.Parts.{put, from_start, lent_rest, put_2}
use Rattle.rules.proofs.Slices.{split_stored, sum_on, each_on, columns_all, first_number, rest_number}
use Rattle.split_transform.specs.Lines.{row_on, column_of, columns_of}

module _ {rows : Rows} {cols first : Cols} {factory lesson : List Float} (s : SplitStored rows.0 cols.0 first.0 factory lesson) (x : List Float) where
  abbrev x₁ : List Float
  x₁ = take (first.0 - 0) (drop 0 x)

  abbrev x₂ : List Float
  x₂ = take (length x - first.0) (drop first.0 x)

  pub x₁_length : length x ≡ cols.0 → length x₁ ≡ first.0
  x₁_length long = rw (from_start first.0) (length-take-le first.0 x (omega (arith, s.cut)))

  pub x₂_length : length x ≡ cols.0 → length x₂ ≡ cols.0 - first.0
  x₂_length long = rw long (length-take-le (cols.0 - first.0) (drop first.0 x) (rw length-drop (omega arith)))

  -- what `row_on` asks of each slice
  pub first_fits : length x ≡ cols.0 → length factory ≡ rows.0 * length x₁
  first_fits long = s.first_long ∙ ap (λ (k : ℕ). rows.0 * k) (sym (x₁_length long))

  pub rest_fits : length x ≡ cols.0 → length lesson ≡ rows.0 * length x₂
  rest_fits long = s.rest_long ∙ ap (λ (k : ℕ). rows.0 * k) (sym (x₂_length long))

  row_runs_on : (r : ℕ) → length x ≡ cols.0 → r < rows.0 → (so_far : Float) → so_far ≡ row_on +0 rows.0 factory x₁ r
      → row_on so_far rows.0 lesson x₂ r ≡ product (entry (General rows cols) (factory ++ lesson)) x r
  unfolding entry
  row_runs_on r long hr so_far is =
      let all : first.0 + (cols.0 - first.0) ≡ length x = columns_all s ∙ sym long in
      rw (is, x₁_length long, x₂_length long) (sum_on +0 _ _ whole first.0 (cols.0 - first.0) in_first in_rest) ∙ ap (λ (k : ℕ). sum_from +0 k whole) all
    where
      whole : ℕ → Float
      whole c = at (factory ++ lesson) (c * rows.0 + r) *ᶠ at x c

      in_first : (c : ℕ) → c < first.0 → at factory (c * rows.0 + r) *ᶠ at x₁ c ≡ at (factory ++ lesson) (c * rows.0 + r) *ᶠ at x c
      in_first c hc =
          let same : at x₁ c ≡ at x c = rw (from_start first.0) (get_or-take first.0 x c nan hc) in
          rw (first_number s r c hr hc, same)

      in_rest : (c : ℕ) → c < cols.0 - first.0 → at lesson (c * rows.0 + r) *ᶠ at x₂ c ≡ at (factory ++ lesson) ((first.0 + c) * rows.0 + r) *ᶠ at x (first.0 + c)
      in_rest c hc =
          let same : at x₂ c ≡ at x (first.0 + c) = get_or-take (length x - first.0) (drop first.0 x) c nan (omega arith) ∙ get_or-drop first.0 x c nan in
          rw (rest_number s r c, same)

  -- so do several rows side by side
  pub rows_run_on : (alpha beta : Float) (r : ℕ) (y : List Float) → length x ≡ cols.0 → r + length y ≤ rows.0
      → each (λ k v. alpha *ᶠ row_on (row_on +0 rows.0 factory x₁ (r + k)) rows.0 lesson x₂ (r + k) +ᶠ beta *ᶠ v) y
      ≡ each (λ k v. alpha *ᶠ product (entry (General rows cols) (factory ++ lesson)) x (r + k) +ᶠ beta *ᶠ v) y
  rows_run_on alpha beta r y long inside =
      each_same _ _ y (λ k l. rw (row_runs_on (r + k) long (omega arith) _ refl))

  -- a column of the first slice, and one of the second
  column_in_first : (c : ℕ) → length x ≡ rows.0 → c < first.0 → column_of rows.0 factory x c ≡ product (transposed (entry (General rows cols) (factory ++ lesson))) x c
  unfolding entry
  column_in_first c long hc = sum_same +0 _ _ (length x) (λ r l. rw (first_number s r c (omega arith) hc))

  column_in_rest : (c : ℕ) → column_of rows.0 lesson x c ≡ product (transposed (entry (General rows cols) (factory ++ lesson))) x (first.0 + c)
  unfolding entry
  column_in_rest c = sum_same +0 _ _ (length x) (λ r l. rw (rest_number s r c))

  -- all of them, those of the first slice lent first
  module _ (y p : List Float) (high : length y ≡ cols.0) (as_many : length p ≡ first.0) where
    rest_lent : take (cols.0 - first.0) (drop first.0 (put 0 first.0 y p)) ≡ drop first.0 y
    rest_lent =
        lent_rest first.0 cols.0 y p as_many s.cut ∙ take_all (cols.0 - first.0) (drop first.0 y) (rw length-drop (omega (arith, high)))

    pub rest_lent_fits : length lesson ≡ rows.0 * length (take (cols.0 - first.0) (drop first.0 (put 0 first.0 y p)))
    rest_lent_fits =
        let all : length (drop first.0 y) ≡ cols.0 - first.0 = rw (length-drop, high) in
        rw (rest_lent, all) s.rest_long

    pub rest_lent_within : length (take (cols.0 - first.0) (drop first.0 (put 0 first.0 y p))) ≤ limit
    rest_lent_within = rw (rest_lent, length-drop, high) (omega (arith, s.n_within))

    pub columns_put : (alpha beta : Float) (q : List Float) → length x ≡ rows.0
        → p ≡ columns_of alpha rows.0 factory x beta (take (first.0 - 0) (drop 0 y))
        → q ≡ columns_of alpha rows.0 lesson x beta (take (cols.0 - first.0) (drop first.0 (put 0 first.0 y p)))
        → put first.0 cols.0 (put 0 first.0 y p) q ≡ transformed alpha (transposed (entry (General rows cols) (factory ++ lesson))) x beta y
    unfolding transformed_by
    columns_put alpha beta q long p_is q_is =
        let front : length (take first.0 y) ≡ first.0 = length-take-le first.0 y (omega (arith, s.cut)) in
        let p_of_front = rw (from_start first.0) at p_is in
        let q_of_rest = rw rest_lent at q_is in
        put_2 first.0 cols.0 y p as_many s.cut q (omega (arith, high))
        ∙ rw (p_of_front, q_of_rest)
        (each_on _ _ _ (take first.0 y) (drop first.0 y) (λ c v l. rw (column_in_first c long (omega arith))) (λ c v l. rw (front, column_in_rest c)))
        ∙ ap (each _) (take-append-drop first.0 y)

-- what the test of sizes says
pub record SplitFitting (transpose : Bool) (rows : Rows) (cols first : Cols) (factory lesson x y : List Float) : Type 0 where
  pub stored : SplitStored rows.0 cols.0 first.0 factory lesson
  pub wide : length x ≡ width transpose (General rows cols)
  pub high : length y ≡ height transpose (General rows cols)

pub split_fitting : (transpose : Bool) (rows : Rows) (cols first : Cols) (factory lesson x y : List Float) → split_transform_fits transpose rows.0 cols.0 first.0 factory lesson x y ≡ true → SplitFitting transpose rows cols first factory lesson x y
split_fitting transpose rows cols first factory lesson x y e =
    let p = both_true _ _ e in
    let q = both_true _ _ p.0 in
    record { stored = split_stored q.0; wide = eqb-true _ _ q.1; high = eqb-true _ _ p.1 }
