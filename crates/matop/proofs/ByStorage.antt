-- Laws of A as an operator, in two slices: what fits, and what it does, by its storage.
use Prim.Native.Nat.{ℕ}
use mathlib.Core.Path.{◌≡◌, refl, ◌∙◌}
use mathlib.Core.Bool.{Bool, true, false, cond, ◌&&◌}
use mathlib.Core.List.{List}
use borrow.Author.Tests.{eq-eqb, ne_eqb}
use lib.Dec.{eqb}
use lib.Ieee.{Float}
use lib.ListN.{length}
use Rattle.rules.specs.declared.MatType.{MatType}
use Rattle.rules.specs.declared.MatType.TheVariants.{General, SymPack}
use Rattle.rules.specs.declared.Shape.{Shape}
use Rattle.rules.specs.declared.Storage.TheVariants.{Dense, Packed}
use Rattle.rules.specs.Outcome.{Outcome}
use Rattle.rules.specs.Matrices.{width, height, entry, entries, is_empty, stored_fits, transform_fits, transformed}
use Rattle.rules.specs.Problem.{Slices, joined, matrix_in}
use Rattle.rules.specs.Split.{split_transform_fits}
use Rattle.rules.proofs.Outcome.{ruled_if_fits}
use Rattle.shape.specs.Fitting.{parts_in, parts_fit, Sized}
use Rattle.shape.proofs.Fitting.{none_after, sized_of}
use Rattle.matop.specs.Operated.{operated}
use Rattle.matop.specs.Operands.{operands_fit}
use Rattle.matop.proofs.Operator.{transforms, transforms_packed}

-- ---- what fits

-- the lengths of x and y, of slices that fit, whose matrix has the shape's sizes
module _ (transpose : Bool) (shape : Shape) (a : Slices) (x y : List Float) (fits : parts_fit shape a ≡ true) {t : MatType} (is : t ≡ matrix_in shape) where
  wide : width transpose t ≡ cond transpose shape.rows.0 shape.cols.0
  wide = rw (is, (sized_of shape a fits).rows, (sized_of shape a fits).cols)

  high : height transpose t ≡ cond transpose shape.cols.0 shape.rows.0
  high = rw (is, (sized_of shape a fits).rows, (sized_of shape a fits).cols)

  pub x_misfits : {w : ℕ} → w ≡ width transpose t → (length x ≡ w → ⊥) → false ≡ operands_fit transpose shape a x y
  x_misfits w other = rw (fits, ne_eqb _ _ (rw (w ∙ wide) at other))

  pub y_decides : {w h : ℕ} → w ≡ width transpose t → length x ≡ w → h ≡ height transpose t → eqb (length y) h ≡ operands_fit transpose shape a x y
  y_decides w same h = rw (fits, eq-eqb _ _ (same ∙ w ∙ wide), h ∙ high)

-- what a packed matrix asks, which is square and stands in the first slice
packed_by : (transpose : Bool) (x y : List Float) (m n n1 : ℕ) (a : Slices) → m ≡ n → length a.rest ≡ 0 → (parts_in Packed m n n1 a && eqb (length x) (cond transpose m n) && eqb (length y) (cond transpose n m)) ≡ transform_fits transpose (SymPack (record { 0 = m })) a.first x y
packed_by transpose x y m n n1 a square alone = rw (← square, eq-eqb m m refl, alone)

module _ (transpose : Bool) (shape : Shape) (a : Slices) (x y : List Float) (is : shape.storage ≡ Packed) where
  pub not_square : (shape.rows.0 ≡ shape.cols.0 → ⊥) → operands_fit transpose shape a x y ≡ false
  not_square other = rw (is, ne_eqb _ _ other)

  pub not_alone : (length a.rest ≡ 0 → ⊥) → operands_fit transpose shape a x y ≡ false
  not_alone some = rw (is, ne_eqb _ _ some) (go (eqb shape.rows.0 shape.cols.0))
    where
      go : (t : Bool) → ((((t && false) && stored_fits (SymPack shape.rows) a.first) && eqb (length x) (cond transpose shape.rows.0 shape.cols.0)) && eqb (length y) (cond transpose shape.cols.0 shape.rows.0)) ≡ false
      go true = refl
      go false = refl

-- ---- what it does, by the storage

module _ (transpose : Bool) (alpha : Float) (x : List Float) (beta : Float) (y : List Float) {answer : Bool} {after : List Float} (shape : Shape) (a : Slices) (some : is_empty (matrix_in shape) ≡ false) where
  pub dense_operates : shape.storage ≡ Dense
      → Outcome (split_transform_fits transpose shape.rows.0 shape.cols.0 shape.first.0 a.first a.rest x y) (transformed alpha (entries transpose (General shape.rows shape.cols) (joined a)) x beta y) y answer after
      → Outcome (operands_fit transpose shape a x y) (operated transpose (matrix_in shape) alpha (joined a) x beta y) y answer after
  dense_operates is o =
      let t = General shape.rows shape.cols in
      rw is (transforms transpose alpha (joined a) x beta y t (rw is at some) o)

  pub packed_operates : shape.storage ≡ Packed → shape.rows.0 ≡ shape.cols.0 → length a.rest ≡ 0
      → Outcome (transform_fits false (SymPack shape.rows) a.first x y) (transformed alpha (entry (SymPack shape.rows) a.first) x beta y) y answer after
      → Outcome (operands_fit transpose shape a x y) (operated transpose (matrix_in shape) alpha (joined a) x beta y) y answer after
  packed_operates is square alone o =
      rw (is, packed_by transpose x y shape.rows.0 shape.cols.0 shape.first.0 a square alone, none_after a alone)
      (transforms_packed transpose alpha a.first x beta y shape.rows (rw is at some) o)

-- ---- for a caller whose slices and vectors fit: the rule holds

module _ {shape : Shape} {a : Slices} {y ruled : List Float} {answer : Bool} {after : List Float} where
  operated_ruled : (transpose : Bool) (x : List Float) → Outcome (operands_fit transpose shape a x y) ruled y answer after → Sized shape a → length x ≡ cond transpose shape.rows.0 shape.cols.0 → length y ≡ cond transpose shape.cols.0 shape.rows.0 → after ≡ ruled
  operated_ruled transpose x o s h k = ruled_if_fits o (rw (s.parts, eq-eqb _ _ h) (eq-eqb _ _ k))

  pub split_op_ruled : (x : List Float) → Outcome (operands_fit false shape a x y) ruled y answer after → Sized shape a → length x ≡ shape.cols.0 → length y ≡ shape.rows.0 → after ≡ ruled
  split_op_ruled x o s h k = operated_ruled false x o s h k

  pub split_trans_op_ruled : (x : List Float) → Outcome (operands_fit true shape a x y) ruled y answer after → Sized shape a → length x ≡ shape.rows.0 → length y ≡ shape.cols.0 → after ≡ ruled
  split_trans_op_ruled x o s h k = operated_ruled true x o s h k
