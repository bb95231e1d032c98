-- The absolute sums of a matrix of either storage, from those of its kind.
use mathlib.Core.Path.{◌≡◌, refl, sym, ap, ◌∙◌}
use mathlib.Core.Bool.{Bool, true, false, cond}
use mathlib.Core.List.{List}
use borrow.Author.Tests.{eqb-true, eq-eqb, ne_eqb}
use lib.Ieee.{Float}
use lib.ListN.{length}
use Rattle.rules.specs.declared.MatType.{MatType}
use Rattle.rules.specs.declared.MatType.TheVariants.{General, SymPack}
use Rattle.rules.specs.declared.Shape.{Shape}
use Rattle.rules.specs.declared.Storage.TheVariants.{Dense, Packed}
use Rattle.rules.specs.Matrices.{width}
use Rattle.rules.specs.Matrices as matrices
use Rattle.rules.specs.Outcome.{Outcome}
use Rattle.rules.specs.Problem.{Slices, joined, matrix_in}
use Rattle.rules.specs.Split.{SplitStored}
use Rattle.rules.proofs.Matrices.{both_true}
use Rattle.rules.proofs.Outcome.{refused, ruled_if_fits}
use Rattle.shape.specs.Fitting.{parts_fit, Sized}
use Rattle.rules.proofs.Slices.{split_stored}
use Rattle.shape.proofs.Fitting.{none_after}
use Rattle.columns.specs.Lines.{lines_fit}

outcome_of : {fits : Bool} {ruled kept buffer : List Float} {answer : Bool} → fits ≡ true → answer ≡ true → buffer ≡ ruled → Outcome fits ruled kept answer buffer
outcome_of {fits} {ruled} {kept} e told is =
    record { answered = told ∙ sym e; left = is ∙ sym (ap (λ (t : Bool). cond t ruled kept) e) }

-- what fails to fit
module _ (rows : Bool) (shape : Shape) (a : Slices) (y : List Float) where
  pub parts_refused : {ruled : List Float} → parts_fit shape a ≡ false → Outcome (lines_fit rows shape a y) ruled y false y
  parts_refused e = refused (rw e)

  pub line_refused : {ruled : List Float} → parts_fit shape a ≡ true → (length y ≡ cond rows shape.rows.0 shape.cols.0 → ⊥) → Outcome (lines_fit rows shape a y) ruled y false y
  line_refused e other = refused (rw e (ne_eqb _ _ other))

pub dense_stored : (shape : Shape) (a : Slices) → parts_fit shape a ≡ true → shape.storage ≡ Dense → SplitStored shape.rows.0 shape.cols.0 shape.first.0 a.first a.rest
dense_stored shape a fits e = split_stored (rw e at fits)

-- what fits, by its storage
module _ (rows : Bool) (ruled : MatType → List Float → List Float → List Float) (shape : Shape) (a : Slices) (y : List Float) (fits : parts_fit shape a ≡ true) (long : length y ≡ cond rows shape.rows.0 shape.cols.0) where
  line_fits : lines_fit rows shape a y ≡ true
  line_fits = rw fits (eq-eqb _ _ long)

  pub dense_done : {y' : List Float} {answer : Bool} → shape.storage ≡ Dense → answer ≡ true → y' ≡ ruled (General shape.rows shape.cols) (joined a) y → Outcome (lines_fit rows shape a y) (ruled (matrix_in shape) (joined a) y) y answer y'
  dense_done e told is = outcome_of line_fits told (rw e is)

  pub packed_done : {y' : List Float} {answer : Bool} → shape.storage ≡ Packed → Outcome (matrices.line_fits rows (SymPack shape.rows) a.first y) (ruled (SymPack shape.rows) a.first y) y answer y' → Outcome (lines_fit rows shape a y) (ruled (matrix_in shape) (joined a) y) y answer y'
  packed_done e o =
      let p = both_true _ _ (rw e at fits) in
      let q = both_true _ _ p.0 in
      let whole : joined a ≡ a.first = none_after a (eqb-true _ _ q.1) in
      let each-one : length y ≡ width rows (SymPack shape.rows) = long ∙ as_many rows (eqb-true _ _ q.0) in
      let its : matrices.line_fits rows (SymPack shape.rows) a.first y ≡ true = rw p.1 (eq-eqb _ _ each-one) in
      outcome_of line_fits (o.answered ∙ its) (rw (e, whole) (ruled_if_fits o its))
    where
      as_many : (rows : Bool) → shape.rows.0 ≡ shape.cols.0 → cond rows shape.rows.0 shape.cols.0 ≡ width rows (SymPack shape.rows)
      as_many true e = refl
      as_many false e = sym e

module _ {shape : Shape} {a : Slices} {y ruled : List Float} {answer : Bool} {after : List Float} where
  line_ruled : (rows : Bool) → Outcome (lines_fit rows shape a y) ruled y answer after → Sized shape a → length y ≡ cond rows shape.rows.0 shape.cols.0 → after ≡ ruled
  line_ruled rows o s h = ruled_if_fits o (rw s.parts (eq-eqb _ _ h))

  pub split_cols_ruled : Outcome (lines_fit false shape a y) ruled y answer after → Sized shape a → length y ≡ shape.cols.0 → after ≡ ruled
  split_cols_ruled o s h = line_ruled false o s h

  pub split_rows_ruled : Outcome (lines_fit true shape a y) ruled y answer after → Sized shape a → length y ≡ shape.rows.0 → after ≡ ruled
  split_rows_ruled o s h = line_ruled true o s h
