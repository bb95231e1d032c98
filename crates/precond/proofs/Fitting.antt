-- What calc_precond asks, part by part, and the other way.
use Prim.Native.Nat.{ℕ, ◌≤◌}
use mathlib.Core.Path.{◌≡◌, refl}
use mathlib.Core.Bool.{Bool, true, false, not, ◌&&◌, ◌||◌, true≢false}
use mathlib.Core.List.{List}
use borrow.Author.Tests.{eqb-true, not-true}
use lib.Dec.{eqb}
use lib.Ieee.{Float}
use Rattle.rules.specs.declared.Shape.{Shape}
use Rattle.rules.specs.Limits.{limit}
use Rattle.rules.specs.Blocks.{blocks_of, has_bad_word, total_places, is_bad_cone}
use Rattle.rules.specs.Product.{sums_fit}
use Rattle.rules.specs.Problem.{Slices}
use Rattle.rules.proofs.Matrices.{both_true}
use Rattle.rules.proofs.ConeProduct.{sums_fit_lem}
use Rattle.shape.specs.Fitting.{operators_fit, fits_x, fits_y, Fits, LikeX, LikeY}
use Rattle.shape.proofs.Fitting.{sizes_within, operators_fit_lem, fits_of, x_fits, y_fits, like_x, like_y}
use Rattle.precond.specs.Precond.{problem_fits, Covers, precond_fits}

neither : (s t : Bool) → (s || not t) ≡ false → (s ≡ false) × (t ≡ true)
neither false true e = (refl, refl)
neither false false e = absurd (true≢false e)
neither true t e = absurd (true≢false e)

-- a list that is no BadCone for no more places than the limit has no block above it
pub list_fits_lem : {shape : Shape} {words : List ℕ} → Covers shape words → shape.rows.0 ≤ limit → sums_fit words shape.rows.0 ≡ true
unfolding is_bad_cone
list_fits_lem {shape} {words} l h =
    let p = neither (has_bad_word words) (eqb (total_places (blocks_of words)) shape.rows.0) l.is in
    sums_fit_lem words shape.rows.0 p.0 (eqb-true _ _ p.1) h

pub record AllFit (shape : Shape) (c : List Float) (a : Slices) (b : List Float) (words : List ℕ) (tau sigma : List Float) : Type 0 where
  pub operators : Fits shape c a b
  pub list : Covers shape words
  pub like_x : LikeX shape tau
  pub like_y : LikeY shape sigma

module _ (shape : Shape) (c : List Float) (a : Slices) (b : List Float) (words : List ℕ) (tau sigma : List Float) where
  pub all_fit : precond_fits shape c a b words tau sigma ≡ true → AllFit shape c a b words tau sigma
  all_fit h =
      let p = both_true (problem_fits shape c a b words && fits_x shape tau) (fits_y shape sigma) h in
      let q = both_true (problem_fits shape c a b words) (fits_x shape tau) p.0 in
      let r = both_true (operators_fit shape c a b) (not (is_bad_cone words shape.rows.0)) q.0 in
      record {
        operators = fits_of shape c a b r.0;
        list = record { is = not-true (is_bad_cone words shape.rows.0) r.1 };
        like_x = like_x shape tau q.1;
        like_y = like_y shape sigma p.1;
      }

-- for a caller whose lengths and list fit
module _ {shape : Shape} {c : List Float} {a : Slices} {b : List Float} {words : List ℕ} where
  pub problem_fits_lem : Fits shape c a b → Covers shape words → problem_fits shape c a b words ≡ true
  problem_fits_lem f l = rw (operators_fit_lem f, l.is)

  pub precond_fits_lem : {tau sigma : List Float} → Fits shape c a b → Covers shape words → LikeX shape tau → LikeY shape sigma → precond_fits shape c a b words tau sigma ≡ true
  precond_fits_lem f l x y = rw (problem_fits_lem f l, x_fits (sizes_within f) x) (y_fits (sizes_within f) y)
