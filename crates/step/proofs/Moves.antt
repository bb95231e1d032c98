-- Laws of a step's moves: a move of x, and one of y, from what its calls leave.
use Prim.Native.Nat.{ℕ, ◌+◌, ◌-◌, ◌≤◌}
use native.Mathlib.Omega.{arith}
use mathlib.Core.Path.{◌≡◌, sym, ◌∙◌}
use mathlib.Core.Bool.{Bool, ◌&&◌}
use mathlib.Core.List.{List, ◌++◌}
use borrow.Author.Tests.{eq-eqb}
use lib.Ieee.{Float, neg}
use lib.ListN.{length, take, drop, set}
use Rattle.rules.specs.declared.Shape.{Shape}
use Rattle.rules.specs.Helpers.{one, smaller}
use Rattle.rules.specs.Arithmetic.{◌-ᶠ◌, +0, at}
use Rattle.rules.specs.Outcome.{Outcome}
use Rattle.rules.specs.Problem.{Slices, embed_in, length_y}
use Rattle.rules.specs.Step.{op_k, trans_op_k}
use Rattle.rules.specs.Vectors.{same_length, added, transformed_di}
use Rattle.rules.proofs.Kernels.{add_ruled}
use Rattle.rules.proofs.Outcome.{ruled_if_fits}
use Rattle.rules.proofs.Parts.{put, from_start, part_length, drop_rest, put_part}
use Rattle.shape.specs.Fitting.{embed_fits, LikeX, LikeY}
use Rattle.shape.proofs.Fitting.{embed_fits_lem}
use Rattle.step.specs.Moves.{CanMoveX, XMoved, CanMoveY, YMoved}

-- a diagonal's kernel whose sizes fit
di_ruled : {y ruled : List Float} {answer : Bool} {after : List Float} (mat x : List Float) → Outcome (same_length mat y && same_length x y) ruled y answer after → length mat ≡ length y → length x ≡ length y → after ≡ ruled
di_ruled {y} mat x o h k = ruled_if_fits o (rw (eq-eqb (length mat) (length y) h) (eq-eqb (length x) (length y) k))

-- the first e places were lent and came back as ys
module _ (e : ℕ) (w ys : List Float) (inside : e ≤ length w) (as_many : length ys ≡ e) where
  front_put : put 0 e w ys ≡ ys ++ drop e w
  front_put = rw (drop_rest 0 e w (omega arith))

  front_part : take (e - 0) (drop 0 (put 0 e w ys)) ≡ ys
  front_part = put_part 0 e w ys (omega arith) inside (omega arith)

-- ---- what is left by the calls of a move, whose sizes fit, is the moved vectors

module _ {edition : ℕ} {shape : Shape} {c : List Float} {a : Slices} {b x y dp_tau rx tx : List Float} {copied transed moved : Bool} {rx₁ tx₁ x₁ : List Float} where
  pub x_moved : CanMoveX shape c a b x y dp_tau rx tx
      → Outcome (same_length x rx) x rx copied rx₁
      → Outcome (embed_fits shape c a b tx y) (trans_op_k (embed_in edition shape c a b) (neg one) y +0 tx) tx transed tx₁ → length tx₁ ≡ length tx
      → Outcome (same_length dp_tau x && same_length tx₁ x) (transformed_di one dp_tau tx₁ one x) x moved x₁
      → XMoved (embed_in edition shape c a b) x y dp_tau tx x₁ rx₁ tx₁
  x_moved f copies transes kept moves =
      let second = ruled_if_fits transes (embed_fits_lem f.operators f.tx_like f.y_like) in
      let third = di_ruled dp_tau tx₁ moves (f.tau_like.is ∙ sym f.x_like.is) (kept ∙ f.tx_like.is ∙ sym f.x_like.is) in
      record { tx_is = second; rx_is = add_ruled x copies (f.x_like.is ∙ sym f.rx_like.is); x_is = third ∙ rw second }

-- the front of tx, which is lent for the operator's values, ends there
abbrev front_end : Shape → ℕ
front_end shape = length_y shape.rows.0 shape.cols.0

module _ {edition : ℕ} {shape : Shape} {c : List Float} {a : Slices} {b x y dp_sigma rx tx : List Float} {summed opped moved : Bool} {rx₁ ty y₁ : List Float} {last : Float} where
  pub y_moved : CanMoveY shape c a b x y dp_sigma rx tx
      → Outcome (same_length x rx) (added (neg one -ᶠ one) x rx) rx summed rx₁ → length rx₁ ≡ length rx
      → Outcome (embed_fits shape c a b rx₁ (take (front_end shape - 0) (drop 0 tx))) (op_k (embed_in edition shape c a b) (neg one) rx₁ +0 (take (front_end shape - 0) (drop 0 tx))) (take (front_end shape - 0) (drop 0 tx)) opped ty → length ty ≡ length (take (front_end shape - 0) (drop 0 tx))
      → Outcome (same_length dp_sigma y && same_length (take (front_end shape - 0) (drop 0 (put 0 (front_end shape) tx ty))) y) (transformed_di one dp_sigma (take (front_end shape - 0) (drop 0 (put 0 (front_end shape) tx ty))) one y) y moved y₁
      → last ≡ smaller (at y₁ (shape.cols.0 + shape.rows.0)) +0
      → YMoved (embed_in edition shape c a b) x y dp_sigma rx tx (set y₁ (shape.cols.0 + shape.rows.0) last) rx₁ (put 0 (front_end shape) tx ty)
  y_moved f sums kept ops kept_front moves last_is =
      let e = front_end shape in
      let inside : e ≤ length tx = omega (arith, f.tx_like.is) in
      let lent_length : length (take e (drop 0 tx)) ≡ e = part_length 0 e tx (omega (arith, inside)) in
      let first = add_ruled x sums (f.x_like.is ∙ sym f.rx_like.is) in
      let old : LikeX shape rx₁ = record { is = kept ∙ f.rx_like.is } in
      let front : LikeY shape (take e (drop 0 tx)) = record { is = lent_length } in
      let second = rw first at (ruled_if_fits (rw (from_start e) at ops) (embed_fits_lem f.operators old front)) in
      let as_many : length ty ≡ e = rw (from_start e) at kept_front ∙ lent_length in
      let lent = front_part e tx ty inside as_many in
      let third = di_ruled dp_sigma (take (e - 0) (drop 0 (put 0 e tx ty))) moves (f.sigma_like.is ∙ sym f.y_like.is) (rw lent (omega (arith, as_many, f.y_like.is))) in
      record { rx_is = first; tx_is = front_put e tx ty inside as_many ∙ rw second; y_is = rw (last_is, third, lent, second) }
