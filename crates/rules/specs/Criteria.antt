-- Document 01, "One step, in order": "Then come the criteria of criteria_conv or criteria_inf, which write scratch."
use Rattle.std.specs.Prelude.{◌+◌, false, cond, List, [], ◌∷◌, ◌++◌, Float, drop}
use Rattle.std.specs.Float.{inf}
use Rattle.std.specs.Float.Ieee.{lt, neg, add, mul, div}
use Rattle.rules.specs.declared.Criteria.{Criteria}
use Rattle.rules.specs.declared.Criteria.TheVariants.{Conv, Inf}
use Rattle.rules.specs.declared.Norms.{Norms}
use Rattle.rules.specs.Helpers.{one, magnitude, reciprocal}
use Rattle.rules.specs.Arithmetic.{◌+ᶠ◌, ◌*ᶠ◌, ◌/ᶠ◌, +0, at}
use Rattle.rules.specs.Vectors.{norm_by}
use Rattle.rules.specs.Matrices.{opped_by, trans_opped_by}
use Rattle.rules.specs.Problem.{Embed}
use Rattle.rules.specs.Step.{x_x, x_y, x_s, part, a_op, a_trans, b_op, b_trans, c_op, c_trans}

-- the number tau
abbrev pub tau_of : Embed → List Float → Float
tau_of k x = at x (k.n + k.m + k.m)

-- p and d of the Rust, which stand at the front of rx
abbrev pub with_residuals : List Float → List Float → Embed → List Float → List Float
with_residuals pri dual k rx = pri ++ dual ++ drop (k.m + k.n) rx

-- ---- criteria_conv

module _ (k : Embed) (x : List Float) where
  unfoldable pub primal_residual : List Float
  unfolding opped_by one neg reciprocal
  primal_residual =
      let scale = reciprocal (tau_of k x) in
      a_op k scale (x_x k x) one (b_op k (neg one) (one ∷ []) scale (x_s k x))

  unfoldable pub dual_residual : List Float → List Float
  unfolding opped_by trans_opped_by one reciprocal
  dual_residual d = a_trans k (reciprocal (tau_of k x)) (x_y k x) one (c_op k one (one ∷ []) +0 d)

  -- the one-place vector starts at 1, and the second product multiplies what the first left by 0
  unfoldable pub gap_x : List Float
  unfolding trans_opped_by one reciprocal
  gap_x = c_trans k (reciprocal (tau_of k x)) (x_x k x) +0 (one ∷ [])

  unfoldable pub gap_y : List Float
  unfolding trans_opped_by gap_x reciprocal
  gap_y = b_trans k (reciprocal (tau_of k x)) (x_y k x) +0 gap_x

  unfoldable pub gap : Float
  unfolding gap_x gap_y magnitude one add div
  gap =
      let gx = at gap_x 0 in
      let gy = at gap_y 0 in
      magnitude (gx +ᶠ gy) /ᶠ (one +ᶠ magnitude gx +ᶠ magnitude gy)

-- ---- criteria_inf

module _ (k : Embed) (x : List Float) where
  unfoldable pub ray : List Float
  unfolding opped_by one
  ray = a_op k one (x_x k x) one (x_s k x)

  unfoldable pub dual_ray : List Float → List Float
  unfolding trans_opped_by one
  dual_ray d = a_trans k one (x_y k x) +0 d

  -- the one-place vector starts at 0
  unfoldable pub minus_c_x : List Float
  unfolding trans_opped_by one neg
  minus_c_x = c_trans k (neg one) (x_x k x) +0 (+0 ∷ [])

  unfoldable pub minus_b_y : List Float
  unfolding trans_opped_by minus_c_x one neg
  minus_b_y = b_trans k (neg one) (x_y k x) +0 minus_c_x

-- a norm times another, over a number above eps_zero; infinite if it is not above
unfoldable pub ratio : Float → Float → Float → Float → Float
unfolding lt mul div
ratio eps residual normed by = cond (lt eps by) (residual *ᶠ normed /ᶠ by) (inf false)

-- ---- what a step's criteria say, and what they leave in rx

pub record Judged : Type 0 where
  pub criteria : Criteria
  pub rx : List Float

-- where tau is above eps_zero, and where it is not
unfoldable pub converging : Embed → Norms → List Float → List Float → Judged
unfolding primal_residual dual_residual gap norm_by add div one
converging k ns x rx =
    let pri = primal_residual k x in
    let dual = dual_residual k x (part k.m k.n rx) in
    record {
      criteria = Conv (norm_by k.edition pri /ᶠ (one +ᶠ ns.b)) (norm_by k.edition dual /ᶠ (one +ᶠ ns.c)) (gap k x);
      rx = with_residuals pri dual k rx;
    }

unfoldable pub diverging : Embed → Float → Norms → List Float → List Float → Judged
unfolding ray dual_ray minus_c_x minus_b_y ratio norm_by
diverging k eps ns x rx =
    let pri = ray k x in
    let dual = dual_ray k x (part k.m k.n rx) in
    record {
      criteria = Inf (ratio eps (norm_by k.edition pri) ns.c (at (minus_c_x k x) 0)) (ratio eps (norm_by k.edition dual) ns.b (at (minus_b_y k x) 0));
      rx = with_residuals pri dual k rx;
    }

unfoldable pub judged : Embed → Float → Norms → List Float → List Float → Judged
unfolding converging diverging lt
judged k eps ns x rx = cond (lt eps (tau_of k x)) (converging k ns x rx) (diverging k eps ns x rx)
