-- `criteria::criteria_conv` meets its contract.
use Prim.Native.Nat.{◌+◌}
use native.Mathlib.Omega.{arith}
use mathlib.Core.Path.{◌≡◌, ◌∙◌}
use mathlib.Core.List.{List, [], ◌∷◌, ◌++◌}
use lib.Ieee.{Float, neg}
use lib.ListN.{length, drop}
use Rattle.rules.specs.Helpers.{one, magnitude, reciprocal}
use Rattle.rules.specs.Arithmetic.{◌+ᶠ◌, ◌/ᶠ◌, +0, at}
use Rattle.rules.specs.Matrices.{opped_by, trans_opped_by}
use Rattle.rules.specs.Problem.{Embed, column, embed_in, slices}
use Rattle.rules.specs.Step.{part}
use Rattle.rules.specs.declared.Norms.{Norms}
use Rattle.rules.specs.declared.Criteria.TheVariants.{Conv}
use Rattle.rules.specs.Vectors.{norm_by}
use Rattle.rules.specs.Criteria.{tau_of, primal_residual, dual_residual, gap, converging}
use Rattle.rules.proofs.Parts.{put, lent_2, first_put, next_put}
use Rattle.criteria.proofs.criteria_conv.Goals as goal

module _ (k : Embed) (x : List Float) (scale : Float) (is : scale ≡ reciprocal (tau_of k x)) where
  primal_is : (p : List Float) → p ≡ opped_by k.edition k.t scale k.a (part 0 k.n x) one (opped_by k.edition (column k.m) (neg one) k.b (one ∷ []) scale (part (k.n + k.m) k.m x)) → p ≡ primal_residual k x
  unfolding primal_residual
  primal_is p h = h ∙ rw is

  dual_is : (d q : List Float) → q ≡ trans_opped_by k.edition k.t scale k.a (part k.n k.m x) one (opped_by k.edition (column k.n) one k.c (one ∷ []) +0 d) → q ≡ dual_residual k x d
  unfolding dual_residual
  dual_is d q h = h ∙ rw is

  gap_is : (gx gy : Float) → gx ≡ at (trans_opped_by k.edition (column k.n) scale k.c (part 0 k.n x) +0 (one ∷ [])) 0
      → gy ≡ at (trans_opped_by k.edition (column k.m) scale k.b (part k.n k.m x) +0 (trans_opped_by k.edition (column k.n) scale k.c (part 0 k.n x) +0 (one ∷ []))) 0
      → magnitude (gx +ᶠ gy) /ᶠ (one +ᶠ magnitude gx +ᶠ magnitude gy) ≡ gap k x
  unfolding gap
  gap_is gx gy hx hy = rw (hx, hy, is)

conv_is : (k : Embed) (ns : Norms) (x rx p q : List Float) (np nq g : Float) → p ≡ primal_residual k x → q ≡ dual_residual k x (part k.m k.n rx) → np ≡ norm_by k.edition p → nq ≡ norm_by k.edition q → g ≡ gap k x → (rx' : List Float) → rx' ≡ p ++ q ++ drop (k.m + k.n) rx → record { says : Conv (np /ᶠ (one +ᶠ ns.b)) (nq /ᶠ (one +ᶠ ns.c)) g ≡ (converging k ns x rx).criteria; rx_left : rx' ≡ (converging k ns x rx).rx }
unfolding converging
conv_is k ns x rx p q np nq g hp hq hnp hnq hg rx' both = record { says = rw (hnp, hnq, hp, hq, hg); rx_left = both ∙ rw (hp, hq) }

pub returns : goal.returns
unfolding one
returns c = let e = embed_in c.args.edition c.args.shape c.args.c.now (slices c.args.a1.now c.args.a2.now) c.args.b.now in
    let p_length : length c.primal_residual-pri.new.p ≡ c.args.shape.rows.0 = omega (arith, c.requires, c.primal_residual-pri.auto) in
    let q_length : length c.dual_residual-dual.new.d ≡ c.args.shape.cols.0 = omega (arith, c.requires, c.dual_residual-dual.auto) in
    let pri = primal_is e c.args.x.now c.reciprocal-scale.result c.reciprocal-scale.ensures c.primal_residual-pri.new.p c.primal_residual-pri.ensures.p_left in
    let dual = dual_is e c.args.x.now c.reciprocal-scale.result c.reciprocal-scale.ensures (part c.args.shape.rows.0 c.args.shape.cols.0 c.args.rx.now) c.dual_residual-dual.new.d (rw (lent_2 c.args.shape.rows.0 c.args.shape.cols.0 1 c.args.rx.now c.primal_residual-pri.new.p c.dual_residual-dual.new.d p_length q_length) at c.dual_residual-dual.ensures.d_left) in
    let both : put c.args.shape.rows.0 (c.args.shape.rows.0 + c.args.shape.cols.0) (put 0 c.args.shape.rows.0 c.args.rx.now c.primal_residual-pri.new.p) c.dual_residual-dual.new.d ≡ c.primal_residual-pri.new.p ++ c.dual_residual-dual.new.d ++ drop (c.args.shape.rows.0 + c.args.shape.cols.0) c.args.rx.now = rw (first_put c.args.shape.rows.0 c.args.shape.cols.0 1 c.args.rx.now c.primal_residual-pri.new.p c.dual_residual-dual.new.d p_length q_length) (next_put c.args.shape.rows.0 (c.args.shape.rows.0 + c.args.shape.cols.0) c.primal_residual-pri.new.p c.args.rx.now p_length (omega arith) c.dual_residual-dual.new.d) in
    let g = c.gap.ensures ∙ gap_is e c.args.x.now c.reciprocal-scale.result c.reciprocal-scale.ensures c.objectives-g.result.cx c.objectives-g.result.by c.objectives-g.ensures.of_x c.objectives-g.ensures.of_y in
    conv_is e c.args.norms c.args.x.now c.args.rx.now c.primal_residual-pri.new.p c.dual_residual-dual.new.d _ _ _ pri dual c.primal_residual-pri.ensures.is_norm c.dual_residual-dual.ensures.is_norm g _ both
