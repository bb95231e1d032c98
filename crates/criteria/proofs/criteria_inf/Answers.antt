-- `criteria::criteria_inf` meets its contract.
use Prim.Native.Nat.{◌+◌}
use native.Mathlib.Omega.{arith}
use mathlib.Core.Path.{◌≡◌, refl, ◌∙◌}
use mathlib.Core.List.{List, [], ◌∷◌, ◌++◌}
use lib.Ieee.{Float, neg}
use lib.ListN.{length, drop}
use Rattle.rules.specs.Helpers.{one}
use Rattle.rules.specs.Arithmetic.{+0, at}
use Rattle.rules.specs.Matrices.{opped_by, trans_opped_by}
use Rattle.rules.specs.Problem.{Embed, column, embed_in, slices}
use Rattle.rules.specs.Step.{part}
use Rattle.rules.specs.declared.Norms.{Norms}
use Rattle.rules.specs.declared.Criteria.TheVariants.{Inf}
use Rattle.rules.specs.Vectors.{norm_by}
use Rattle.rules.specs.Criteria.{ray, dual_ray, minus_c_x, minus_b_y, ratio, diverging}
use Rattle.rules.proofs.Parts.{put, lent_2, first_put, next_put}
use Rattle.criteria.proofs.criteria_inf.Goals as goal

module _ (k : Embed) (x : List Float) where
  ray_is : (p : List Float) → p ≡ opped_by k.edition k.t one k.a (part 0 k.n x) one (part (k.n + k.m) k.m x) → p ≡ ray k x
  unfolding ray
  ray_is p h = h

  dual_is : (d q : List Float) → q ≡ trans_opped_by k.edition k.t one k.a (part k.n k.m x) +0 d → q ≡ dual_ray k x d
  unfolding dual_ray
  dual_is d q h = h

  of_x : trans_opped_by k.edition (column k.n) (neg one) k.c (part 0 k.n x) +0 (+0 ∷ []) ≡ minus_c_x k x
  unfolding minus_c_x
  of_x = refl

  of_y : trans_opped_by k.edition (column k.m) (neg one) k.b (part k.n k.m x) +0 (trans_opped_by k.edition (column k.n) (neg one) k.c (part 0 k.n x) +0 (+0 ∷ [])) ≡ minus_b_y k x
  unfolding minus_b_y
  of_y = refl

inf_is : (k : Embed) (eps : Float) (ns : Norms) (x rx p q : List Float) (u v : Float) → p ≡ ray k x → q ≡ dual_ray k x (part k.m k.n rx) → u ≡ ratio eps (norm_by k.edition p) ns.c (at (minus_c_x k x) 0) → v ≡ ratio eps (norm_by k.edition q) ns.b (at (minus_b_y k x) 0) → (rx' : List Float) → rx' ≡ p ++ q ++ drop (k.m + k.n) rx → record { says : Inf u v ≡ (diverging k eps ns x rx).criteria; rx_left : rx' ≡ (diverging k eps ns x rx).rx }
unfolding diverging
inf_is k eps ns x rx p q u v hp hq hu hv rx' both = record { says = rw (hu, hv, hp, hq); rx_left = both ∙ rw (hp, hq) }

pub returns : goal.returns
unfolding one
returns c = let e = embed_in c.args.par.«edition» c.args.shape c.args.c.now (slices c.args.a1.now c.args.a2.now) c.args.b.now in
    let p_length : length c.ray-pri.new.p ≡ c.args.shape.rows.0 = omega (arith, c.requires, c.ray-pri.auto) in
    let q_length : length c.dual_ray-dual.new.d ≡ c.args.shape.cols.0 = omega (arith, c.requires, c.dual_ray-dual.auto) in
    let pri = ray_is e c.args.x.now c.ray-pri.new.p c.ray-pri.ensures.p_left in
    let dual = dual_is e c.args.x.now (part c.args.shape.rows.0 c.args.shape.cols.0 c.args.rx.now) c.dual_ray-dual.new.d (rw (lent_2 c.args.shape.rows.0 c.args.shape.cols.0 1 c.args.rx.now c.ray-pri.new.p c.dual_ray-dual.new.d p_length q_length) at c.dual_ray-dual.ensures.d_left) in
    let both : put c.args.shape.rows.0 (c.args.shape.rows.0 + c.args.shape.cols.0) (put 0 c.args.shape.rows.0 c.args.rx.now c.ray-pri.new.p) c.dual_ray-dual.new.d ≡ c.ray-pri.new.p ++ c.dual_ray-dual.new.d ++ drop (c.args.shape.rows.0 + c.args.shape.cols.0) c.args.rx.now = rw (first_put c.args.shape.rows.0 c.args.shape.cols.0 1 c.args.rx.now c.ray-pri.new.p c.dual_ray-dual.new.d p_length q_length) (next_put c.args.shape.rows.0 (c.args.shape.rows.0 + c.args.shape.cols.0) c.ray-pri.new.p c.args.rx.now p_length (omega arith) c.dual_ray-dual.new.d) in
    inf_is e c.args.par.eps_zero c.args.norms c.args.x.now c.args.rx.now c.ray-pri.new.p c.dual_ray-dual.new.d _ _ pri dual (c.ratio.ensures ∙ rw (c.ray-pri.ensures.is_norm, c.objectives-r.ensures.of_x, of_x e c.args.x.now)) (c.ratio-2.ensures ∙ rw (c.dual_ray-dual.ensures.is_norm, c.objectives-r.ensures.of_y, of_y e c.args.x.now)) _ both
