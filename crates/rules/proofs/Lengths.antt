-- The lengths of a run's state: an accepted problem's state starts with them, and every step keeps them.
use Prim.Native.Nat.{ℕ, zero, suc, ◌+◌}
use native.Mathlib.Omega.{arith}
use mathlib.Core.Path.{◌≡◌, refl, ◌∙◌}
use mathlib.Core.Bool.{Bool, true, false}
use mathlib.Core.List.{List, [], ◌∷◌, ◌++◌}
use lib.Ieee.{Float, lt, neg}
use lib.ListN.{length, take, drop, length-append, length-take, length-drop, length-set, length-replicate}
use lib.Seq.{length-take-le}
use Rattle.rules.specs.Helpers.{one, smaller, reciprocal}
use Rattle.rules.specs.Arithmetic.{◌-ᶠ◌, +0, at}
use Rattle.rules.specs.Vectors.{scaled, added, transformed_di}
use Rattle.rules.specs.Matrices.{stored_length, absadded_cols, absadded_rows}
use Rattle.rules.specs.Blocks.{total_places}
use Rattle.rules.specs.Product.{Passed, is_none, proj_all, group_all, cone_work}
use Rattle.rules.specs.Problem.{Problem, Embed, embed, matrix, column, blocks, length_x, length_y}
use Rattle.rules.specs.Step.{State, part, a_op, a_trans, b_op, c_op, c_trans, x_x, x_y, x_s, x_tau, y_n, y_m, y1, op_n, op_m, op1, op_k, trans_x, trans_y, trans_s, trans_tau, trans_op_k, moved_x, projected, tau_taken, moved_y, updated}
use Rattle.rules.specs.Criteria.{tau_of, with_residuals, primal_residual, dual_residual, ray, dual_ray, judged}
use Rattle.rules.specs.declared.Norms.{Norms}
use Rattle.rules.specs.Prepare.{zeros, diagonal, column_in, with_b, with_c, start_x, sums_x, sums_y, sums_s, sums_tau, grouped_x, dp_tau_of, dp_sigma_of, prepared, prepared_norms}
use Rattle.rules.specs.Run.{whole_step, state_from, run}
use Rattle.rules.specs.Demands.{state_after}
use Rattle.rules.proofs.KernelLengths.{scaled-length, added-length, shifted-length, transformed_di-length, diagonal-length, opped-length, trans_opped-length, absadded_cols-length, absadded_rows-length, group_all-length, PassKeeps, pass_keeps}
use Rattle.rules.proofs.Parts.{part_length}
use Rattle.rules.proofs.Run.{ends_first}

-- ---- the sizes

-- what the tests of lengths and cones establish
pub record Fitting (p : Problem) : Type 0 where
  pub c : length p.c ≡ p.n
  pub a : length p.a ≡ stored_length (matrix p)
  pub b : length p.b ≡ p.m
  pub blocks : total_places (blocks p) ≡ p.m

pub record Sized (p : Problem) (s : State) : Type 0 where
  pub x : length s.x ≡ length_x p.m p.n
  pub y : length s.y ≡ length_y p.m p.n
  pub dp_tau : length s.dp_tau ≡ length_x p.m p.n
  pub dp_sigma : length s.dp_sigma ≡ length_y p.m p.n
  pub rx : length s.rx ≡ length_x p.m p.n
  pub tx : length s.tx ≡ length_x p.m p.n
  pub cone : length s.cone ≡ cone_work (blocks p)

-- ---- the places of a vector like x, and of one like y

module _ (k : Embed) (v : List Float) (h : length v ≡ length_x k.m k.n) where
  pub x_x-length : length (x_x k v) ≡ k.n
  x_x-length = part_length 0 k.n v (omega arith)

  pub x_y-length : length (x_y k v) ≡ k.m
  x_y-length = part_length k.n k.m v (omega arith)

  pub x_s-length : length (x_s k v) ≡ k.m
  x_s-length = part_length (k.n + k.m) k.m v (omega arith)

  pub x_tau-length : length (x_tau k v) ≡ 1
  x_tau-length = part_length (k.n + k.m + k.m) 1 v (omega arith)

module _ (k : Embed) (v : List Float) (h : length v ≡ length_y k.m k.n) where
  pub y_n-length : length (y_n k v) ≡ k.n
  y_n-length = part_length 0 k.n v (omega arith)

  pub y_m-length : length (y_m k v) ≡ k.m
  y_m-length = part_length k.n k.m v (omega arith)

  pub y1-length : length (y1 k v) ≡ 1
  y1-length = part_length (k.n + k.m) 1 v (omega arith)

-- ---- the operator of the embedding

module _ (k : Embed) (alpha : Float) (y : List Float) (beta : Float) (x : List Float) where
  trans_x-length : length (trans_x k alpha y beta x) ≡ length (x_x k x)
  unfolding trans_x
  trans_x-length =
      opped-length k.edition (column k.n) (neg alpha) k.c (y1 k y) one (a_trans k (neg alpha) (y_m k y) beta (x_x k x))
      ∙ trans_opped-length k.edition k.t (neg alpha) k.a (y_m k y) beta (x_x k x)

  trans_y-length : length (trans_y k alpha y beta x) ≡ length (x_y k x)
  unfolding trans_y
  trans_y-length =
      opped-length k.edition (column k.m) (neg alpha) k.b (y1 k y) one (a_op k alpha (y_n k y) beta (x_y k x))
      ∙ opped-length k.edition k.t alpha k.a (y_n k y) beta (x_y k x)

  trans_s-length : length (trans_s k alpha y beta x) ≡ length (x_s k x)
  unfolding trans_s
  trans_s-length = added-length (neg alpha) (y_m k y) (scaled beta (x_s k x)) ∙ scaled-length beta (x_s k x)

  trans_tau-length : length (trans_tau k alpha y beta x) ≡ length (x_tau k x)
  unfolding trans_tau
  trans_tau-length =
      trans_opped-length k.edition (column k.m) alpha k.b (y_m k y) one (c_trans k alpha (y_n k y) beta (x_tau k x))
      ∙ trans_opped-length k.edition (column k.n) alpha k.c (y_n k y) beta (x_tau k x)

  pub trans_op_k-length : length x ≡ length_x k.m k.n → length (trans_op_k k alpha y beta x) ≡ length_x k.m k.n
  trans_op_k-length h =
      simp (length-append, trans_x-length, trans_y-length, trans_s-length, trans_tau-length) (omega (arith, x_x-length k x h, x_y-length k x h, x_s-length k x h, x_tau-length k x h))

module _ (k : Embed) (alpha : Float) (x : List Float) (beta : Float) (y : List Float) where
  op_n-length : length (op_n k alpha x beta y) ≡ length (y_n k y)
  unfolding op_n
  op_n-length =
      opped-length k.edition (column k.n) alpha k.c (x_tau k x) one (a_trans k alpha (x_y k x) beta (y_n k y))
      ∙ trans_opped-length k.edition k.t alpha k.a (x_y k x) beta (y_n k y)

  op_m-length : length (op_m k alpha x beta y) ≡ length (y_m k y)
  unfolding op_m
  op_m-length =
      opped-length k.edition (column k.m) alpha k.b (x_tau k x) one (added (neg alpha) (x_s k x) (a_op k (neg alpha) (x_x k x) beta (y_m k y)))
      ∙ added-length (neg alpha) (x_s k x) (a_op k (neg alpha) (x_x k x) beta (y_m k y))
      ∙ opped-length k.edition k.t (neg alpha) k.a (x_x k x) beta (y_m k y)

  op1-length : length (op1 k alpha x beta y) ≡ length (y1 k y)
  unfolding op1
  op1-length =
      trans_opped-length k.edition (column k.m) (neg alpha) k.b (x_y k x) one (c_trans k (neg alpha) (x_x k x) beta (y1 k y))
      ∙ trans_opped-length k.edition (column k.n) (neg alpha) k.c (x_x k x) beta (y1 k y)

  pub op_k-length : length y ≡ length_y k.m k.n → length (op_k k alpha x beta y) ≡ length_y k.m k.n
  op_k-length h = simp (length-append, op_n-length, op_m-length, op1-length) (omega (arith, y_n-length k y h, y_m-length k y h, y1-length k y h))

-- ---- a step

pub moved_x-sized : (p : Problem) (s : State) → Sized p s → Sized p (moved_x p s)
unfolding moved_x
moved_x-sized p s h =
    record {
      x = transformed_di-length one s.dp_tau (trans_op_k (embed p) (neg one) s.y +0 s.tx) one s.x ∙ h.x;
      y = h.y;
      dp_tau = h.dp_tau;
      dp_sigma = h.dp_sigma;
      rx = h.x;
      tx = trans_op_k-length (embed p) (neg one) s.y +0 s.tx h.tx;
      cone = h.cone;
    }

pub record ProjectedSized (p : Problem) (q : Passed) : Type 0 where
  pub x : length q.cone ≡ length_x p.m p.n
  pub cone : length q.work ≡ cone_work (blocks p)

pub projected-sized : (p : Problem) (x cone : List Float) → Fitting p → length x ≡ length_x p.m p.n → length cone ≡ cone_work (blocks p) → ProjectedSized p (projected p x cone)
unfolding projected
projected-sized p x cone fit h k = go (is_none dual.failure) refl
  where
    dual : Passed
    dual = proj_all p.par true (blocks p) (x_y (embed p) x) cone

    x' : List Float
    x' = x_x (embed p) x ++ dual.cone ++ drop (p.n + p.m) x

    primal : Passed
    primal = proj_all p.par false (blocks p) (x_s (embed p) x') dual.work

    dual_keeps : PassKeeps (blocks p) (x_y (embed p) x) cone dual
    dual_keeps = pass_keeps p.par true (blocks p) (x_y (embed p) x) cone (omega (arith, x_y-length (embed p) x h))

    dual_cone : length dual.cone ≡ p.m
    dual_cone = dual_keeps.cone ∙ x_y-length (embed p) x h

    dual_work : length dual.work ≡ cone_work (blocks p)
    dual_work = dual_keeps.work (omega arith) ∙ k

    x'_length : length x' ≡ length_x p.m p.n
    x'_length = simp (length-append, length-drop) (omega (arith, x_x-length (embed p) x h, dual_cone))

    primal_keeps : PassKeeps (blocks p) (x_s (embed p) x') dual.work primal
    primal_keeps = pass_keeps p.par false (blocks p) (x_s (embed p) x') dual.work (omega (arith, x_s-length (embed p) x' x'_length))

    primal_cone : length primal.cone ≡ p.m
    primal_cone = primal_keeps.cone ∙ x_s-length (embed p) x' x'_length

    both_cone : length (take (p.n + p.m) x' ++ primal.cone ++ drop (p.n + p.m + p.m) x') ≡ length_x p.m p.n
    both_cone =
        length-append (take (p.n + p.m) x' ++ primal.cone) (drop (p.n + p.m + p.m) x')
        ∙ omega (arith, length-append (take (p.n + p.m) x') primal.cone, length-take (p.n + p.m) x', length-drop (p.n + p.m + p.m) x', x'_length, primal_cone)

    go : (t : Bool) → is_none dual.failure ≡ t → ProjectedSized p (projected p x cone)
    go true e = rw e (record { x = both_cone; cone = primal_keeps.work (omega (arith, dual_work)) ∙ dual_work })
    go false e = rw e (record { x = x'_length; cone = dual_work })

pub tau_taken-length : (p : Problem) (x : List Float) → length (tau_taken p x) ≡ length x
unfolding tau_taken
tau_taken-length p x = simp length-set

pub moved_y-sized : (p : Problem) (s : State) → Sized p s → Sized p (moved_y p s)
unfolding moved_y
moved_y-sized p s h =
    let rx = added (neg one -ᶠ one) s.x s.rx in
    let ty = op_k (embed p) (neg one) rx +0 (take (length_y p.m p.n) s.tx) in
    let y = transformed_di one s.dp_sigma ty one s.y in
    let ty_length : length ty ≡ length_y p.m p.n = op_k-length (embed p) (neg one) rx +0 (take (length_y p.m p.n) s.tx) (length-take-le (length_y p.m p.n) s.tx (omega arith)) in
    record {
      x = h.x;
      y = length-set y (p.n + p.m) (smaller (at y (p.n + p.m)) +0) ∙ transformed_di-length one s.dp_sigma ty one s.y ∙ h.y;
      dp_tau = h.dp_tau;
      dp_sigma = h.dp_sigma;
      rx = added-length (neg one -ᶠ one) s.x s.rx ∙ h.rx;
      tx = length-append ty (drop (length_y p.m p.n) s.tx) ∙ omega (arith, ty_length, length-drop (length_y p.m p.n) s.tx, h.tx);
      cone = h.cone;
    }

pub updated-sized : (p : Problem) (s : State) → Fitting p → Sized p s → Sized p (updated p s).state
unfolding updated
updated-sized p s fit h =
    let s' = moved_x p s in
    let h' : Sized p s' = moved_x-sized p s h in
    let q = projected p s'.x s'.cone in
    let k : ProjectedSized p q = projected-sized p s'.x s'.cone fit h'.x h'.cone in
    moved_y-sized p (record { x = tau_taken p q.cone; y = s'.y; dp_tau = s'.dp_tau; dp_sigma = s'.dp_sigma; rx = s'.rx; tx = s'.tx; cone = q.work })
    (record { x = tau_taken-length p q.cone ∙ k.x; y = h'.y; dp_tau = h'.dp_tau; dp_sigma = h'.dp_sigma; rx = h'.rx; tx = h'.tx; cone = k.cone })

-- ---- the criteria

module _ (k : Embed) (x : List Float) where
  primal_residual-length : length (primal_residual k x) ≡ length (x_s k x)
  unfolding primal_residual
  primal_residual-length =
      let scale = reciprocal (tau_of k x) in
      opped-length k.edition k.t scale k.a (x_x k x) one (b_op k (neg one) (one ∷ []) scale (x_s k x))
      ∙ opped-length k.edition (column k.m) (neg one) k.b (one ∷ []) scale (x_s k x)

  dual_residual-length : (d : List Float) → length (dual_residual k x d) ≡ length d
  unfolding dual_residual
  dual_residual-length d =
      trans_opped-length k.edition k.t (reciprocal (tau_of k x)) k.a (x_y k x) one (c_op k one (one ∷ []) +0 d)
      ∙ opped-length k.edition (column k.n) one k.c (one ∷ []) +0 d

  ray-length : length (ray k x) ≡ length (x_s k x)
  unfolding ray
  ray-length = opped-length k.edition k.t one k.a (x_x k x) one (x_s k x)

  dual_ray-length : (d : List Float) → length (dual_ray k x d) ≡ length d
  unfolding dual_ray
  dual_ray-length d = trans_opped-length k.edition k.t one k.a (x_y k x) +0 d

-- p and d stand at the front of rx
pub with_residuals-length : (pri dual : List Float) (k : Embed) (rx : List Float) → length pri ≡ k.m → length dual ≡ k.n → length rx ≡ length_x k.m k.n → length (with_residuals pri dual k rx) ≡ length_x k.m k.n
with_residuals-length pri dual k rx hp hd h = simp (length-append, length-drop) (omega arith)

pub judged-length : (k : Embed) (eps : Float) (ns : Norms) (x rx : List Float) → length x ≡ length_x k.m k.n → length rx ≡ length_x k.m k.n → length (judged k eps ns x rx).rx ≡ length_x k.m k.n
unfolding judged
judged-length k eps ns x rx h l = go (lt eps (tau_of k x)) refl
  where
    d : List Float
    d = part k.m k.n rx

    d_length : length d ≡ k.n
    d_length = part_length k.m k.n rx (omega arith)

    go : (t : Bool) → lt eps (tau_of k x) ≡ t → length (judged k eps ns x rx).rx ≡ length_x k.m k.n
    go true e =
        rw e
        (with_residuals-length (primal_residual k x) (dual_residual k x d) k rx (primal_residual-length k x ∙ x_s-length k x h) (dual_residual-length k x d ∙ d_length) l)
    go false e =
        rw e
        (with_residuals-length (ray k x) (dual_ray k x d) k rx (ray-length k x ∙ x_s-length k x h) (dual_ray-length k x d ∙ d_length) l)

-- ---- a whole step

pub whole_step-sized : (p : Problem) (ns : Norms) (s : State) → Fitting p → Sized p s → Sized p (whole_step p ns s).state
unfolding whole_step
whole_step-sized p ns s fit h =
    let v = (updated p s).state in
    let k : Sized p v = updated-sized p s fit h in
    record {
      x = k.x;
      y = k.y;
      dp_tau = k.dp_tau;
      dp_sigma = k.dp_sigma;
      rx = judged-length (embed p) p.par.eps_zero ns v.x v.rx k.x k.rx;
      tx = k.tx;
      cone = k.cone;
    }

-- ---- what stands before the first step

column_in-length : (edition rows : ℕ) (v t : List Float) → length (column_in edition rows v t) ≡ length t
unfolding column_in
column_in-length edition rows v t = opped-length edition (column rows) one v (one ∷ []) +0 t

pub with_b-length : (k : Embed) (x : List Float) → length (with_b k x) ≡ length x
unfolding with_b
with_b-length k x =
    length-append (column_in k.edition k.m k.b (take k.m x)) (drop k.m x)
    ∙ omega (arith, column_in-length k.edition k.m k.b (take k.m x), length-take k.m x, length-drop k.m x)

pub with_c-length : (k : Embed) (x : List Float) → length (with_c k x) ≡ length x
unfolding with_c
with_c-length k x =
    length-append (column_in k.edition k.n k.c (take k.n x)) (drop k.n x)
    ∙ omega (arith, column_in-length k.edition k.n k.c (take k.n x), length-take k.n x, length-drop k.n x)

pub start_x-length : (k : Embed) (x : List Float) → length (start_x k x) ≡ length x
unfolding start_x
start_x-length k x =
    length-set (scaled +0 (with_c k (with_b k x))) (k.n + k.m + k.m) one
    ∙ scaled-length +0 (with_c k (with_b k x))
    ∙ with_c-length k (with_b k x)
    ∙ with_b-length k x

module _ (k : Embed) (t : List Float) (h : length t ≡ length_x k.m k.n) where
  pub sums_x-length : length (sums_x k t) ≡ k.n
  unfolding sums_x
  sums_x-length =
      absadded_rows-length (column k.n) k.c (absadded_cols k.t k.a (x_x k t))
      ∙ absadded_cols-length k.t k.a (x_x k t)
      ∙ x_x-length k t h

  pub sums_y-length : length (sums_y k t) ≡ k.m
  unfolding sums_y
  sums_y-length =
      absadded_rows-length (column k.m) k.b (absadded_rows k.t k.a (x_y k t))
      ∙ absadded_rows-length k.t k.a (x_y k t)
      ∙ x_y-length k t h

  pub sums_s-length : length (sums_s k t) ≡ k.m
  unfolding sums_s
  sums_s-length = shifted-length one (x_s k t) ∙ x_s-length k t h

  pub sums_tau-length : length (sums_tau k t) ≡ 1
  unfolding sums_tau
  sums_tau-length =
      absadded_cols-length (column k.m) k.b (absadded_cols (column k.n) k.c (x_tau k t))
      ∙ absadded_cols-length (column k.n) k.c (x_tau k t)
      ∙ x_tau-length k t h

pub grouped_x-length : (p : Problem) (d : List Float) → length d ≡ length_x p.m p.n → length (grouped_x p d) ≡ length_x p.m p.n
unfolding grouped_x
grouped_x-length p d h =
    length-append (x_x (embed p) d ++ group_all (blocks p) (x_y (embed p) d) ++ group_all (blocks p) (x_s (embed p) d)) (x_tau (embed p) d)
    ∙ omega (arith, length-append (x_x (embed p) d ++ group_all (blocks p) (x_y (embed p) d)) (group_all (blocks p) (x_s (embed p) d)), length-append (x_x (embed p) d) (group_all (blocks p) (x_y (embed p) d)), group_all-length (blocks p) (x_y (embed p) d), group_all-length (blocks p) (x_s (embed p) d), x_x-length (embed p) d h, x_y-length (embed p) d h, x_s-length (embed p) d h, x_tau-length (embed p) d h)

pub dp_tau_of-length : (p : Problem) (tau : List Float) → length tau ≡ length_x p.m p.n → length (dp_tau_of p tau) ≡ length_x p.m p.n
unfolding dp_tau_of
dp_tau_of-length p tau h =
    let t = scaled +0 tau in
    let k : length t ≡ length_x p.m p.n = scaled-length +0 tau ∙ h in
    let sums = sums_x (embed p) t ++ sums_y (embed p) t ++ sums_s (embed p) t ++ sums_tau (embed p) t in
    let l : length sums ≡ length_x p.m p.n =
    length-append (sums_x (embed p) t ++ sums_y (embed p) t ++ sums_s (embed p) t) (sums_tau (embed p) t)
    ∙ omega (arith, length-append (sums_x (embed p) t ++ sums_y (embed p) t) (sums_s (embed p) t), length-append (sums_x (embed p) t) (sums_y (embed p) t), sums_x-length (embed p) t k, sums_y-length (embed p) t k, sums_s-length (embed p) t k, sums_tau-length (embed p) t k) in
    grouped_x-length p (diagonal p.par.eps_zero sums) (diagonal-length p.par.eps_zero sums ∙ l)

pub dp_sigma_of-length : (p : Problem) (tau : List Float) → length tau ≡ length_x p.m p.n → length (dp_sigma_of p tau) ≡ length_y p.m p.n
unfolding dp_sigma_of
dp_sigma_of-length p tau h =
    let t = scaled +0 tau in
    let k : length t ≡ length_x p.m p.n = scaled-length +0 tau ∙ h in
    let middle = added one (sums_s (embed p) t) (sums_y (embed p) t) in
    diagonal-length p.par.eps_zero (sums_x (embed p) t ++ middle ++ sums_tau (embed p) t)
    ∙ length-append (sums_x (embed p) t ++ middle) (sums_tau (embed p) t)
    ∙ omega (arith, length-append (sums_x (embed p) t) middle, added-length one (sums_s (embed p) t) (sums_y (embed p) t), sums_x-length (embed p) t k, sums_y-length (embed p) t k, sums_tau-length (embed p) t k)

pub prepared-sized : (p : Problem) → Sized p (prepared p)
unfolding prepared
prepared-sized p =
    let long_x = zeros (length_x p.m p.n) in
    let long_y = zeros (length_y p.m p.n) in
    let hx : length long_x ≡ length_x p.m p.n = length-replicate (length_x p.m p.n) +0 in
    let hy : length long_y ≡ length_y p.m p.n = length-replicate (length_y p.m p.n) +0 in
    record {
      x = start_x-length (embed p) long_x ∙ hx;
      y = scaled-length +0 long_y ∙ hy;
      dp_tau = dp_tau_of-length p long_x hx;
      dp_sigma = dp_sigma_of-length p long_x hx;
      rx = hx;
      tx = hx;
      cone = length-replicate (cone_work (blocks p)) +0;
    }

-- ---- all the steps

pub sized_from : (p : Problem) (ns : Norms) (s : State) → Fitting p → Sized p s → (k : ℕ) → Sized p (state_from p ns s k)
unfolding state_from
sized_from p ns s fit h zero = h
sized_from p ns s fit h (suc k) = whole_step-sized p ns (state_from p ns s k) fit (sized_from p ns s fit h k)

pub states_sized : (p : Problem) → Fitting p → (k : ℕ) → Sized p (state_after p k)
states_sized p fit k = sized_from p (prepared_norms p) (prepared p) fit (prepared-sized p) k

pub run-sized : (p : Problem) → Fitting p → Sized p (run p).state
run-sized p fit = rw (ends_first p).state_there (states_sized p fit (run p).steps)
