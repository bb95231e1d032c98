-- Document 01, "One step, in order": solver.rs, SelfDualEmbed and update_vecs.
use Rattle.std.specs.Prelude.{ℕ, ◌+◌, true, false, cond, List, ◌++◌, Float, take, drop, set}
use Rattle.std.specs.Float.Ieee.{neg, sub}
use Rattle.rules.specs.Helpers.{one, larger, smaller}
use Rattle.rules.specs.Arithmetic.{◌-ᶠ◌, +0, at}
use Rattle.rules.specs.Vectors.{scaled, added, transformed_di}
use Rattle.rules.specs.Matrices.{opped_by, trans_opped_by}
use Rattle.rules.specs.Product.{Failure, Passed, proj_all, is_none}
use Rattle.rules.specs.Problem.{Problem, Embed, embed, column, blocks, length_y}

-- the part of k places from place i on
abbrev pub part : ℕ → ℕ → List Float → List Float
part i k v = take k (drop i v)

-- "Work holds x (n, dual m, primal m, tau), y (n, m, 1), two diagonals of these lengths, and scratch of 2(n+2m+1)": rx, then tx. Cone work stands beside it.
pub record State : Type 0 where
  pub x : List Float
  pub y : List Float
  pub dp_tau : List Float
  pub dp_sigma : List Float
  pub rx : List Float
  pub tx : List Float
  pub cone : List Float

-- the places of a vector like x, and of one like y
module _ (k : Embed) (v : List Float) where
  abbrev pub x_x : List Float
  x_x = part 0 k.n v

  abbrev pub x_y : List Float
  x_y = part k.n k.m v

  abbrev pub x_s : List Float
  x_s = part (k.n + k.m) k.m v

  abbrev pub x_tau : List Float
  x_tau = part (k.n + k.m + k.m) 1 v

  abbrev pub y_n : List Float
  y_n = part 0 k.n v

  abbrev pub y_m : List Float
  y_m = part k.n k.m v

  abbrev pub y1 : List Float
  y1 = part (k.n + k.m) 1 v

-- ---- the operator of the embedding

-- c, A and b, and the three transposed: alpha * (matrix times u) + beta * v
module _ (k : Embed) (alpha : Float) (u : List Float) (beta : Float) (v : List Float) where
  abbrev pub c_op : List Float
  c_op = opped_by k.edition (column k.n) alpha k.c u beta v

  abbrev pub a_op : List Float
  a_op = opped_by k.edition k.t alpha k.a u beta v

  abbrev pub b_op : List Float
  b_op = opped_by k.edition (column k.m) alpha k.b u beta v

  abbrev pub c_trans : List Float
  c_trans = trans_opped_by k.edition (column k.n) alpha k.c u beta v

  abbrev pub a_trans : List Float
  a_trans = trans_opped_by k.edition k.t alpha k.a u beta v

  abbrev pub b_trans : List Float
  b_trans = trans_opped_by k.edition (column k.m) alpha k.b u beta v

-- SelfDualEmbed::op, from a vector like x to one like y: what each part of it becomes, from what it holds
module _ (k : Embed) (alpha : Float) (x : List Float) (beta : Float) (v : List Float) where
  abbrev pub on_n : List Float
  on_n = c_op k alpha (x_tau k x) one (a_trans k alpha (x_y k x) beta v)

  abbrev pub on_m : List Float
  on_m = b_op k alpha (x_tau k x) one (added (neg alpha) (x_s k x) (a_op k (neg alpha) (x_x k x) beta v))

  abbrev pub on1 : List Float
  on1 = b_trans k (neg alpha) (x_y k x) one (c_trans k (neg alpha) (x_x k x) beta v)

module _ (k : Embed) (alpha : Float) (x : List Float) (beta : Float) (y : List Float) where
  unfoldable pub op_n : List Float
  unfolding opped_by trans_opped_by one
  op_n = on_n k alpha x beta (y_n k y)

  unfoldable pub op_m : List Float
  unfolding opped_by added neg one
  op_m = on_m k alpha x beta (y_m k y)

  unfoldable pub op1 : List Float
  unfolding trans_opped_by neg one
  op1 = on1 k alpha x beta (y1 k y)

  abbrev pub op_k : List Float
  op_k = op_n ++ op_m ++ op1

-- SelfDualEmbed::trans_op, from a vector like y to one like x, in the same way
module _ (k : Embed) (alpha : Float) (y : List Float) (beta : Float) (v : List Float) where
  abbrev pub back_x : List Float
  back_x = c_op k (neg alpha) (y1 k y) one (a_trans k (neg alpha) (y_m k y) beta v)

  abbrev pub back_y : List Float
  back_y = b_op k (neg alpha) (y1 k y) one (a_op k alpha (y_n k y) beta v)

  abbrev pub back_s : List Float
  back_s = added (neg alpha) (y_m k y) (scaled beta v)

  abbrev pub back_tau : List Float
  back_tau = b_trans k alpha (y_m k y) one (c_trans k alpha (y_n k y) beta v)

module _ (k : Embed) (alpha : Float) (y : List Float) (beta : Float) (x : List Float) where
  unfoldable pub trans_x : List Float
  unfolding opped_by trans_opped_by neg one
  trans_x = back_x k alpha y beta (x_x k x)

  unfoldable pub trans_y : List Float
  unfolding opped_by neg one
  trans_y = back_y k alpha y beta (x_y k x)

  unfoldable pub trans_s : List Float
  unfolding added scaled neg
  trans_s = back_s k alpha y beta (x_s k x)

  unfoldable pub trans_tau : List Float
  unfolding trans_opped_by one
  trans_tau = back_tau k alpha y beta (x_tau k x)

  abbrev pub trans_op_k : List Float
  trans_op_k = trans_x ++ trans_y ++ trans_s ++ trans_tau

-- ---- update_vecs

-- "copies x aside, moves x by the transposed operator on y"
unfoldable pub moved_x : Problem → State → State
unfolding trans_x trans_y trans_s trans_tau transformed_di one neg
moved_x p s =
    let tx = trans_op_k (embed p) (neg one) s.y +0 s.tx in
    record {
      x = transformed_di one s.dp_tau tx one s.x;
      y = s.y;
      dp_tau = s.dp_tau;
      dp_sigma = s.dp_sigma;
      rx = s.x;
      tx = tx;
      cone = s.cone;
    }

-- "projects all dual blocks, then all primal blocks": x and cone work afterwards, the rotations, and the failure, at which it stops
unfoldable pub projected : Problem → List Float → List Float → Passed
unfolding proj_all
projected p x cone =
    let dual = proj_all p.par true (blocks p) (x_y (embed p) x) cone in
    let x' = x_x (embed p) x ++ dual.cone ++ drop (p.n + p.m) x in
    let primal = proj_all p.par false (blocks p) (x_s (embed p) x') dual.work in
    let both : Passed =
    record {
      cone = take (p.n + p.m) x' ++ primal.cone ++ drop (p.n + p.m + p.m) x';
      work = primal.work;
      rotations = dual.rotations + primal.rotations;
      failure = primal.failure;
    } in
    let stopped : Passed = record { cone = x'; work = dual.work; rotations = dual.rotations; failure = dual.failure } in
    cond (is_none dual.failure) both stopped

-- "takes the larger of tau and 0"
unfoldable pub tau_taken : Problem → List Float → List Float
unfolding larger
tau_taken p x = set x (p.n + p.m + p.m) (larger (at x (p.n + p.m + p.m)) +0)

-- "forms x_old − 2·x_new, moves y, and takes the smaller of y's last and 0"
unfoldable pub moved_y : Problem → State → State
unfolding op_n op_m op1 added transformed_di smaller one neg sub
moved_y p s =
    let rx = added (neg one -ᶠ one) s.x s.rx in
    let ty = op_k (embed p) (neg one) rx +0 (take (length_y p.m p.n) s.tx) in
    let y = transformed_di one s.dp_sigma ty one s.y in
    record {
      x = s.x;
      y = set y (p.n + p.m) (smaller (at y (p.n + p.m)) +0);
      dp_tau = s.dp_tau;
      dp_sigma = s.dp_sigma;
      rx = rx;
      tx = ty ++ drop (length_y p.m p.n) s.tx;
      cone = s.cone;
    }

-- What a step comes to, written without stopping: the state, the rotations that it made, and the cone's failure. After a failure nobody holds that
-- state: the step stops there, and the run clears both buffers.
pub record Stepped : Type 0 where
  pub state : State
  pub rotations : ℕ
  pub failure : Failure

unfoldable pub updated : Problem → State → Stepped
unfolding moved_x projected tau_taken moved_y
updated p s =
    let s' = moved_x p s in
    let q = projected p s'.x s'.cone in
    let taken : State =
    record {
      x = tau_taken p q.cone;
      y = s'.y;
      dp_tau = s'.dp_tau;
      dp_sigma = s'.dp_sigma;
      rx = s'.rx;
      tx = s'.tx;
      cone = q.work;
    } in
    record { state = moved_y p taken; rotations = q.rotations; failure = q.failure }
