-- Document 01, "One step, in order": what stands before the first step. solver.rs, calc_norms, init_vecs, calc_precond.
use Rattle.std.specs.Prelude.{ℕ, ◌+◌, List, [], ◌∷◌, ◌++◌, Float, take, drop, set, replicate}
use Rattle.std.specs.Float.{binary64}
use Rattle.std.specs.Float.Ieee.{add, mul}
use Rattle.rules.specs.declared.Norms.{Norms}
use Rattle.rules.specs.Helpers.{one, larger, reciprocal}
use Rattle.rules.specs.Root.{root}
use Rattle.rules.specs.Arithmetic.{◌+ᶠ◌, ◌*ᶠ◌, +0, each}
use Rattle.rules.specs.Vectors.{norm_by, scaled, added, shifted}
use Rattle.rules.specs.Matrices.{opped_by, absadded_cols, absadded_rows}
use Rattle.rules.specs.Product.{group_all, cone_work}
use Rattle.rules.specs.Problem.{Problem, Embed, embed, column, blocks, length_x, length_y}
use Rattle.rules.specs.Step.{State, x_x, x_y, x_s, x_tau}

abbrev pub zeros : ℕ → List Float
zeros k = replicate k +0

-- the Frobenius norm of a matrix of one column, which is worked out in t
unfoldable pub column_in : ℕ → ℕ → List Float → List Float → List Float
unfolding opped_by one
column_in edition rows v t = opped_by edition (column rows) one v (one ∷ []) +0 t

-- request (ix) of document 02: "the Frobenius norm squares it again and may stay infinite"
unfoldable pub fr_norm_by : ℕ → List Float → Float
unfolding norm_by root add mul
fr_norm_by edition t = root binary64 (+0 +ᶠ norm_by edition t *ᶠ norm_by edition t)

-- "Norms of b, then c, use the front of x."
unfoldable pub with_b : Embed → List Float → List Float
unfolding column_in
with_b k x = column_in k.edition k.m k.b (take k.m x) ++ drop k.m x

unfoldable pub with_c : Embed → List Float → List Float
unfolding column_in
with_c k x = column_in k.edition k.n k.c (take k.n x) ++ drop k.n x

unfoldable pub norms : Embed → List Float → Norms
unfolding with_b with_c fr_norm_by
norms k x =
    record { b = fr_norm_by k.edition (take k.m (with_b k x)); c = fr_norm_by k.edition (take k.n (with_c k (with_b k x))) }

-- "Then x and y are multiplied by 0 and tau is set to 1."
unfoldable pub start_x : Embed → List Float → List Float
unfolding with_b with_c scaled one
start_x k x = set (scaled +0 (with_c k (with_b k x))) (k.n + k.m + k.m) one

-- ---- diagonals

-- "sums as in abssum: the primal part's is 1, and y's m places add that 1"
module _ (k : Embed) (tau : List Float) where
  unfoldable pub sums_x : List Float
  unfolding absadded_cols absadded_rows
  sums_x = absadded_rows (column k.n) k.c (absadded_cols k.t k.a (x_x k tau))

  unfoldable pub sums_y : List Float
  unfolding absadded_rows
  sums_y = absadded_rows (column k.m) k.b (absadded_rows k.t k.a (x_y k tau))

  unfoldable pub sums_s : List Float
  unfolding shifted one
  sums_s = shifted one (x_s k tau)

  unfoldable pub sums_tau : List Float
  unfolding absadded_cols
  sums_tau = absadded_cols (column k.m) k.b (absadded_cols (column k.n) k.c (x_tau k tau))

-- "Diagonals are 1 over the larger of the absolute sum and eps_zero"
unfoldable pub diagonal : Float → List Float → List Float
unfolding each larger reciprocal
diagonal eps sums = each (λ k v. reciprocal (larger v eps)) sums

-- "then grouped for the two cone parts of x"
unfoldable pub grouped_x : Problem → List Float → List Float
unfolding group_all
grouped_x p d =
    x_x (embed p) d ++ group_all (blocks p) (x_y (embed p) d) ++ group_all (blocks p) (x_s (embed p) d) ++ x_tau (embed p) d

unfoldable pub dp_tau_of : Problem → List Float → List Float
unfolding sums_x sums_y sums_s sums_tau diagonal grouped_x scaled
dp_tau_of p tau =
    let t = scaled +0 tau in
    grouped_x p (diagonal p.par.eps_zero (sums_x (embed p) t ++ sums_y (embed p) t ++ sums_s (embed p) t ++ sums_tau (embed p) t))

unfoldable pub dp_sigma_of : Problem → List Float → List Float
unfolding sums_x sums_y sums_s sums_tau diagonal scaled added one
dp_sigma_of p tau =
    let t = scaled +0 tau in
    diagonal p.par.eps_zero (sums_x (embed p) t ++ added one (sums_s (embed p) t) (sums_y (embed p) t) ++ sums_tau (embed p) t)

-- "On acceptance the required part of both buffers becomes +0", and then the run is prepared.
unfoldable pub prepared : Problem → State
unfolding start_x dp_tau_of dp_sigma_of scaled cone_work
prepared p =
    let long_x = zeros (length_x p.m p.n) in
    let long_y = zeros (length_y p.m p.n) in
    record {
      x = start_x (embed p) long_x;
      y = scaled +0 long_y;
      dp_tau = dp_tau_of p long_x;
      dp_sigma = dp_sigma_of p long_x;
      rx = long_x;
      tx = long_x;
      cone = zeros (cone_work (blocks p));
    }

abbrev pub prepared_norms : Problem → Norms
prepared_norms p = norms (embed p) (zeros (length_x p.m p.n))
