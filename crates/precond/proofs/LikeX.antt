-- Laws of the parts of a vector like x (n, m, m, 1), and of what is made of them.
use Prim.Native.Nat.{ℕ, ◌+◌, ◌≤◌}
use mathlib.Core.Path.{◌≡◌, refl}
use mathlib.Core.Bool.{Bool}
use mathlib.Core.List.{List, ◌++◌, append_assoc}
use lib.Ieee.{Float}
use lib.ListN.{length, take, length-append}
use lib.Seq.{take_at, drop_at, take-length}
use Rattle.rules.specs.declared.Shape.{Shape}
use Rattle.rules.specs.Limits.{limit}
use Rattle.rules.specs.Outcome.{Outcome}
use Rattle.rules.specs.Arithmetic.{+0}
use Rattle.rules.specs.Vectors.{scaled}
use Rattle.rules.specs.Product.{list_fits}
use Rattle.rules.specs.Step.{part}
use Rattle.rules.specs.Prepare.{diagonal, sums_x, sums_y, sums_s, sums_tau, grouped_x, dp_tau_of, dp_sigma_of}
use Rattle.rules.proofs.Outcome.{ruled_if_fits}
use Rattle.rules.proofs.Lengths.{sums_x-length, sums_y-length, sums_s-length, sums_tau-length}
use Rattle.precond.proofs.Fitting.{list_fits_lem}
use Rattle.shape.specs.declared.Problem.{Problem}
use Rattle.shape.specs.Fitting.{LikeX}
use Rattle.shape.specs.Lent.{lent_embed, lent_problem}
use Rattle.embedding.specs.declared.Embedding.{Embedding}
use Rattle.embedding.specs.Embedding.{embed_of}
use Rattle.precond.specs.Precond.{Covers, column_sums, row_sums, rows_of, grouped_parts}

-- what a caller whose list of blocks has all places learns
pub group_ruled : {shape : Shape} {words : List ℕ} {xs ruled : List Float} {answer : Bool} {after : List Float} → Covers shape words → shape.rows.0 ≤ limit → length xs ≡ shape.rows.0 → Outcome (list_fits words xs) ruled xs answer after → after ≡ ruled
group_ruled l w h o = ruled_if_fits o (rw h (list_fits_lem l w))

take_whole : (s : List Float) (k : ℕ) → length s ≡ k → take k s ≡ s
take_whole s k e = rw (← e) (take-length s)

module _ (n m : ℕ) (p q r s : List Float) (p_length : length p ≡ n) (q_length : length q ≡ m) (r_length : length r ≡ m) (s_length : length s ≡ 1) where
  two-length : length (p ++ q) ≡ n + m
  two-length = rw (length-append, p_length, q_length)

  three_length : length (p ++ q ++ r) ≡ n + m + m
  three_length = rw (length-append, two-length, r_length)

  pub part_1 : part 0 n (p ++ q ++ r ++ s) ≡ p
  part_1 = rw (append_assoc (p ++ q) r s, append_assoc p q (r ++ s)) (take_at p (q ++ (r ++ s)) n p_length)

  pub part_2 : part n m (p ++ q ++ r ++ s) ≡ q
  part_2 = rw (append_assoc (p ++ q) r s, append_assoc p q (r ++ s), drop_at p (q ++ (r ++ s)) n p_length) (take_at q (r ++ s) m q_length)

  pub part_3 : part (n + m) m (p ++ q ++ r ++ s) ≡ r
  part_3 = rw (append_assoc (p ++ q) r s, drop_at (p ++ q) (r ++ s) (n + m) two-length) (take_at r s m r_length)

  pub part_4 : part (n + m + m) 1 (p ++ q ++ r ++ s) ≡ s
  part_4 = rw (drop_at (p ++ q ++ r) s (n + m + m) three_length) (take_whole s 1 s_length)

-- the rows' sums are made of the columns'
pub rows_of_columns : (e : Embedding) (t : List Float) → LikeX e.operators.shape t → rows_of e.operators.shape (column_sums (embed_of e) t) ≡ row_sums (embed_of e) t
rows_of_columns e t like =
    let k = embed_of e in
    let p = sums_x-length k t like.is in
    let q = sums_y-length k t like.is in
    let r = sums_s-length k t like.is in
    let s = sums_tau-length k t like.is in
    rw (
      part_1 k.n k.m (sums_x k t) (sums_y k t) (sums_s k t) (sums_tau k t) p q r s,
      part_2 k.n k.m (sums_x k t) (sums_y k t) (sums_s k t) (sums_tau k t) p q r s,
      part_3 k.n k.m (sums_x k t) (sums_y k t) (sums_s k t) (sums_tau k t) p q r s,
      part_4 k.n k.m (sums_x k t) (sums_y k t) (sums_s k t) (sums_tau k t) p q r s,
    )

-- the rules, written out
module _ (p : Problem) (tau : List Float) where
  pub dp_tau_is : dp_tau_of (lent_problem p) tau
      ≡ grouped_parts p.operators.shape p.words.now (diagonal p.par.eps_zero (column_sums (lent_embed p.par.«edition» p.operators) (scaled +0 tau)))
  unfolding dp_tau_of grouped_x
  dp_tau_is = refl

  pub dp_sigma_is : dp_sigma_of (lent_problem p) tau ≡ diagonal p.par.eps_zero (row_sums (lent_embed p.par.«edition» p.operators) (scaled +0 tau))
  unfolding dp_sigma_of
  dp_sigma_is = refl
