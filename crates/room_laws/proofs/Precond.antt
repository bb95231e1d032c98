-- The two diagonals: the rules written out over the operators of edition one, whatever the edition, and the parts that are lent in turn.
use Prim.Native.Nat.{ℕ, ◌+◌, ◌-◌}
use native.Mathlib.Omega.{arith}
use mathlib.Core.Path.{◌≡◌, refl, sym, ap, ◌∙◌}
use mathlib.Core.Bool.{Bool, true, false}
use mathlib.Core.List.{List, [], ◌∷◌, ◌++◌, append_assoc}
use lib.Ieee.{Float}
use lib.ListN.{length, take, drop, length-append, length-drop, take-append-drop}
use lib.Seq.{take_at, drop_at, length-take-le}
use Rattle.rules.specs.declared.Shape.{Shape}
use Rattle.rules.specs.declared.SolverParam.{SolverParam}
use Rattle.rules.specs.Arithmetic.{+0}
use Rattle.rules.specs.Vectors.{scaled}
use Rattle.rules.specs.Problem.{Slices, problem_in, length_x, Problem}
use Rattle.rules.specs.Step.{part}
use Rattle.rules.specs.Prepare.{diagonal, sums_x, sums_y, sums_s, sums_tau, grouped_x, dp_tau_of, dp_sigma_of}
use Rattle.rules.proofs.Parts.{put, next_put, part-after, places}
use Rattle.rules.proofs.Lengths.{sums_x-length, sums_y-length, sums_s-length, sums_tau-length}
use Rattle.precond.specs.Precond.{column_sums, row_sums, rows_of, grouped_parts, PrecondOutcome}
use Rattle.room_laws.specs.Operators.{operators_in}

take_whole : (s : List Float) (k : ℕ) → length s ≡ k → take k s ≡ s
take_whole s k e = rw (← e) (whole s)
  where
    whole : (s : List Float) → take (length s) s ≡ s
    whole [] = refl
    whole (v ∷ s) = ap (λ (l : List Float). v ∷ l) (whole s)

module _ (n m : ℕ) (p q r s : List Float) (p_length : length p ≡ n) (q_length : length q ≡ m) (r_length : length r ≡ m) (s_length : length s ≡ 1) where
  two-length : length (p ++ q) ≡ n + m
  two-length = rw (length-append, p_length, q_length)

  three_length : length (p ++ q ++ r) ≡ n + m + m
  three_length = rw (length-append, two-length, r_length)

  pub part_1 : part 0 n (p ++ q ++ r ++ s) ≡ p
  part_1 = rw (append_assoc (p ++ q) r s, append_assoc p q (r ++ s)) (take_at p (q ++ (r ++ s)) n p_length)

  pub part_2 : part n m (p ++ q ++ r ++ s) ≡ q
  part_2 = rw (append_assoc (p ++ q) r s, append_assoc p q (r ++ s), drop_at p (q ++ (r ++ s)) n p_length) (take_at q (r ++ s) m q_length)

  pub part_3 : part (n + m) m (p ++ q ++ r ++ s) ≡ r
  part_3 = rw (append_assoc (p ++ q) r s, drop_at (p ++ q) (r ++ s) (n + m) two-length) (take_at r s m r_length)

  pub part_4 : part (n + m + m) 1 (p ++ q ++ r ++ s) ≡ s
  part_4 = rw (drop_at (p ++ q ++ r) s (n + m + m) three_length) (take_whole s 1 s_length)

-- the two cone parts are lent in turn
module _ (n m : ℕ) (d p : List Float) (d_length : length d ≡ n + m + m + 1) (p_length : length p ≡ m) where
  n_length : length (take n d) ≡ n
  n_length = length-take-le n d (omega arith)

  one_put : put n (n + m) d p ≡ take n d ++ p ++ drop (n + m) d
  one_put =
      let e : put n (n + m) (take n d ++ drop n d) p ≡ take n d ++ p ++ drop (n + m) d = next_put n (n + m) (take n d) d n_length (omega arith) p in
      rw (take-append-drop n d) at e

  both_length : length (take n d ++ p) ≡ n + m
  both_length = rw (length-append, n_length, p_length)

  pub two_put : (q : List Float) → put (n + m) (n + m + m) (put n (n + m) d p) q ≡ part 0 n d ++ p ++ q ++ part (n + m + m) 1 d
  two_put q =
      rw (one_put, next_put (n + m) (n + m + m) (take n d ++ p) d both_length (omega arith) q, take_whole (drop (n + m + m) d) 1 (omega (arith, length-drop (n + m + m) d)))

  pub lent_after : take (n + m + m - (n + m)) (drop (n + m) (put n (n + m) d p)) ≡ part (n + m) m d
  lent_after =
      rw (places (n + m) m) (part-after n (n + m) d p (omega arith) (omega arith) (p_length ∙ sym (places n m)) (n + m) m (omega arith))

-- the rows' sums are made of the columns'
pub rows_of_columns : (shape : Shape) (c : List Float) (a : Slices) (b t : List Float) → length t ≡ length_x shape.rows.0 shape.cols.0 → rows_of shape (column_sums (operators_in shape c a b) t) ≡ row_sums (operators_in shape c a b) t
rows_of_columns shape c a b t h =
    let k = operators_in shape c a b in
    let p = sums_x-length k t h in
    let q = sums_y-length k t h in
    let r = sums_s-length k t h in
    let s = sums_tau-length k t h in
    rw (
      part_1 k.n k.m (sums_x k t) (sums_y k t) (sums_s k t) (sums_tau k t) p q r s,
      part_2 k.n k.m (sums_x k t) (sums_y k t) (sums_s k t) (sums_tau k t) p q r s,
      part_3 k.n k.m (sums_x k t) (sums_y k t) (sums_s k t) (sums_tau k t) p q r s,
      part_4 k.n k.m (sums_x k t) (sums_y k t) (sums_s k t) (sums_tau k t) p q r s,
    )

-- the rules, written out
module _ (shape : Shape) (c : List Float) (a : Slices) (b : List Float) (words : List ℕ) (par : SolverParam) (tau : List Float) where
  pub dp_tau_is : dp_tau_of (problem_in shape c a b words par) tau ≡ grouped_parts shape words (diagonal par.eps_zero (column_sums (operators_in shape c a b) (scaled +0 tau)))
  unfolding dp_tau_of grouped_x
  dp_tau_is = refl

  pub dp_sigma_is : dp_sigma_of (problem_in shape c a b words par) tau ≡ diagonal par.eps_zero (row_sums (operators_in shape c a b) (scaled +0 tau))
  unfolding dp_sigma_of
  dp_sigma_is = refl

-- how it shows its outcome
pub precond_refused : {fits : Bool} {p : Problem} {tau sigma : List Float} → fits ≡ false → PrecondOutcome fits p tau sigma false tau sigma
precond_refused e = record { answered = rw e; tau_left = rw e; sigma_left = rw e }

pub precond_done : {fits : Bool} {p : Problem} {tau sigma tau' sigma' : List Float} → fits ≡ true → tau' ≡ dp_tau_of p tau → sigma' ≡ dp_sigma_of p tau → PrecondOutcome fits p tau sigma true tau' sigma'
precond_done e is_tau is_sigma = record { answered = rw e; tau_left = rw (e, is_tau); sigma_left = rw (e, is_sigma) }
