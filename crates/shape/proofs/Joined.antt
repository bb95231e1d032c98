-- Parts of a list that split_at_mut lends, one after another, and that come back as functions of what they were.
use Prim.Native.Nat.{ℕ, ◌+◌}
use native.Mathlib.Omega.{arith}
use mathlib.Core.Path.{◌≡◌}
use mathlib.Core.List.{List, ◌++◌, append_assoc}
use lib.Ieee.{Float}
use lib.ListN.{length, take, drop, length-drop}
use lib.Seq.{drop-drop, take-length}
use Rattle.rules.specs.Step.{part}

-- what is left after n and m places is a part, of k places
last_part : (n m k : ℕ) (w : List Float) → length w ≡ n + m + k → drop m (drop n w) ≡ part (n + m) k w
last_part n m k w e =
    let long : length (drop (n + m) w) ≡ k = omega (arith, length-drop (n + m) w) in
    let all : take k (drop (n + m) w) ≡ drop (n + m) w = rw (← long) (take-length (drop (n + m) w)) in
    rw (all, drop-drop)

-- three parts, of n, m and k places
module _ (n m k : ℕ) (w : List Float) (whole : length w ≡ n + m + k) (f g h : List Float → List Float) {u rest v t p q r : List Float} where
  pub three_parts : u ≡ take n w → rest ≡ drop n w → v ≡ take m rest → t ≡ drop m rest
      → p ≡ f u → q ≡ g v → r ≡ h t
      → p ++ (q ++ r) ≡ f (take n w) ++ g (part n m w) ++ h (part (n + m) k w)
  three_parts u_is after_u v_is t_is p_is q_is r_is =
      rw (← append_assoc, p_is, u_is, q_is, v_is, r_is, t_is, after_u, last_part n m k w whole)

-- four parts, of n, m, k and l places
module _ (n m k l : ℕ) (w : List Float) (whole : length w ≡ n + m + k + l) (f g h e : List Float → List Float) {u after_u v after_v t z p q r s : List Float} where
  pub four_parts : u ≡ take n w → after_u ≡ drop n w → v ≡ take m after_u → after_v ≡ drop m after_u → t ≡ take k after_v → z ≡ drop k after_v
      → p ≡ f u → q ≡ g v → r ≡ h t → s ≡ e z
      → p ++ (q ++ (r ++ s)) ≡ f (take n w) ++ g (part n m w) ++ h (part (n + m) k w) ++ e (part (n + m + k) l w)
  four_parts u_is after_u_is v_is after_v_is t_is z_is p_is q_is r_is s_is =
      let third : t ≡ part (n + m) k w = rw (t_is, after_v_is, after_u_is, drop-drop) in
      let last : z ≡ part (n + m + k) l w = rw (z_is, after_v_is, after_u_is, drop-drop m n) (last_part (n + m) k l w whole) in
      rw (p_is, u_is, q_is, v_is, after_u_is, r_is, third, s_is, last, ← append_assoc, ← append_assoc)
