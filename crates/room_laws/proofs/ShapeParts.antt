-- Parts of a list that are lent one after another, and come back as functions of what they were.
use Prim.Native.Nat.{ℕ, ◌+◌, ◌-◌}
use mathlib.Core.Path.{◌≡◌, ◌∙◌, ap}
use mathlib.Core.List.{List, ◌++◌}
use lib.Ieee.{Float}
use lib.ListN.{length, take, drop}
use Rattle.rules.specs.Step.{part}
use Rattle.rules.proofs.Parts.{put, from_start, lent_2, lent_3, lent_4, put_3, put_4}

-- lists that are joined of equal parts are equal
pub join_3 : {p q r p' q' r' : List Float} → p ≡ p' → q ≡ q' → r ≡ r' → p ++ q ++ r ≡ p' ++ q' ++ r'
join_3 e f g = λ i. (e i ++ f i) ++ g i

join_4 : {p q r s p' q' r' s' : List Float} → p ≡ p' → q ≡ q' → r ≡ r' → s ≡ s' → p ++ q ++ r ++ s ≡ p' ++ q' ++ r' ++ s'
join_4 e f g h = λ i. ((e i ++ f i) ++ g i) ++ h i

-- three parts, of n, m and k places
module _ (n m k : ℕ) (w p q r : List Float) (p_length : length p ≡ n) (q_length : length q ≡ m) (whole : length w ≡ n + m + k) (f g h : List Float → List Float) where
  pub three_parts : p ≡ f (take (n - 0) w)
      → q ≡ g (take (n + m - n) (drop n (put 0 n w p)))
      → r ≡ h (take (n + m + k - (n + m)) (drop (n + m) (put n (n + m) (put 0 n w p) q)))
      → put (n + m) (n + m + k) (put n (n + m) (put 0 n w p) q) r ≡ f (take n w) ++ g (part n m w) ++ h (part (n + m) k w)
  three_parts first second third =
      put_3 n m k w p q p_length q_length r whole
      ∙ join_3
      (first ∙ ap (λ (e : ℕ). f (take e w)) (from_start n))
      (second ∙ ap g (lent_2 n m k w p q p_length q_length))
      (third ∙ ap h (lent_3 n m k w p q p_length q_length))

-- four parts, of n, m, k and l places
module _ (n m k l : ℕ) (w p q r s : List Float) (p_length : length p ≡ n) (q_length : length q ≡ m) (r_length : length r ≡ k) (whole : length w ≡ n + m + k + l) (f g h u : List Float → List Float) where
  pub four_parts : p ≡ f (take (n - 0) w)
      → q ≡ g (take (n + m - n) (drop n (put 0 n w p)))
      → r ≡ h (take (n + m + k - (n + m)) (drop (n + m) (put n (n + m) (put 0 n w p) q)))
      → s ≡ u (take (n + m + k + l - (n + m + k)) (drop (n + m + k) (put (n + m) (n + m + k) (put n (n + m) (put 0 n w p) q) r)))
      → put (n + m + k) (n + m + k + l) (put (n + m) (n + m + k) (put n (n + m) (put 0 n w p) q) r) s
      ≡ f (take n w) ++ g (part n m w) ++ h (part (n + m) k w) ++ u (part (n + m + k) l w)
  four_parts first second third fourth =
      put_4 n m k l w p q r p_length q_length r_length s whole
      ∙ join_4
      (first ∙ ap (λ (e : ℕ). f (take e w)) (from_start n))
      (second ∙ ap g (lent_2 n m k w p q p_length q_length))
      (third ∙ ap h (lent_3 n m k w p q p_length q_length))
      (fourth ∙ ap u (lent_4 n m k l w p q r p_length q_length r_length))
