-- Laws of a buffer of which a part is lent and comes back, and of parts that are lent in order from the front until all are new.
use Prim.Native.Nat.{ℕ, zero, suc, ◌+◌, ◌-◌, ◌≤◌}
use native.Mathlib.Nat.{add-sub_cancel_left}
use native.Mathlib.Omega.{arith}
use mathlib.Core.Path.{◌≡◌, refl, sym, ap, ◌∙◌}
use mathlib.Core.List.{List, ◌∷◌, ◌++◌, append_assoc, append-nil}
use lib.Ieee.{Float}
use lib.ListN.{length, take, drop, replicate, length-append, length-drop, take-append-drop, drop_of_length-le}
use lib.Seq.{take_at, drop_at, drop-drop, length-take-le}
use borrow.Rule.Slice.PartMut.{drop_put}
use Rattle.rules.specs.Arithmetic.{+0}
use Rattle.rules.specs.Step.{part}
use Rattle.rules.proofs.Slices.{part_in_first}

-- what a list is after the part from place a to place e was lent and came back as ys
abbrev pub put : ℕ → ℕ → List Float → List Float → List Float
put a e w ys = take a w ++ (ys ++ drop (e - a) (drop a w))

-- how many places a part from a to a + k has
pub places : (a k : ℕ) → a + k - a ≡ k
places a k = add-sub_cancel_left a k

pub from_start : (e : ℕ) → e - 0 ≡ e
from_start e = omega arith

pub part_length : (a k : ℕ) (w : List Float) → a + k ≤ length w → length (part a k w) ≡ k
part_length a k w h = length-take-le k (drop a w) (rw length-drop (omega arith))

pub part-places : (a k : ℕ) (w : List Float) → a + k ≤ length w → length (take (a + k - a) (drop a w)) ≡ k
part-places a k w h = rw (places a k) (part_length a k w h)

pub drop_rest : (a e : ℕ) (w : List Float) → a ≤ e → drop (e - a) (drop a w) ≡ drop e w
drop_rest a e w h =
    let i : a + (e - a) ≡ e = omega arith in
    rw (drop-drop (e - a) a w, i)

-- the first places of a list of zeros
pub zeros-part : (k l : ℕ) → k ≤ l → take (k - 0) (drop 0 (replicate l +0)) ≡ replicate k +0
zeros-part k l h = rw (from_start k) (go k l h)
  where
    go : (i j : ℕ) → i ≤ j → take i (replicate j +0) ≡ replicate i +0
    go zero j h = refl
    go (suc i) zero h = absurd (omega arith)
    go (suc i) (suc j) h = ap (λ v. +0 ∷ v) (go i j (omega arith))

-- ---- any part: it comes back new, and a part that shares no place with it stays

module _ (a e : ℕ) (w ys : List Float) (fits : a ≤ e) (inside : e ≤ length w) (as_many : length ys ≡ e - a) where
  front_length : length (take a w) ≡ a
  front_length = length-take-le a w (omega arith)

  pub put_length : length (put a e w ys) ≡ length w
  put_length = simp (length-append, length-drop, front_length, as_many) (omega arith)

  pub put_part : part a (e - a) (put a e w ys) ≡ ys
  put_part = rw (drop_at (take a w) (ys ++ drop (e - a) (drop a w)) a front_length) (take_at ys (drop (e - a) (drop a w)) (e - a) as_many)

  pub part-after : (b k : ℕ) → e ≤ b → part b k (put a e w ys) ≡ part b k w
  part-after b k h =
      let end : drop e (put a e w ys) ≡ drop e w = drop_put a e w ys fits inside as_many in
      rw (← drop_rest e b (put a e w ys) h, end, drop_rest e b w h)

  pub part_before : (b k : ℕ) → b + k ≤ a → part b k (put a e w ys) ≡ part b k w
  part_before b k h =
      let within : b + k ≤ length (take a w) = rw front_length h in
      part_in_first (take a w) (ys ++ drop (e - a) (drop a w)) b k within
      ∙ sym (rw (take-append-drop a w) at (part_in_first (take a w) (drop a w) b k within))

-- ---- parts from the front, one after another

-- The list is new up to place a. Then the part up to e that is lent is the original's, and when it comes back the list is new up to e.
module _ (a e : ℕ) (new w : List Float) (new_to : length new ≡ a) (fits : a ≤ e) where
  pub next_lent : take (e - a) (drop a (new ++ drop a w)) ≡ take (e - a) (drop a w)
  next_lent = ap (take (e - a)) (drop_at new (drop a w) a new_to)

  pub next_put : (ys : List Float) → put a e (new ++ drop a w) ys ≡ (new ++ ys) ++ drop e w
  next_put ys =
      rw (take_at new (drop a w) a new_to, drop_at new (drop a w) a new_to, drop_rest a e w fits, append_assoc)

pub all_put : (e : ℕ) (new w : List Float) → length w ≤ e → new ++ drop e w ≡ new
all_put e new w h = rw (drop_of_length-le w h) (append-nil new)

-- two parts, the first up to place a and the second from there up to e
module _ (a e : ℕ) (w p : List Float) (p_length : length p ≡ a) (fits : a ≤ e) where
  front_put : put 0 a w p ≡ p ++ drop a w
  front_put = rw (drop_rest 0 a w (omega arith))

  pub lent_rest : take (e - a) (drop a (put 0 a w p)) ≡ take (e - a) (drop a w)
  lent_rest = rw (front_put, next_lent a e p w p_length fits)

  pub put_2 : (q : List Float) → length w ≤ e → put a e (put 0 a w p) q ≡ p ++ q
  put_2 q whole = rw (front_put, next_put a e p w p_length fits q) (all_put e (p ++ q) w whole)

-- three parts, of n, m and k places
module _ (n m k : ℕ) (w p q : List Float) (p_length : length p ≡ n) (q_length : length q ≡ m) where
  pub first_put : put 0 n w p ≡ p ++ drop n w
  first_put = rw (drop_rest 0 n w (omega arith))

  second_put : put n (n + m) (put 0 n w p) q ≡ p ++ q ++ drop (n + m) w
  second_put = rw (first_put, next_put n (n + m) p w p_length (omega arith) q)

  two-length : length (p ++ q) ≡ n + m
  two-length = rw (length-append, p_length, q_length)

  pub lent_2 : take (n + m - n) (drop n (put 0 n w p)) ≡ part n m w
  lent_2 = rw (first_put, next_lent n (n + m) p w p_length (omega arith), places n m)

  pub lent_3 : take (n + m + k - (n + m)) (drop (n + m) (put n (n + m) (put 0 n w p) q)) ≡ part (n + m) k w
  lent_3 = rw (second_put, next_lent (n + m) (n + m + k) (p ++ q) w two-length (omega arith), places (n + m) k)

  third_put : (r : List Float) → put (n + m) (n + m + k) (put n (n + m) (put 0 n w p) q) r ≡ p ++ q ++ r ++ drop (n + m + k) w
  third_put r = rw (second_put, next_put (n + m) (n + m + k) (p ++ q) w two-length (omega arith) r)

  pub put_3 : (r : List Float) → length w ≡ n + m + k → put (n + m) (n + m + k) (put n (n + m) (put 0 n w p) q) r ≡ p ++ q ++ r
  put_3 r whole = third_put r ∙ all_put (n + m + k) (p ++ q ++ r) w (omega arith)

-- four parts, of n, m, k and l places
module _ (n m k l : ℕ) (w p q r : List Float) (p_length : length p ≡ n) (q_length : length q ≡ m) (r_length : length r ≡ k) where
  three_length : length (p ++ q ++ r) ≡ n + m + k
  three_length = rw (length-append, two-length n m k w p q p_length q_length, r_length)

  pub lent_4 : take (n + m + k + l - (n + m + k)) (drop (n + m + k) (put (n + m) (n + m + k) (put n (n + m) (put 0 n w p) q) r)) ≡ part (n + m + k) l w
  lent_4 = rw (third_put n m k w p q p_length q_length r, next_lent (n + m + k) (n + m + k + l) (p ++ q ++ r) w three_length (omega arith), places (n + m + k) l)

  pub put_4 : (s : List Float) → length w ≡ n + m + k + l → put (n + m + k) (n + m + k + l) (put (n + m) (n + m + k) (put n (n + m) (put 0 n w p) q) r) s ≡ p ++ q ++ r ++ s
  put_4 s whole =
      rw (third_put n m k w p q p_length q_length r, next_put (n + m + k) (n + m + k + l) (p ++ q ++ r) w three_length (omega arith) s) (all_put (n + m + k + l) (p ++ q ++ r ++ s) w (omega arith))
