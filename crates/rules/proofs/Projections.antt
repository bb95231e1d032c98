-- Laws of the projections: what each kind's rule comes to, over the whole block.
use Prim.Native.Nat.{ℕ, suc, ◌-◌, ◌≤◌, ◌<◌}
use native.Mathlib.Omega.{arith}
use mathlib.Core.Path.{◌≡◌, refl, sym, ◌∙◌, ap}
use mathlib.Core.Bool.{true, false}
use mathlib.Core.List.{List, [], ◌∷◌, ◌++◌, append-nil}
use lib.Ieee.{Float, binary64, of_bits, le, neg, add}
use lib.ListN.{length, take, drop, set}
use lib.Seq.{take-length, drop-length}
use Rattle.rules.specs.Arithmetic.{◌+ᶠ◌, ◌-ᶠ◌, ◌/ᶠ◌, +0, at}
use Rattle.rules.specs.Helpers.{one, larger}
use Rattle.rules.specs.Vectors.{norm_by, scaled}
use Rattle.rules.specs.Jacobi.{two}
use Rattle.rules.specs.Root.{root}
use Rattle.rules.specs.Projections.{√2, proj_soc, reflected, proj_rot_soc}

-- ---- second-order: the tail is the part from place 1 on, and comes back as a part

abbrev tail_of : List Float → List Float
tail_of xs = take (length xs - 1) (drop 1 xs)

-- the block with another head and another tail
abbrev rejoined : List Float → Float → List Float → List Float
rejoined xs head tail = set (take 1 xs ++ (tail ++ drop (length xs - 1) (drop 1 xs))) 0 head

tail_is : (s : Float) (rest : List Float) → tail_of (s ∷ rest) ≡ rest
tail_is s rest =
    let e : suc (length rest) - 1 ≡ length rest = omega arith in
    rw e (take-length rest)

rejoined_is : (s : Float) (rest : List Float) (head : Float) (tail : List Float) → rejoined (s ∷ rest) head tail ≡ head ∷ tail
rejoined_is s rest head tail =
    let e : suc (length rest) - 1 ≡ length rest = omega arith in
    rw (e, drop-length rest, append-nil)

pub soc_none : (edition : ℕ) (xs : List Float) → length xs ≤ 0 → xs ≡ proj_soc edition xs
unfolding proj_soc
soc_none edition [] h = refl
soc_none edition (s ∷ rest) h = absurd (omega arith)

-- what a block's norm, tests and new tail come to
module _ (edition : ℕ) (v : Float) (tail : List Float) where
  pub soc_apex : (xs : List Float) → 0 < length xs → v ≡ norm_by edition (tail_of xs) → le v (neg (at xs 0)) ≡ true → tail ≡ scaled +0 (tail_of xs) → rejoined xs +0 tail ≡ proj_soc edition xs
  unfolding proj_soc
  soc_apex [] h is below t = absurd (omega arith)
  soc_apex (s ∷ rest) h is below t =
      let is' : v ≡ norm_by edition rest = rw (tail_is s rest) at is in
      let t' : tail ≡ scaled +0 rest = rw (tail_is s rest) at t in
      rejoined_is s rest +0 tail ∙ rw (← is', below, t')

  pub soc_inside : (xs : List Float) → 0 < length xs → v ≡ norm_by edition (tail_of xs) → le v (neg (at xs 0)) ≡ false → le v (at xs 0) ≡ true → xs ≡ proj_soc edition xs
  unfolding proj_soc
  soc_inside [] h is below inside = absurd (omega arith)
  soc_inside (s ∷ rest) h is below inside =
      let is' : v ≡ norm_by edition rest = rw (tail_is s rest) at is in
      rw (← is', below, inside)

  pub soc_outside : (xs : List Float) → 0 < length xs → v ≡ norm_by edition (tail_of xs) → le v (neg (at xs 0)) ≡ false → le v (at xs 0) ≡ false
      → tail ≡ scaled ((one +ᶠ at xs 0 /ᶠ v) /ᶠ two) (tail_of xs) → rejoined xs ((v +ᶠ at xs 0) /ᶠ two) tail ≡ proj_soc edition xs
  unfolding proj_soc
  soc_outside [] h is below inside t = absurd (omega arith)
  soc_outside (s ∷ rest) h is below inside t =
      let is' : v ≡ norm_by edition rest = rw (tail_is s rest) at is in
      let t' : tail ≡ scaled ((one +ᶠ s /ᶠ v) /ᶠ two) rest = rw (tail_is s rest) at t in
      rejoined_is s rest ((v +ᶠ s) /ᶠ two) tail ∙ rw (← is', below, inside, t')

-- ---- the numbers in the code

pub one_is : of_bits binary64 0x3ff0_0000_0000_0000 ≡ one
unfolding one
one_is = refl

pub two_is : of_bits binary64 0x4000_0000_0000_0000 ≡ two
unfolding one of_bits add
two_is = refl

pub root_two_is : of_bits binary64 0x3ff6_a09e_667f_3bcd ≡ √2
unfolding one of_bits add root
root_two_is = refl

-- ---- rotated

pub reflected_more : (xs : List Float) → 1 < length xs → set (set xs 0 ((at xs 0 +ᶠ at xs 1) /ᶠ √2)) 1 ((at xs 0 -ᶠ at xs 1) /ᶠ √2) ≡ reflected xs
unfolding reflected
reflected_more [] h = absurd (omega arith)
reflected_more (r ∷ []) h = absurd (omega arith)
reflected_more (r ∷ s ∷ rest) h = refl

pub rotated-one : (edition : ℕ) (xs : List Float) → length xs ≡ 1 → set xs 0 (larger (at xs 0) +0) ≡ proj_rot_soc edition xs
unfolding proj_rot_soc
rotated-one edition [] h = absurd (omega arith)
rotated-one edition (r ∷ []) h = refl
rotated-one edition (r ∷ s ∷ rest) h = absurd (omega arith)

-- a block of size 0 has nothing to do
pub rotated_none : (edition : ℕ) (xs : List Float) → length xs ≤ 0 → xs ≡ proj_rot_soc edition xs
unfolding proj_rot_soc
rotated_none edition [] h = refl
rotated_none edition (r ∷ rest) h = absurd (omega arith)

pub rotated_more : (edition : ℕ) (xs : List Float) → 1 < length xs → reflected (proj_soc edition (reflected xs)) ≡ proj_rot_soc edition xs
unfolding proj_rot_soc
rotated_more edition [] h = absurd (omega arith)
rotated_more edition (r ∷ []) h = absurd (omega arith)
rotated_more edition (r ∷ s ∷ rest) h = refl

-- the first two of a block, put anew
abbrev put_two : Float → Float → List Float → List Float
put_two a b xs = set (set xs 0 a) 1 b

put_reflected : (p q : Float) (xs : List Float) → 1 < length xs → put_two ((p +ᶠ q) /ᶠ √2) ((p -ᶠ q) /ᶠ √2) (put_two p q xs) ≡ reflected (put_two p q xs)
unfolding reflected
put_reflected p q [] h = absurd (omega arith)
put_reflected p q (r ∷ []) h = absurd (omega arith)
put_reflected p q (r ∷ s ∷ rest) h = refl

-- a block of two places or more: xs is reflected to ys and projected to zs
module _ (edition : ℕ) (xs : List Float) {ys zs : List Float} (h : 1 < length xs) (first : ys ≡ put_two ((at xs 0 +ᶠ at xs 1) /ᶠ √2) ((at xs 0 -ᶠ at xs 1) /ᶠ √2) xs) (ruled : zs ≡ proj_soc edition ys) where
  projected : reflected zs ≡ reflected (proj_soc edition (reflected xs))
  projected = ap reflected ruled ∙ ap (λ (l : List Float). reflected (proj_soc edition l)) (first ∙ reflected_more xs h)

  pub rotated_outside : {ws : List Float} → ws ≡ reflected zs → ws ≡ reflected (proj_soc edition (reflected xs))
  rotated_outside e = e ∙ projected

  -- a point that lies inside stays between the two
  pub rotated_inside : zs ≡ ys → {ws : List Float} → (let p = (at xs 0 +ᶠ at xs 1) /ᶠ √2 in let q = (at xs 0 -ᶠ at xs 1) /ᶠ √2 in ws ≡ put_two ((p +ᶠ q) /ᶠ √2) ((p -ᶠ q) /ᶠ √2) zs) → ws ≡ reflected (proj_soc edition (reflected xs))
  rotated_inside kept e =
      let p = (at xs 0 +ᶠ at xs 1) /ᶠ √2 in
      let q = (at xs 0 -ᶠ at xs 1) /ᶠ √2 in
      e
      ∙ ap (λ (l : List Float). put_two ((p +ᶠ q) /ᶠ √2) ((p -ᶠ q) /ᶠ √2) l) (kept ∙ first)
      ∙ put_reflected p q xs h
      ∙ ap reflected (sym first ∙ sym kept)
      ∙ projected
