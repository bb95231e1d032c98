-- `root::roots::enough` meets its contract: the product by the two parts of q, h of 26 digits and l of 27. Assumes nothing.
use Prim.Native.Nat.{ℕ, ◌+◌, ◌*◌, ◌/◌, ◌%◌, ◌^◌, ◌≤◌, ◌<◌}
use native.Mathlib.Nat.{mul-add, add-mul, mul_assoc, mul_comm, mul_left_comm, mul-mul-mul_comm, mul_right_comm}
use native.Mathlib.Omega.{arith}
use mathlib.Core.Path.{◌≡◌, refl, sym, ap, ◌∙◌}
use mathlib.Core.Bool.{Bool, true, false}
use borrow.Author.Tests.{leb-true, leb-false, le-leb, lt-leb}
use lib.Dec.{leb}
use Rattle.root.proofs.roots.enough.Goals as goal

-- (H + l) * (H + l + 1), where H = h * 2 ^ 27
expanded : (h l : ℕ) → (h * 134217728 + l) * (h * 134217728 + l + 1) ≡ h * h * 18014398509481984 + h * (2 * l + 1) * 134217728 + l * (l + 1)
expanded h l =
    let H = h * 134217728 in
    add-mul H l (H + l + 1)
    ∙ sum (h * h) (h * l) (H * (H + l + 1)) (l * (H + l + 1)) (h * (2 * l + 1)) (l * (l + 1)) (l * l)
    (mul-add H (H + l) 1 ∙ ap (λ (x : ℕ). x + H * 1) (mul-add H H l))
    (mul-add l (H + l) 1 ∙ ap (λ (x : ℕ). x + l * 1) (mul-add l H l))
    (mul-mul-mul_comm h 134217728 h 134217728)
    (mul_right_comm h 134217728 l)
    (sym (mul_assoc l h 134217728) ∙ ap (λ (x : ℕ). x * 134217728) (mul_comm l h))
    (mul-add h (2 * l) 1 ∙ ap (λ (x : ℕ). x + h * 1) (mul_left_comm h 2 l))
    (mul-add l l 1)
  where
    sum : (hh hl x y u v ll : ℕ) → x ≡ h * 134217728 * (h * 134217728) + h * 134217728 * l + h * 134217728 * 1 → y ≡ l * (h * 134217728) + ll + l * 1
        → h * 134217728 * (h * 134217728) ≡ hh * 18014398509481984 → h * 134217728 * l ≡ hl * 134217728 → l * (h * 134217728) ≡ hl * 134217728
        → u ≡ 2 * hl + h * 1 → v ≡ ll + l * 1
        → x + y ≡ hh * 18014398509481984 + u * 134217728 + v
    sum hh hl x y u v ll e₁ e₂ e₃ e₄ e₅ e₆ e₇ = omega arith

split : (q : ℕ) → q ≡ q / 134217728 * 134217728 + q % 134217728
split q = omega arith

-- the test on the cut product is the test on the product
same_test : (m x n s : ℕ) → (m ≤ x → n ≤ s) → (x < m → s < n) → leb m x ≡ leb n s
same_test m x n s up down = go (leb m x) refl
  where
    go : (b : Bool) → leb m x ≡ b → b ≡ leb n s
    go true e = sym (le-leb n s (up (leb-true m x e)))
    go false e = sym (lt-leb n s (down (leb-false m x e)))

pub returns : goal.returns
returns c = let cut = 4 * ((c.args.q / 134217728) * (c.args.q / 134217728)) + ((c.args.q / 134217728) * (2 * (c.args.q % 134217728) + 1) + (c.args.q % 134217728) * ((c.args.q % 134217728) + 1) / 134217728) / 33554432 in
    same_test c.args.m cut (c.args.m * 2 ^ 52) (c.args.q * (c.args.q + 1)) (λ y. omega (arith, (let product : c.args.q * (c.args.q + 1) ≡ (c.args.q / 134217728) * (c.args.q / 134217728) * 18014398509481984 + (c.args.q / 134217728) * (2 * (c.args.q % 134217728) + 1) * 134217728 + (c.args.q % 134217728) * ((c.args.q % 134217728) + 1) = ap (λ (x : ℕ). x * (x + 1)) (split c.args.q) ∙ expanded ((c.args.q / 134217728)) ((c.args.q % 134217728)) in product))) (λ n. omega (arith, (let product : c.args.q * (c.args.q + 1) ≡ (c.args.q / 134217728) * (c.args.q / 134217728) * 18014398509481984 + (c.args.q / 134217728) * (2 * (c.args.q % 134217728) + 1) * 134217728 + (c.args.q % 134217728) * ((c.args.q % 134217728) + 1) = ap (λ (x : ℕ). x * (x + 1)) (split c.args.q) ∙ expanded ((c.args.q / 134217728)) ((c.args.q % 134217728)) in product)))
