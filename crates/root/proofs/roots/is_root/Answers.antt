-- `root::roots::is_root` meets its contract: a guess that passes both tests has the root's pattern. Assumes nothing.
use native.Mathlib.Omega.{arith}
use Prim.Native.Nat.{ℕ, ◌+◌, ◌-◌, ◌*◌, ◌/◌, ◌%◌, ◌^◌, ◌≤◌, ◌<◌}
use mathlib.Core.Path.{◌≡◌, refl, sym, ap, ◌∙◌, subst}
use borrow.Author.Tests.{leb-true, leb-false, not-true}
use lib.Dec.{T}
use lib.Ieee.{Float, binary64, fits, to_bits, of_bits}
use lib.Ieee.Bits.{of_bits-to_bits}
use Rattle.rules.specs.Root.{root_of_units}
use Rattle.rules.proofs.Root.{at_most, above_last}
use Rattle.rules.proofs.RootPatterns.{root-pattern}
use Rattle.root.specs.Root.{Digits}
use Rattle.root.proofs.roots.is_root.Goals as goal

whole-pattern : (b k : ℕ) → b / 2 ^ 52 ≡ k + 1 → k * 2 ^ 52 + (b % 2 ^ 52 + 2 ^ 52) ≡ b
whole-pattern b k h = omega arith

-- by the digits q of g's pattern
is_nearest : (g : Float) (m k b q : ℕ) → T (fits binary64 g) → b ≡ to_bits binary64 g → q ≡ b % 2 ^ 52 + 2 ^ 52 → b / 2 ^ 52 ≡ k + 1 → Digits m k → m * 2 ^ 52 ≤ q * (q + 1) → (q - 1) * (q - 1 + 1) < m * 2 ^ 52
    → g ≡ root_of_units binary64 (m * 2 ^ 52 * (2 ^ k * 2 ^ k))
is_nearest g m k b q good is_b is-q place digits up down =
    let n = m * 2 ^ 52 in
    let back : q - 1 + 1 ≡ q = omega arith in
    sym (of_bits-to_bits binary64 g good)
    ∙ ap (of_bits binary64) (sym is_b ∙ sym (whole-pattern b k place) ∙ ap (λ (x : ℕ). k * 2 ^ 52 + x) (sym is-q))
    ∙ sym (root-pattern q m k (omega arith) (omega arith) digits.place digits.least (omega (arith, digits.most)) (subst (λ (x : ℕ). x * x < n + x) back (above_last (q - 1) n down), at_most q n up))

pub returns-then-enough : goal.returns-then-enough
returns-then-enough c = let b = to_bits binary64 c.args.g in
    let q = b % 2 ^ 52 + 2 ^ 52 in
    λ e. is_nearest c.args.g c.args.m c.args.k b q ((let held : T (fits binary64 c.args.g) = subst T (sym c.well_formed.0.1) tt in held)) refl refl c.if-b-k.false c.requires
    (leb-true (c.args.m * 2 ^ 52) (q * (q + 1)) (sym c.enough.ensures ∙ c.if-enough.true))
    (leb-false (c.args.m * 2 ^ 52) ((q - 1) * (q - 1 + 1)) (sym c.enough-then-enough.ensures ∙ not-true c.enough-then-enough.result e))
