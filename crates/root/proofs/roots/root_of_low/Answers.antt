-- `root::roots::root_of_low` meets its contract. The loop's invariant: the number is as it was, its digits moved up. The measure is how far they can still go. Assumes nothing.
use native.Mathlib.Omega.{arith}
use Prim.Native.Nat.{ℕ, suc, ◌+◌, ◌-◌, ◌*◌, ◌%◌, ◌^◌, ◌≤◌, ◌<◌}
use mathlib.Core.Path.{◌≡◌, refl, sym, ap, ◌∙◌}
use native.Mathlib.Nat.{mul_assoc, pow-succ'}
use lib.Ieee.{binary64}
use Rattle.rules.specs.Root.{root_of_units}
use Rattle.rules.proofs.RootPatterns.{root_of_low, even_places, moved, places_left}
use Rattle.root.proofs.roots.root_of_low.Goals as goal

-- twice the digits, one place lower
lower : (t p : ℕ) → 1 ≤ p → t * 2 * 2 ^ (p - 1) ≡ t * 2 ^ p
lower t p h = mul_assoc t 2 (2 ^ (p - 1)) ∙ ap (λ (x : ℕ). t * x) (sym (pow-succ' 2 (p - 1)) ∙ ap (λ (x : ℕ). 2 ^ x) (next p h))
  where
    next : (p : ℕ) → 1 ≤ p → suc (p - 1) ≡ p
    next p h = omega arith

pub loop-t-init : goal.loop-t-init
loop-t-init c = (c.requires.0, omega arith, omega arith, refl)

pub loop-t-preserved : goal.loop-t-preserved
loop-t-preserved c = (omega arith, omega arith, omega arith, lower c.loop-t.t c.loop-t.places (omega (arith, (let left : 1022 ≤ c.loop-t.places = places_left c.args.b c.loop-t.t c.loop-t.places c.requires.0 c.loop-t.invariant.1 c.loop-t.invariant.3 in left))) ∙ c.loop-t.invariant.3)

pub root_by_halving-requires : goal.root_by_halving-requires
root_by_halving-requires c = record { least = ((let moved_up : (2 ^ 52 ≤ c.loop-t.t * (1 + c.loop-t.places % 2)) × (c.loop-t.t * (1 + c.loop-t.places % 2) + 1 < 2 ^ 54) = moved c.loop-t.t c.loop-t.places c.loop-t-test.false c.loop-t.invariant.1 in moved_up)).0; most = ((let moved_up : (2 ^ 52 ≤ c.loop-t.t * (1 + c.loop-t.places % 2)) × (c.loop-t.t * (1 + c.loop-t.places % 2) + 1 < 2 ^ 54) = moved c.loop-t.t c.loop-t.places c.loop-t-test.false c.loop-t.invariant.1 in moved_up)).1; place = omega arith }

pub returns : goal.returns
returns c = c.root_by_halving.ensures
    ∙ ap (root_of_units binary64) (sym (even_places c.loop-t.t c.loop-t.places (omega (arith, (let left : 1022 ≤ c.loop-t.places = places_left c.args.b c.loop-t.t c.loop-t.places c.requires.0 c.loop-t.invariant.1 c.loop-t.invariant.3 in left)))) ∙ c.loop-t.invariant.3)
    ∙ sym (root_of_low c.args.b c.requires.0 c.requires.1)
