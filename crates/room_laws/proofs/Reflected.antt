-- A block that is reflected, projected and reflected again, by the root of 2 that the code reads.
use Prim.Native.Nat.{ℕ, ◌<◌}
use mathlib.Core.Path.{◌≡◌}
use mathlib.Core.List.{List}
use lib.Ieee.{Float}
use lib.ListN.{length, set}
use Rattle.rules.specs.Arithmetic.{◌+ᶠ◌, ◌-ᶠ◌, ◌/ᶠ◌, at}
use Rattle.rules.specs.Projections.{√2, proj_soc, reflected}
use Rattle.rules.proofs.Projections.{rotated_outside, rotated_inside}

-- the first two: their sum and their difference, each over the root
abbrev reflected_by : Float → Float → Float → List Float → List Float
reflected_by root r s xs = set (set xs 0 ((r +ᶠ s) /ᶠ root)) 1 ((r -ᶠ s) /ᶠ root)

module _ (edition : ℕ) (xs : List Float) (root : Float) (is_root : root ≡ √2) (h : 1 < length xs) {ys zs ws : List Float} (first : ys ≡ reflected_by root (at xs 0) (at xs 1) xs) (ruled : zs ≡ proj_soc edition ys) where
  pub outside_is : ws ≡ reflected zs → ws ≡ reflected (proj_soc edition (reflected xs))
  outside_is e = rotated_outside edition xs h (rw is_root at first) ruled e

  pub inside_is : zs ≡ ys → ws ≡ reflected_by root ((at xs 0 +ᶠ at xs 1) /ᶠ root) ((at xs 0 -ᶠ at xs 1) /ᶠ root) zs → ws ≡ reflected (proj_soc edition (reflected xs))
  inside_is kept e = rotated_inside edition xs h (rw is_root at first) ruled kept (rw is_root at e)
