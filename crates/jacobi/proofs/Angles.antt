-- The angle of a rotation and the test for it, of the three entries that decide them.
use Prim.Native.Nat.{ℕ}
use mathlib.Core.Path.{◌≡◌}
use mathlib.Core.Bool.{◌&&◌}
use mathlib.Core.List.{List}
use lib.Ieee.{Float, lt}
use Rattle.rules.specs.Arithmetic.{◌*ᶠ◌}
use Rattle.rules.specs.Jacobi.{in_packed, tangent, is_rotated}
use Rattle.jacobi.specs.Loops.{CornersOf}

module _ {n i j : ℕ} {x : List Float} {a b d : Float} (e : CornersOf n i j x a b d) where
  pub tangent_read : tangent a b d ≡ tangent (in_packed n x i i) (in_packed n x j j) (in_packed n x i j)
  tangent_read = rw (e.first, e.second, e.shared)

  pub test_read : (tol : Float) → (lt (tol *ᶠ a *ᶠ b) (d *ᶠ d) && lt tol (d *ᶠ d)) ≡ is_rotated n tol i j x
  unfolding is_rotated
  test_read tol = rw (e.first, e.second, e.shared)
