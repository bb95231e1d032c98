-- Document 01, "One step, in order": what stands before the first step, what it asks and what it leaves.
use Rattle.std.specs.Prelude.{ℕ, ◌≡◌, Bool, cond, ◌&&◌, List, Float, Option, Some, None}
use Rattle.rules.specs.declared.Norms.{Norms}
use Rattle.rules.specs.declared.Shape.{Shape}
use Rattle.rules.specs.Arithmetic.{+0}
use Rattle.rules.specs.Vectors.{scaled}
use Rattle.rules.specs.Problem.{Problem, Slices, Embed, embed}
use Rattle.rules.specs.Prepare.{norms, start_x, dp_tau_of, dp_sigma_of}
use Rattle.shape.specs.Fitting.{fits_x, fits_y}
use Rattle.precond.specs.Precond.{precond_fits}

-- the sizes are within the limits, the problem, x, y and the two diagonals have the lengths that they ask, and the cone list is no BadCone
abbrev pub prepare_fits : Shape → List Float → Slices → List Float → List ℕ → List Float → List Float → List Float → List Float → Bool
prepare_fits shape c a b words x y tau sigma = fits_x shape x && fits_y shape y && precond_fits shape c a b words tau sigma

-- The complete outcome: the norms, and in the four vectors what the rules say; or, where something doesn't fit, a plain no, and they hold what they held before.
pub record PreparedOutcome (fits : Bool) (p : Problem) (x y tau sigma : List Float) (answer : Option Norms) (x' y' tau' sigma' : List Float) : Type 0 where
  pub answered : answer ≡ cond fits (Some (norms (embed p) x)) None
  pub x_left : x' ≡ cond fits (start_x (embed p) x) x
  pub y_left : y' ≡ cond fits (scaled +0 y) y
  pub tau_left : tau' ≡ cond fits (dp_tau_of p tau) tau
  pub sigma_left : sigma' ≡ cond fits (dp_sigma_of p tau) sigma

-- the same of norms, x and y alone, where all fits
pub record Started (k : Embed) (x y : List Float) (answer : Norms) (x' y' : List Float) : Type 0 where
  pub norms_are : answer ≡ norms k x
  pub x_is : x' ≡ start_x k x
  pub y_is : y' ≡ scaled +0 y
