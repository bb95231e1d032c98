-- The complete outcome of one step.
use Rattle.std.specs.Prelude.{ℕ, ◌≡◌, Bool, cond, ◌&&◌, List, Float, length, Option, Some, None}
use Rattle.rules.specs.declared.Product.{Product}
use Rattle.rules.specs.declared.Shape.{Shape}
use Rattle.rules.specs.declared.SolverParam.{SolverParam}
use Rattle.rules.specs.Product.{is_none, product_answer, lengths_fit}
use Rattle.rules.specs.Problem.{Problem, Slices}
use Rattle.rules.specs.Step.{State, moved_x, projected, updated}
use Rattle.shape.specs.Fitting.{operators_fit, fits_x, fits_y, Fits, LikeX, LikeY}
use Rattle.project.specs.Project.{ConesReady}

abbrev pub state_of : List Float → List Float → List Float → List Float → List Float → List Float → List Float → State
state_of x y dp_tau dp_sigma rx tx cone =
    record { x = x; y = y; dp_tau = dp_tau; dp_sigma = dp_sigma; rx = rx; tx = tx; cone = cone }

-- A step that a cone's failure stopped: x, and tau with it, is moved, and its blocks are projected up to the one that failed; tau is not yet taken at 0; rx
-- holds the old x, tx what the operator gave; y is as it was.
unfoldable pub stopped : Problem → State → State
unfolding moved_x projected
stopped p s =
    let s' = moved_x p s in
    let q = projected p s'.x s'.cone in
    state_of q.cone s'.y s'.dp_tau s'.dp_sigma s'.rx s'.tx q.work

-- what a step leaves
unfoldable pub stepped : Problem → State → State
unfolding updated stopped
stepped p s = cond (is_none (updated p s).failure) (updated p s).state (stopped p s)

-- The sizes are within the limits, and each length is as they say.
abbrev pub vectors_fit : Shape → List Float → List Float → List Float → List Float → List Float → List Float → Bool
vectors_fit shape x y dp_tau dp_sigma rx tx =
    fits_x shape x && fits_y shape y && fits_x shape dp_tau && fits_y shape dp_sigma && fits_x shape rx && fits_x shape tx

abbrev pub step_fits : SolverParam → Shape → List Float → Slices → List Float → List ℕ → State → Bool
step_fits par shape c a b words s =
    vectors_fit shape s.x s.y s.dp_tau s.dp_sigma s.rx s.tx && operators_fit shape c a b
    && lengths_fit par words shape.rows.0 (length s.cone)

-- the same, part by part
pub record StepReady (par : SolverParam) (shape : Shape) (c : List Float) (a : Slices) (b : List Float) (words : List ℕ) (s : State) : Type 0 where
  pub operators : Fits shape c a b
  pub cones : ConesReady par shape.rows.0 words (length s.cone)
  pub x_like : LikeX shape s.x
  pub y_like : LikeY shape s.y
  pub tau_like : LikeX shape s.dp_tau
  pub sigma_like : LikeY shape s.dp_sigma
  pub rx_like : LikeX shape s.rx
  pub tx_like : LikeX shape s.tx

-- It answers the step's rotations, or the block that failed with the rotations up to there, where all fits, and no where it doesn't. The vectors and cone
-- work hold what the rule says, place by place, or what they held before.
pub record StepOutcome (fits : Bool) (p : Problem) (s : State) (answer : Option Product) (s' : State) : Type 0 where
  pub answered : answer ≡ cond fits (Some (product_answer (updated p s).rotations (updated p s).failure)) None
  pub left : s' ≡ cond fits (stepped p s) s
