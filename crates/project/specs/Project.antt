-- Document 01, "One step, in order": "projects all dual blocks, then all primal blocks", of a vector like x.
use Rattle.std.specs.Prelude.{ℕ, ◌≤◌, ◌≡◌, Bool, true, false, ◌&&◌, List, [], Float, length}
use Rattle.rules.specs.declared.Shape.{Shape}
use Rattle.rules.specs.declared.SolverParam.{SolverParam}
use Rattle.rules.specs.Limits.{limit}
use Rattle.rules.specs.Blocks.{has_bad_word, blocks_of, total_places}
use Rattle.rules.specs.Projections.{sweeps_fit}
use Rattle.rules.specs.Product.{Passed, cone_work, lengths_fit}
use Rattle.rules.specs.Problem.{problem_in, slices}
use Rattle.rules.specs.Step.{projected}
use Rattle.shape.specs.Fitting.{fits_x}

-- the projection of a problem, of which it reads no more than this
abbrev pub projected_in : SolverParam → Shape → List ℕ → List Float → List Float → Passed
projected_in par shape words x cone = projected (problem_in shape [] (slices [] []) [] words par) x cone

-- a vector like x, a list of cones for m places, cone work that is long enough, and a sweep limit within its range
abbrev pub project_fits : SolverParam → Shape → List ℕ → List Float → List Float → Bool
project_fits par shape words x cone = fits_x shape x && lengths_fit par words shape.rows.0 (length cone)

-- the latter three, part by part
pub record ConesReady (par : SolverParam) (m : ℕ) (words : List ℕ) (cone : ℕ) : Type 0 where
  pub within : m ≤ limit
  pub readable : has_bad_word words ≡ false
  pub places : total_places (blocks_of words) ≡ m
  pub sweeps : sweeps_fit par ≡ true
  pub enough : cone_work (blocks_of words) ≤ cone
