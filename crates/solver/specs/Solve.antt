-- What the pieces of an accepted run ask and leave, up to the whole of it.
use Rattle.std.specs.Prelude.{ℕ, ◌≤◌, ◌≡◌, true, false, cond, List, ◌++◌, Float, length, drop}
use Rattle.rules.specs.declared.Answer.{Answer}
use Rattle.rules.specs.declared.Ending.{Ending}
use Rattle.rules.specs.declared.Logged.{Logged}
use Rattle.rules.specs.declared.Shape.{Shape}
use Rattle.rules.specs.declared.SolverParam.{SolverParam}
use Rattle.rules.specs.Limits.{most_words, most_steps}
use Rattle.rules.specs.Blocks.{has_bad_word, blocks_of, total_places}
use Rattle.rules.specs.Groups.{plain_words}
use Rattle.rules.specs.Projections.{sweeps_fit}
use Rattle.rules.specs.Product.{cone_work}
use Rattle.rules.specs.Problem.{Problem, Slices, blocks, length_x, length_y, work_length}
use Rattle.rules.specs.Prepare.{zeros}
use Rattle.rules.specs.Run.{Verdict, ending_of, Ended, run, laid_out, is_cone_failure, left_by}
use Rattle.rules.specs.Progress.{LoggedLeft, with_log, log_after}
use Rattle.shape.specs.Fitting.{Fits}
use Rattle.iterate.specs.declared.RowCounts.{RowCounts}

-- a problem that was not turned away, as the run reads it
pub record Ready (shape : Shape) (c : List Float) (a : Slices) (b : List Float) (words : List ℕ) (par : SolverParam) : Type 0 where
  pub operators : Fits shape c a b
  pub readable : has_bad_word words ≡ false
  pub places : total_places (blocks_of words) ≡ shape.rows.0
  pub sweeps : sweeps_fit par ≡ true

-- ---- a run

-- a problem that was accepted, with buffers that are long enough: of cone work the required part
pub record Lent (shape : Shape) (c : List Float) (a : Slices) (b : List Float) (words : List ℕ) (par : SolverParam) (work cone : List Float) : Type 0 where
  pub ready : Ready shape c a b words par
  pub steps : par.max_iter ≤ most_steps
  pub work_long : work_length shape.rows.0 shape.cols.0 ≤ length work
  pub cone_long : length cone ≡ cone_work (blocks_of words)

-- the six vectors as a run finds them
pub record AtZero (shape : Shape) (x y dp_tau dp_sigma rx tx : List Float) : Type 0 where
  pub x_zero : x ≡ zeros (length_x shape.rows.0 shape.cols.0)
  pub y_zero : y ≡ zeros (length_y shape.rows.0 shape.cols.0)
  pub tau_zero : dp_tau ≡ zeros (length_x shape.rows.0 shape.cols.0)
  pub sigma_zero : dp_sigma ≡ zeros (length_y shape.rows.0 shape.cols.0)
  pub rx_zero : rx ≡ zeros (length_x shape.rows.0 shape.cols.0)
  pub tx_zero : tx ≡ zeros (length_x shape.rows.0 shape.cols.0)

-- what is answered with this ending, steps and rotations, and these rows
abbrev pub logged_by : Ending → ℕ → ℕ → RowCounts → Logged
logged_by e k q counts =
    record { answer = record { ending = e; steps = k; rotations = q }; written = counts.written; dropped = counts.dropped }

-- the answer to a problem that is turned away
abbrev pub turned_away_by : Ending → Logged
turned_away_by e = record { answer = record { ending = e; steps = 0; rotations = 0 }; written = 0; dropped = 0 }

abbrev pub answer_of : Ended → Answer
answer_of e = record { ending = e.ending; steps = e.steps; rotations = e.rotations }

-- the same of what a piece of a run answers
abbrev pub answer_by : Verdict → ℕ → ℕ → RowCounts → Logged
answer_by said k q counts = logged_by (ending_of said) k q counts

-- what an accepted run leaves, by the rule, with its record
abbrev pub left_logged : Problem → List Float → List Float → List Float → LoggedLeft
left_logged p work cone log = with_log (left_by p work cone (run p)) (log_after p log (run p).steps)

-- what the whole run leaves; of cone work the required part
pub record RanIn (p : Problem) (work log : List Float) (answer : Logged) (work' cone' log' : List Float) : Type 0 where
  pub answered : answer ≡ record { answer = answer_of (run p); written = (log_after p log (run p).steps).written; dropped = (log_after p log (run p).steps).dropped }
  pub work_is : work' ≡ cond (is_cone_failure (run p).ending) (zeros (work_length p.m p.n)) (laid_out p (run p).ending (run p).state) ++ drop (work_length p.m p.n) work
  pub cone_is : cone' ≡ cond (is_cone_failure (run p).ending) (zeros (cone_work (blocks p))) (run p).state.cone
  pub log_is : log' ≡ (log_after p log (run p).steps).places

-- a problem that was accepted, with buffers that are long enough
pub record Taken (shape : Shape) (c : List Float) (a : Slices) (b : List Float) (words : List ℕ) (par : SolverParam) (work cone : List Float) : Type 0 where
  pub ready : Ready shape c a b words par
  pub steps : par.max_iter ≤ most_steps
  pub work_long : work_length shape.rows.0 shape.cols.0 ≤ length work
  pub cone_long : cone_work (blocks_of words) ≤ length cone

-- the same with its list as it was lent: the run is over the plain words
pub record Handed (shape : Shape) (c : List Float) (a : Slices) (b : List Float) (words : List ℕ) (par : SolverParam) (work cone : List Float) : Type 0 where
  pub taken : Taken shape c a b (plain_words words) par work cone
  pub few_words : length words ≤ most_words
