-- What the parts of a piece ask and leave.
use Rattle.std.specs.Prelude.{ℕ, ◌+◌, ◌-◌, ◌^◌, ◌≤◌, ◌<◌, ◌≡◌, Bool, true, false, List, Float, length}
use Rattle.rules.specs.declared.Ending.{Ending}
use Rattle.rules.specs.declared.Ending.TheVariants.{ExcessIterUnscaled}
use Rattle.rules.specs.declared.Norms.{Norms}
use Rattle.rules.specs.declared.SolverParam.{SolverParam}
use Rattle.rules.specs.Arithmetic.{+0}
use Rattle.rules.specs.Limits.{most_steps}
use Rattle.rules.specs.Product.{cone_work}
use Rattle.rules.specs.Problem.{Problem, blocks, work_length}
use Rattle.rules.specs.Step.{State}
use Rattle.rules.specs.Run.{Verdict, GoesOn, Ends, piece_from, is_cone_failure, allowance}
use Rattle.rules.specs.Progress.{Log, untouched, log_from}
use Rattle.iterate.specs.declared.Iterated.{Iterated}
use Rattle.iterate.specs.declared.RowCounts.{RowCounts}
use Rattle.iterate.specs.Iterate.{counts_of, iterated}
use Rattle.piece_rules.specs.declared.PieceAnswer.{PieceAnswer}
use Rattle.piece_rules.specs.declared.PieceAnswer.TheVariants.{Halted, Ended}
use Rattle.piece_rules.specs.declared.RunLengths.{RunLengths}
use Rattle.piece_rules.specs.declared.RunRecord.{RunRecord}
use Rattle.piece_rules.specs.Pieces.{most_rotations}

-- buffers that are long enough: of cone work the required part
pub record Lent (p : Problem) (work cone : List Float) : Type 0 where
  pub steps : p.par.max_iter ≤ most_steps
  pub work_long : work_length p.m p.n ≤ length work
  pub cone_long : length cone ≡ cone_work (blocks p)

-- what is behind a piece: so many steps, rotations and rows, few enough that those to come can be added
pub record Behind (k q : ℕ) (rows : RowCounts) : Type 0 where
  pub steps : k ≤ most_steps
  pub few_rotations : q ≤ 2 ^ 62
  pub few_rows : rows.written + rows.dropped ≤ k

-- a record of these places, with its rows so far
abbrev pub log_of : RowCounts → List Float → Log
log_of rows places = record { places = places; written = rows.written; dropped = rows.dropped }

-- the ending by which the vectors come into work: that of the run, or, of a piece that halts, one that leaves x and y unscaled
abbrev pub laid_by : Verdict → Ending
laid_by GoesOn = ExcessIterUnscaled +0 +0
laid_by (Ends e) = e

-- what the steps of a piece come to, from 0 rotations and no rows on: the state is left but where a cone failed
pub record SomeSteps (given : ℕ) (p : Problem) (ns : Norms) (behind : ℕ) (s : State) (log : List Float) (answer : Iterated) (s' : State) (log' : List Float) : Type 0 where
  pub answered :
      answer
      ≡ iterated (piece_from given p ns behind 0 s).said (piece_from given p ns behind 0 s).steps (piece_from given p ns behind 0 s).rotations (counts_of (log_from p ns behind s (untouched log) ((piece_from given p ns behind 0 s).steps - behind)))
  pub left : is_cone_failure (laid_by (piece_from given p ns behind 0 s).said) ≡ false → s' ≡ (piece_from given p ns behind 0 s).state
  pub log_left : log' ≡ (log_from p ns behind s (untouched log) ((piece_from given p ns behind 0 s).steps - behind)).places

-- counts that can be added
pub record Counted (q : ℕ) (rows : RowCounts) (made : ℕ) (new : RowCounts) : Type 0 where
  pub rotations : q + made < 2 ^ 64
  pub written : rows.written + new.written < 2 ^ 64
  pub dropped : rows.dropped + new.dropped < 2 ^ 64

-- the answer, by what the steps came to
module _ (lengths : RunLengths) (par : SolverParam) (ns : Norms) (tau : Float) (q : ℕ) (rows : RowCounts) where
  abbrev pub kept_by : ℕ → ℕ → RowCounts → Bool → RunRecord
  kept_by k made new ended =
      record {
        lengths = lengths;
        par = par;
        norms = ns;
        tau = tau;
        steps = k;
        rotations = q + made;
        written = rows.written + new.written;
        dropped = rows.dropped + new.dropped;
        ended = ended;
      }

  abbrev pub told_by : Verdict → ℕ → ℕ → RowCounts → PieceAnswer
  told_by GoesOn k made new = Halted (kept_by k made new false)
  told_by (Ends e) k made new =
      Ended
      (record {
        answer = record { ending = e; steps = k; rotations = q + made };
        written = rows.written + new.written;
        dropped = rows.dropped + new.dropped;
      })
      (kept_by k made new true)

-- what a record that is not stale says of what is behind, over the plain words of the list
pub record Fresh (r : RunRecord) (p : Problem) : Type 0 where
  pub steps : r.steps < allowance p.par
  pub rotations : r.rotations ≤ most_rotations p.par (blocks p) r.steps
  pub rows : r.written + r.dropped ≤ r.steps
