-- The complete outcome of a piece of a run.
use Rattle.std.specs.Prelude.{ℕ, ◌-◌, max, ◌≡◌, Bool, cond, List, Float, Option, Some, None}
use Rattle.rules.specs.declared.Norms.{Norms}
use Rattle.rules.specs.Problem.{Problem}
use Rattle.rules.specs.Step.{State}
use Rattle.rules.specs.Run.{Verdict, Piece, piece_from, state_from}
use Rattle.rules.specs.Progress.{Log, untouched, log_from}
use Rattle.whole_step.specs.WholeStep.{left_by_step}
use Rattle.iterate.specs.declared.Iterated.{Iterated}
use Rattle.iterate.specs.declared.RowCounts.{RowCounts}

-- so many steps from s, one at least, when others are behind
abbrev pub piece_of : Problem → Norms → ℕ → ℕ → State → Piece
piece_of p ns behind given s = piece_from (max given 1) p ns behind 0 s

-- the state before the last of them
abbrev pub before_last : Problem → Norms → ℕ → ℕ → State → State
before_last p ns behind given s = state_from p ns s ((piece_of p ns behind given s).steps - behind - 1)

-- the progress record that they leave, in places that were lent for it
abbrev pub record_of : Problem → Norms → ℕ → ℕ → State → List Float → Log
record_of p ns behind given s log = log_from p ns behind s (untouched log) ((piece_of p ns behind given s).steps - behind)

abbrev pub counts_of : Log → RowCounts
counts_of log = record { written = log.written; dropped = log.dropped }

abbrev pub iterated : Verdict → ℕ → ℕ → RowCounts → Iterated
iterated said steps rotations rows = record { said = said; steps = steps; rotations = rotations; rows = rows }

-- It answers what the last step said, the steps by then, the rotations made and the rows of the record, where all fits, and no where it doesn't. The vectors, cone
-- work and the record hold what that step left, place by place, or what they held before.
pub record IterateOutcome (fits : Bool) (p : Problem) (ns : Norms) (behind given : ℕ) (s : State) (log : List Float) (answer : Option Iterated) (s' : State) (log' : List Float) : Type 0 where
  pub answered :
      answer
      ≡ cond fits (Some (iterated (piece_of p ns behind given s).said (piece_of p ns behind given s).steps (piece_of p ns behind given s).rotations (counts_of (record_of p ns behind given s log)))) None
  pub left : s' ≡ cond fits (left_by_step p ns (before_last p ns behind given s)) s
  pub log_left : log' ≡ cond fits (record_of p ns behind given s log).places log
