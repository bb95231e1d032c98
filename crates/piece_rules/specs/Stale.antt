-- Request (xii) of document 02, refusal 7 in words: when a run record is stale. `proofs/Stale.antt` proves that `stale_run` (Pieces.antt) says so.
use Rattle.std.specs.Prelude.{◌+◌, ◌≤◌, ◌<◌, ◌≡◌, ◌↔◌, true}
use Rattle.std.specs.Float.{binary64}
use Rattle.std.specs.Float.Ieee.{to_bits}
use Rattle.piece_rules.specs.declared.RunLengths.{RunLengths}
use Rattle.piece_rules.specs.declared.RunRecord.{RunRecord}
use Rattle.rules.specs.declared.SolverParam.{SolverParam}
use Rattle.rules.specs.Problem.{Problem, blocks, as_read}
use Rattle.rules.specs.Run.{allowance}
use Rattle.piece_rules.specs.Pieces.{most_rotations, stale_run}

-- "parameters (as bits ..)"
pub record SameParameters (one other : SolverParam) : Type 0 where
  pub steps : one.max_iter ≡ other.max_iter
  pub acc : to_bits binary64 one.eps_acc ≡ to_bits binary64 other.eps_acc
  pub inf : to_bits binary64 one.eps_inf ≡ to_bits binary64 other.eps_inf
  pub zero : to_bits binary64 one.eps_zero ≡ to_bits binary64 other.eps_zero
  pub sweeps : one.sweep_limit ≡ other.sweep_limit
  pub period : one.log_period ≡ other.log_period
  pub edition : one.«edition» ≡ other.«edition»

-- of the problem as it is read, so that an eps_zero of −0 stands there as +0
pub data Stale (r : RunRecord) (lengths : RunLengths) (p : Problem) : Type 0 where
  -- "lengths or parameters (..) differ from the record"
  other_lengths : (r.lengths ≡ lengths → ⊥) → Stale r lengths p
  other_parameters : (SameParameters (as_read r.par) p.par → ⊥) → Stale r lengths p
  -- "its k is not below the allowance"
  no_step_left : allowance p.par ≤ r.steps → Stale r lengths p
  -- "its q is above demand 3's bound for that k"
  too_many_rotations : most_rotations p.par (blocks p) r.steps < r.rotations → Stale r lengths p
  -- "its rows written and dropped together exceed k"
  too_many_rows : r.steps < r.written + r.dropped → Stale r lengths p
  -- "or the run has ended"
  has_ended : r.ended ≡ true → Stale r lengths p

pub record StaleExactly (r : RunRecord) (lengths : RunLengths) (p : Problem) : Type 0 where
  pub exactly : (stale_run r lengths p ≡ true) ↔ Stale r lengths p
