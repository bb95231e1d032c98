-- The words of the theorems on writing and reading a record.
use Rattle.std.specs.Prelude.{ℕ, ◌^◌, ◌<◌, List, T, Float, get_or}
use Rattle.std.specs.Float.{binary64}
use Rattle.std.specs.Float.Ieee.{fits}
use Rattle.piece_rules.specs.declared.RunRecord.{RunRecord}

-- every word has 64 bits
abbrev pub AreWords : List ℕ → Type 0
AreWords words = (i : ℕ) → get_or words i 0 < 2 ^ 64

-- a value of binary64
abbrev pub IsF64 : Float → Type 0
IsF64 x = T (fits binary64 x)

-- a record whose fields hold what their types hold, as every one does that a program has
pub record Representable (r : RunRecord) : Type 0 where
  pub cols_fits : r.lengths.cols < 2 ^ 64
  pub rows_fits : r.lengths.rows < 2 ^ 64
  pub words_fits : r.lengths.words < 2 ^ 64
  pub work_fits : r.lengths.work < 2 ^ 64
  pub cone_work_fits : r.lengths.cone_work < 2 ^ 64
  pub log_fits : r.lengths.log < 2 ^ 64
  pub max_iter_fits : r.par.max_iter < 2 ^ 64
  pub eps_acc_fits : IsF64 r.par.eps_acc
  pub eps_inf_fits : IsF64 r.par.eps_inf
  pub eps_zero_fits : IsF64 r.par.eps_zero
  pub sweep_limit_fits : r.par.sweep_limit < 2 ^ 64
  pub log_period_fits : r.par.log_period < 2 ^ 32
  pub edition_fits : r.par.«edition» < 2 ^ 32
  pub norm_b_fits : IsF64 r.norms.b
  pub norm_c_fits : IsF64 r.norms.c
  pub tau_fits : IsF64 r.tau
  pub steps_fits : r.steps < 2 ^ 64
  pub rotations_fits : r.rotations < 2 ^ 64
  pub written_fits : r.written < 2 ^ 64
  pub dropped_fits : r.dropped < 2 ^ 64
