-- Document 01, "What the hub hands over": "The defaults belong to the parameter type: eps_acc and eps_inf are 1/1,000,000, eps_zero is
-- 1/1,000,000,000,000." Each is rounded once.
use Rattle.std.specs.Prelude.{ℕ, false, Float}
use Rattle.std.specs.Float.{binary64}
use Rattle.std.specs.Float.Ieee.{round}
use Rattle.rules.specs.declared.SolverParam.{SolverParam}

-- 1/n, rounded once
abbrev pub one_over : ℕ → Float
one_over n = round binary64 false 1 n

-- all parameters, made in this one place; by request (x) of document 02 "Parameters gain log_period (any 32-bit number, 0 means none)", and by (xi) "an edition, chosen by
-- a parameter"
abbrev pub param_made : ℕ → Float → Float → Float → ℕ → ℕ → ℕ → SolverParam
param_made max_iter eps_acc eps_inf eps_zero sweep_limit log_period edition =
    record {
      max_iter = max_iter;
      eps_acc = eps_acc;
      eps_inf = eps_inf;
      eps_zero = eps_zero;
      sweep_limit = sweep_limit;
      log_period = log_period;
      «edition» = edition;
    }

-- those with these limits and tolerances, no progress record and edition one; and the same parameters but for eps_zero, for log_period or for the edition
abbrev pub param_of : ℕ → Float → Float → Float → ℕ → SolverParam
param_of max_iter eps_acc eps_inf eps_zero sweep_limit = param_made max_iter eps_acc eps_inf eps_zero sweep_limit 0 1

abbrev pub with_eps_zero : SolverParam → Float → SolverParam
with_eps_zero par eps_zero =
    param_made par.max_iter par.eps_acc par.eps_inf eps_zero par.sweep_limit par.log_period par.«edition»

abbrev pub with_log_period : SolverParam → ℕ → SolverParam
with_log_period par log_period =
    param_made par.max_iter par.eps_acc par.eps_inf par.eps_zero par.sweep_limit log_period par.«edition»

abbrev pub with_edition : SolverParam → ℕ → SolverParam
with_edition par edition =
    param_made par.max_iter par.eps_acc par.eps_inf par.eps_zero par.sweep_limit par.log_period edition

unfoldable pub defaults : ℕ → ℕ → SolverParam
unfolding round
defaults max_iter sweep_limit =
    param_of max_iter (one_over 1_000_000) (one_over 1_000_000) (one_over 1_000_000_000_000) sweep_limit
