-- An eps_zero of -0 is read as +0.
use mathlib.Core.Path.{◌≡◌}
use mathlib.Core.Bool.{true, false}
use lib.Ieee.{eq}
use Rattle.rules.specs.declared.SolverParam.{SolverParam}
use Rattle.rules.specs.Arithmetic.{+0}
use Rattle.rules.specs.Parameters.{with_eps_zero}
use Rattle.rules.specs.Problem.{as_read}

pub read_zero : (par : SolverParam) → eq par.eps_zero +0 ≡ true
    → with_eps_zero par +0 ≡ as_read par
unfolding as_read
read_zero par e = rw e

pub read_other : (par : SolverParam) → eq par.eps_zero +0 ≡ false → par ≡ as_read par
unfolding as_read
read_other par e = rw e
