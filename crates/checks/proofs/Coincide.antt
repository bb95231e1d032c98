-- Any two answers that a contract of this crate allows coincide.
use Prim.Native.Nat.{ℕ}
use mathlib.Core.Path.{◌≡◌}
use mathlib.Core.List.{List}
use lib.Ieee.{Float}
use Rattle.rules.specs.declared.Cols.{Cols}
use Rattle.rules.specs.declared.Rows.{Rows}
use Rattle.rules.specs.declared.SolverParam.{SolverParam}
use Rattle.rules.specs.declared.Storage.{Storage}
use Rattle.rules.specs.Problem.{problem_of}
use Rattle.rules.specs.Refusals.{Refusal, refusal}
use Rattle.rules.specs.Split.{SplitProblem, split_refusal}
use Rattle.rules.proofs.Outcome.{results_coincide}

pub any_two_checks_coincide : (par : SolverParam) (rows : Rows) (cols : Cols) (storage : Storage) (c a b : List Float) (words : List ℕ) (work cone : ℕ) (r r' : Refusal)
    → r ≡ refusal (problem_of rows.0 cols.0 storage c a b words par) work cone
    → r' ≡ refusal (problem_of rows.0 cols.0 storage c a b words par) work cone
    → r ≡ r'
any_two_checks_coincide par rows cols storage c a b words work cone r r' p q = results_coincide p q

pub any_two_split_checks_coincide : (p : SplitProblem) (work cone : ℕ) (r r' : Refusal) → r ≡ split_refusal p work cone → r' ≡ split_refusal p work cone → r ≡ r'
any_two_split_checks_coincide p work cone r r' e f = results_coincide e f
