-- Document 02, (i), "A problem file for the bench": the problem that a card says.
use Rattle.std.specs.Prelude.{ℕ, ◌+◌, List, Float, get_or}
use Rattle.std.specs.Float.{binary64}
use Rattle.std.specs.Float.Ieee.{of_bits}
use Rattle.rules.specs.declared.SolverParam.{SolverParam}
use Rattle.rules.specs.Refusals.{is_packed}
use Rattle.rules.specs.Arithmetic.{tabulate}
use Rattle.rules.specs.Parameters.{param_of}
use Rattle.rules.specs.Problem.{Problem, problem_of}
use Rattle.card.specs.Card.{Card, numbers_of_a}
use Rattle.card.specs.Outcome.{head_of}
use Rattle.card.specs.declared.CardHead.{CardHead}
pub use Rattle.card.specs.Outcome.{storage_of}

-- ---- "eps_acc, eps_inf, eps_zero, c, A, b"

-- the number that a card has at a place
abbrev pub number_at : List ℕ → ℕ → Float
number_at numbers k = of_bits binary64 (get_or numbers k 0)

-- so many from a place on
unfoldable pub numbers_at : List ℕ → ℕ → ℕ → List Float
unfolding tabulate
numbers_at numbers from count = tabulate count (λ k. number_at numbers (from + k))

unfoldable pub parameters_of : ℕ → ℕ → List ℕ → SolverParam
parameters_of max_iter sweep_limit numbers =
    param_of max_iter (number_at numbers 0) (number_at numbers 1) (number_at numbers 2) sweep_limit

-- the problem of a card's head and lists
unfoldable pub problem_from : CardHead → List ℕ → List ℕ → Problem
unfolding numbers_at parameters_of
problem_from head words numbers =
    let m = head.rows.0 in
    let n = head.cols.0 in
    let stored = numbers_of_a (is_packed head.storage) n m in
    problem_of m n head.storage
    (numbers_at numbers 3 n)
    (numbers_at numbers (3 + n) stored)
    (numbers_at numbers (3 + n + stored) m)
    words
    (parameters_of head.max_iter head.sweep_limit numbers)

abbrev pub problem_of_card : Card → Problem
problem_of_card k = problem_from (head_of k) k.words k.numbers
