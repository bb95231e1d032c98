-- What the functions that make a text are held to: a text that grows in a buffer, the name of an ending, and the sizes of what is told.
use Rattle.std.specs.Prelude.{ℕ, List, [], Option, Some, None, Result, Ok, Err}
use Rattle.rules.specs.declared.Ending.{Ending}
use Rattle.rules.specs.declared.Ending.TheVariants.{BadParam, TooLarge, InvalidOp, BadCone, NotFinite, WorkShortage, Converged, ExcessIter, ExcessIterUnscaled, Unbounded, Infeasible, ConeFailure}
use Rattle.rules.specs.declared.Answer.{Answer}
use Rattle.card.specs.declared.Fault.{Fault}
use Rattle.card_problem.specs.declared.Told.{Told}
pub use Rattle.rules.specs.Growing.{Grown}
use Rattle.card_text.specs.Text.{converged, excess_iter, unbounded, infeasible, cone_failure}

-- the name of a run's ending, with a space after it; none of a refusal
abbrev pub name_of : Ending → List ℕ
name_of BadParam = []
name_of TooLarge = []
name_of InvalidOp = []
name_of BadCone = []
name_of NotFinite = []
name_of WorkShortage = []
name_of (Converged a b c) = converged
name_of (ExcessIter a b c) = excess_iter
name_of (ExcessIterUnscaled a b) = excess_iter
name_of (Unbounded a) = unbounded
name_of (Infeasible a) = infeasible
name_of (ConeFailure b) = cone_failure

-- the number of a refusal; none of a run's ending
abbrev pub refusal_of : Ending → Option ℕ
refusal_of BadParam = Some 1
refusal_of TooLarge = Some 2
refusal_of InvalidOp = Some 3
refusal_of BadCone = Some 4
refusal_of NotFinite = Some 5
refusal_of WorkShortage = Some 6
refusal_of (Converged a b c) = None
refusal_of (ExcessIter a b c) = None
refusal_of (ExcessIterUnscaled a b) = None
refusal_of (Unbounded a) = None
refusal_of (Infeasible a) = None
refusal_of (ConeFailure b) = None

-- the n and m of what is told
abbrev pub columns_of : Result (Told Answer) Fault → ℕ
columns_of (Err f) = 0
columns_of (Ok told) = told.cols.0

abbrev pub rows_of : Result (Told Answer) Fault → ℕ
rows_of (Err f) = 0
rows_of (Ok told) = told.rows.0
