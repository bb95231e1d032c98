-- Document 01, "What each routine owes": the complete outcome of a routine that may answer a plain no, and this paper's number and values for
-- an answer that is an enum.
use Rattle.std.specs.Prelude.{ℕ, ◌≡◌, Bool, cond, List, [], ◌∷◌, Float}
use Rattle.rules.specs.declared.Ending.{Ending}
use Rattle.rules.specs.declared.Ending.TheVariants.{BadParam, TooLarge, InvalidOp, BadCone, NotFinite, WorkShortage, Converged, ExcessIter, ExcessIterUnscaled, Unbounded, Infeasible, ConeFailure}
use Rattle.rules.specs.Product.{Failure, none, block}

-- It answers whether the sizes fit. If so, its buffer holds what the rule says, place by place, and if not, what it held before.
pub record Outcome (fits : Bool) (ruled kept : List Float) (answer : Bool) (buffer : List Float) : Type 0 where
  pub answered : answer ≡ fits
  pub left : buffer ≡ cond fits ruled kept

-- ---- "If an answer is an enum, a definition gives this paper's number and values for each of its cases."

-- the third column of "How a run ends": x and y in work
pub data Solution : Type 0 where
  times_1/tau : Solution
  unscaled : Solution
  all_zero : Solution

-- A row of "When the hub is turned away", by its number; or one of "How a run ends", by its place from 1, with the criteria that it carries, the
-- number of the block that failed, and what becomes of x and y.
pub data OnPaper : Type 0 where
  turned_away : ℕ → OnPaper
  ends : ℕ → List Float → Failure → Solution → OnPaper

abbrev pub on_paper : Ending → OnPaper
on_paper BadParam = turned_away 1
on_paper TooLarge = turned_away 2
on_paper InvalidOp = turned_away 3
on_paper BadCone = turned_away 4
on_paper NotFinite = turned_away 5
on_paper WorkShortage = turned_away 6
on_paper (Converged pri dual gap) = ends 1 (pri ∷ dual ∷ gap ∷ []) none times_1/tau
on_paper (ExcessIter pri dual gap) = ends 2 (pri ∷ dual ∷ gap ∷ []) none times_1/tau
on_paper (ExcessIterUnscaled unbdd infeas) = ends 3 (unbdd ∷ infeas ∷ []) none unscaled
on_paper (Unbounded unbdd) = ends 4 (unbdd ∷ []) none unscaled
on_paper (Infeasible infeas) = ends 5 (infeas ∷ []) none unscaled
on_paper (ConeFailure b) = ends 6 [] (block b) all_zero
