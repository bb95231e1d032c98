-- What `check` and `check_split` share: the table of a problem whose A stands in two slices, of either storage.
use Rattle.std.specs.Prelude.{ℕ, not, List, [], ◌∷◌, Float}
use Rattle.rules.specs.declared.Ending.{Ending}
use Rattle.rules.specs.declared.Ending.TheVariants.{BadParam, TooLarge, InvalidOp, BadCone, NotFinite, WorkShortage}
use Rattle.rules.specs.declared.Shape.{Shape}
use Rattle.rules.specs.declared.SolverParam.{SolverParam}
use Rattle.rules.specs.Blocks.{is_bad_cone}
use Rattle.rules.specs.Groups.{plain_words}
use Rattle.rules.specs.Problem.{Slices, joined}
use Rattle.rules.specs.Refusals.{Refusal, Fact, ◌when◌, first_of, as_refusal, bad_param, large_sizes, some_not_finite, short_buffers}
use Rattle.shape.specs.Fitting.{operators_fit}

-- the last three rows, over the plain words of the list
module _ (m n : ℕ) (c a b : List Float) (words : List ℕ) (work cone : ℕ) where
  abbrev pub plain_table : List (Fact Ending)
  plain_table =
      (BadCone when is_bad_cone words m)
      ∷ (NotFinite when some_not_finite c a b)
      ∷ (WorkShortage when short_buffers m n words work cone)
      ∷ []

  unfoldable pub plain_refusal : Refusal
  unfolding first_of is_bad_cone
  plain_refusal = as_refusal (first_of plain_table)

module _ (par : SolverParam) (shape : Shape) (c : List Float) (a : Slices) (b : List Float) (words : List ℕ) (work cone : ℕ) where
  abbrev pub parts_table : List (Fact Ending)
  parts_table =
      (BadParam when bad_param par)
      ∷ (TooLarge when large_sizes shape.rows.0 shape.cols.0 words)
      ∷ (InvalidOp when not (operators_fit shape c a b))
      ∷ plain_table shape.rows.0 shape.cols.0 c (joined a) b (plain_words words) work cone

  unfoldable pub parts_refusal : Refusal
  unfolding first_of bad_param is_bad_cone plain_words
  parts_refusal = as_refusal (first_of parts_table)
