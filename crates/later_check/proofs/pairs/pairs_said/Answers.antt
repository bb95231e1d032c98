-- `later_check::pairs::pairs_said` meets its contract.
use mathlib.Core.Path.{sym, ◌∙◌}
use Rattle.rules.proofs.Blocks.{word_most}
use Rattle.later_check.proofs.pairs.pairs_said.Goals as goal

pub pairs_of-requires : goal.pairs_of-requires
pairs_of-requires c = word_most _ _ (sym c.read_word.ensures ∙ c.in-Some.is)
