-- `finite::all_finite` meets its contract.
use mathlib.Core.Path.{◌∙◌}
use borrow.Author.Rules.{rules}
use Rattle.std.proofs.lemmas.Iterator.{YieldsList-from_slice}
use Rattle.std.proofs.lemmas.Iterator.Search.{all_from_yields_List}
use Rattle.rules.specs.Helpers.{is_finite}
use Rattle.finite.proofs.Finite.{all_finite_is}
use Rattle.finite.proofs.all_finite.Goals as goal

pub returns : goal.returns
returns c = all_from_yields_List is_finite _ _ _ c.all.ensures.ran (YieldsList-from_slice c.args.v.now cc) (λ x b q k. search rules) ∙ all_finite_is c.args.v.now
