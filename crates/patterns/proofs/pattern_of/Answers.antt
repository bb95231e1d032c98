-- `patterns::pattern_of` meets its contract: what does not equal itself is the NaN.
use borrow.Author.Tests.{not-false}
use mathlib.Core.Path.{sym, ◌∙◌, ap}
use lib.Ieee.{binary64, to_bits, is_nan}
use Rattle.rules.proofs.Helpers.{only_nan, equals_itself}
use Rattle.patterns.proofs.pattern_of.Goals as goal

pub float_to_bits-result : goal.float_to_bits-result
float_to_bits-result c = rw (sym (equals_itself c.args.x), c.if-x.true) tt

pub returns-else-x : goal.returns-else-x
unfolding to_bits
returns-else-x c = sym (ap (to_bits binary64) (only_nan c.args.x (not-false (is_nan c.args.x) (sym (equals_itself c.args.x) ∙ c.if-x.false))))
