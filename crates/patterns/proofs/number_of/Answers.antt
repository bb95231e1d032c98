-- `patterns::number_of` meets its contract: past the infinity's digits every pattern is a NaN's.
use native.Mathlib.Omega.{arith}
use borrow.Author.Tests.{lt-ltb, le-ltb}
use Prim.Native.Nat.{ℕ, ◌<◌, ◌%◌}
use mathlib.Core.Path.{◌≡◌, sym, ◌∙◌}
use lib.Ieee.{binary64, of_bits, nan, div}
use lib.Ieee.Bits.{nan_bits_is, nan_bits_above}
use Rattle.rules.proofs.Helpers.{only_nan}
use Rattle.patterns.proofs.number_of.Goals as goal

is_nan : (b : ℕ) → 9218868437227405312 < b % 9223372036854775808 → of_bits binary64 b ≡ nan
is_nan b h = only_nan (of_bits binary64 b) (sym (nan_bits_is binary64 b) ∙ nan_bits_above binary64 b ∙ lt-ltb 9218868437227405312 (b % 9223372036854775808) h)

pub float_from_bits-result : goal.float_from_bits-result
float_from_bits-result c = rw (nan_bits_above binary64 c.args.pattern, le-ltb 9218868437227405312 (c.args.pattern % 9223372036854775808) (omega arith)) tt

pub returns-else-pattern-le9218868437227405312 : goal.returns-else-pattern-le9218868437227405312
unfolding div of_bits
returns-else-pattern-le9218868437227405312 c = sym (is_nan c.args.pattern (omega arith))
