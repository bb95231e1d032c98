-- `norms::square` meets its contract.
use borrow.Author.Rules.{rules}
use lib.Ieee.{of_bits, nan_bits}
use Rattle.norms.proofs.square.Goals as goal

pub float_from_bits-down : goal.float_from_bits-down
unfolding nan_bits
float_from_bits-down c = search rules

pub returns-then-smaller : goal.returns-then-smaller
unfolding of_bits
returns-then-smaller c = rw c.if-smaller.true

pub returns : goal.returns
returns c = rw c.if-smaller.false
