-- `word::order_of` meets its contract: an order that is small enough, and whose next is not, is the largest.
use Prim.Native.Nat.{◌≤◌}
use Rattle.rules.specs.Matrices.{triangle}
use Rattle.word.proofs.order_of.Given as goal

abbrev pub invariant-loop-order : goal.invariant-loop-order
invariant-loop-order l = triangle l.order ≤ l.size
