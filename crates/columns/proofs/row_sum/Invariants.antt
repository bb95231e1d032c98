-- `columns::row_sum` meets its contract.
use Prim.Native.Nat.{◌+◌, ◌*◌}
use Rattle.rules.specs.Helpers.{magnitude}
use Rattle.rules.specs.Arithmetic.{at}
use Rattle.rules.proofs.Arithmetic.{Summed}
use Rattle.columns.proofs.row_sum.Given as goal

abbrev pub invariant-loop-c : goal.invariant-loop-c
invariant-loop-c l = Summed l.so_far (λ k. magnitude (at l.mat (k * l.m + l.r))) l.c l.sum
