-- `eig::rank1op_column` meets its contract.
use Prim.Native.Nat.{◌+◌, ◌≤◌}
use mathlib.Core.Path.{◌≡◌}
use lib.ListN.{length}
use Rattle.rules.specs.Matrices.{triangle}
use Rattle.eig.proofs.Rank1.{ColumnTo}
use Rattle.eig.proofs.rank1op_column.Given as goal

abbrev pub invariant-loop-r : goal.invariant-loop-r
invariant-loop-r l = ColumnTo l.e l.z l.c l.r l.initial.x l.x × (l.r-end ≡ l.c + 1) × (l.top ≡ triangle l.c) × (l.top + (l.c + 1) ≤ length l.initial.x)
