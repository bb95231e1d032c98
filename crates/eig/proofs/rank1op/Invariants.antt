-- `eig::rank1op` meets its contract.
use mathlib.Core.Path.{◌≡◌}
use lib.ListN.{length}
use Rattle.eig.proofs.Rank1.{ColumnsTo}
use Rattle.eig.proofs.rank1op.Given as goal

abbrev pub invariant-loop-c : goal.invariant-loop-c
invariant-loop-c l = ColumnsTo l.e l.z l.c l.initial.x l.x × (l.c-end ≡ length l.z)
