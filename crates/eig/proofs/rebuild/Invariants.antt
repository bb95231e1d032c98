-- `eig::rebuild` meets its contract.
use Prim.Native.Nat.{◌+◌, ◌*◌, ◌≤◌}
use lib.ListN.{length}
use Rattle.eig.proofs.Rank1.{RebuiltTo}
use Rattle.eig.proofs.rebuild.Given as goal

abbrev pub invariant-loop-k : goal.invariant-loop-k
invariant-loop-k l = RebuiltTo l.n l.work l.k l.x × (l.n + l.n * l.n ≤ length l.work)
