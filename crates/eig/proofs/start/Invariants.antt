-- `eig::start` meets its contract.
use Prim.Native.Nat.{◌≤◌}
use Rattle.rules.specs.Limits.{limit}
use Rattle.eig.proofs.Diagonal.{UnitTo}
use Rattle.eig.proofs.start.Given as goal

abbrev pub invariant-loop-k : goal.invariant-loop-k
invariant-loop-k l = UnitTo l.n l.k l.z × (l.n ≤ limit)
