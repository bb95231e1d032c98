-- `replay::record::holds` meets its contract.
use Prim.Native.Nat.{◌+◌}
use mathlib.Core.Path.{◌≡◌}
use Rattle.replay.specs.Records.{stand_from}
use lib.ListN.{drop}
use Rattle.replay.proofs.record.holds.Given as goal

abbrev pub invariant-loop-i : goal.invariant-loop-i
invariant-loop-i l = (stand_from l.record (l.at + l.i) (drop l.i l.numbers) ≡ stand_from l.record l.at l.numbers)
