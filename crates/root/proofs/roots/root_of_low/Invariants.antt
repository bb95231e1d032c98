-- `root::roots::root_of_low` meets its contract. The loop's invariant: the number is as it was, its digits moved up. The measure is how far they can still go. Assumes nothing.
use Prim.Native.Nat.{◌*◌, ◌^◌, ◌≤◌, ◌<◌}
use mathlib.Core.Path.{◌≡◌}
use Rattle.root.proofs.roots.root_of_low.Given as goal

abbrev pub invariant-loop-t : goal.invariant-loop-t
invariant-loop-t l = (0 < l.t) × (l.t < 2 ^ 53) × (l.places ≤ 1074) × (l.t * 2 ^ l.places ≡ l.b * 2 ^ 1074)

abbrev pub decreases-loop-t : goal.decreases-loop-t
decreases-loop-t l = l.places
