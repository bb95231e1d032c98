-- `sums::abssum` meets its contract: each term that is counted lies inside x.
use Prim.Native.Nat.{◌*◌, ◌<◌}
use mathlib.Core.Path.{◌≡◌}
use lib.ListN.{length}
use Rattle.rules.specs.Helpers.{magnitude}
use Rattle.rules.specs.Arithmetic.{+0, at}
use Rattle.rules.specs.Vectors.{strides}
use Rattle.rules.proofs.Arithmetic.{Summed}
use Rattle.sums.proofs.abssum.Given as goal

abbrev pub invariant-loop-k : goal.invariant-loop-k
invariant-loop-k l = Summed +0 (λ k. magnitude (at l.x (k * l.incx))) l.k l.sum × (0 < l.incx) × (l.k-end ≡ strides (length l.x) l.incx)
