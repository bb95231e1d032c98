-- `halved_transform::line` meets its contract.
use Prim.Native.Nat.{◌<◌}
use mathlib.Core.Path.{◌≡◌}
use mathlib.Core.List.{◌++◌}
use lib.ListN.{length}
use Rattle.rules.specs.Arithmetic.{◌*ᶠ◌, at}
use Rattle.rules.specs.Matrices.{Stored, height, width, entries}
use Rattle.rules.proofs.Arithmetic.{Reached}
use Rattle.halved_transform.proofs.line.Given as goal

abbrev pub invariant-loop-c : goal.invariant-loop-c
invariant-loop-c l =
    Reached (λ k v. entries l.transpose l.t (l.a1 ++ l.a2) l.r k *ᶠ at l.x k) l.c l.initial.terms l.terms × Stored l.t (l.a1 ++ l.a2) × (length l.x ≡ width l.transpose l.t) × (l.r < height l.transpose l.t) × (length l.initial.terms ≡ length l.x)
