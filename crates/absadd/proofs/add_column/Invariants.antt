-- `absadd::add_column` meets its contract.
use Prim.Native.Nat.{◌+◌, ◌-◌, ◌≤◌, ◌<◌, suc}
use native.Mathlib.Omega.{arith}
use mathlib.Core.Path.{◌≡◌, ◌∙◌}
use lib.ListN.{length, length-set}
use borrow.Author.Rules.{rules}
use Rattle.rules.specs.Helpers.{magnitude}
use Rattle.rules.specs.Arithmetic.{◌+ᶠ◌, at}
use Rattle.rules.specs.Matrices.{triangle}
use Rattle.rules.proofs.Arithmetic.{Reached, reached_none, reached_more}
use Rattle.rules.proofs.Vectors.{abssum_of_part}
use Rattle.matrix.proofs.Counted.{counted_small}
use Rattle.absadd.proofs.Packed.{column_added_lem}
use Rattle.absadd.proofs.add_column.Given as goal

abbrev pub invariant-loop-i : goal.invariant-loop-i
invariant-loop-i l = Reached (λ k v. v +ᶠ magnitude (at l.mat (l.start + k))) l.i l.initial.y l.y × (l.i ≤ l.c) × (l.c < length l.initial.y) × (l.start + (l.c + 1) ≤ length l.mat) × (l.start ≡ triangle l.c)

abbrev pub decreases-loop-i : goal.decreases-loop-i
decreases-loop-i l = l.c - l.i
