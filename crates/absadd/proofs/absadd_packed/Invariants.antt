-- `absadd::absadd_packed` meets its contract: every column is stored.
use Prim.Native.Nat.{◌-◌, ◌≤◌}
use native.Mathlib.Omega.{arith}
use mathlib.Core.Path.{◌≡◌, sym, ◌∙◌}
use lib.ListN.{length}
use borrow.Author.Rules.{rules}
use borrow.Author.Tests.{eq-eqb, ne_eqb, not-true, not-false}
use Rattle.rules.specs.declared.MatType.TheVariants.{SymPack}
use Rattle.rules.specs.Matrices.{Stored}
use Rattle.rules.proofs.Matrices.{stored_if_fits, fits_if_stored}
use Rattle.rules.proofs.Triangle.{triangle_inside}
use Rattle.rules.proofs.Outcome.{refused, done}
use Rattle.absadd.proofs.Packed.{Columns, columns_none, columns_more, columns_all}
use Rattle.absadd.proofs.absadd_packed.Given as goal

abbrev pub invariant-loop-c : goal.invariant-loop-c
invariant-loop-c l = Columns (record { 0 = l.n }) l.mat l.c l.initial.y l.y × (l.c ≤ l.n) × Stored (SymPack (record { 0 = l.n })) l.mat × (length l.initial.y ≡ l.n)

abbrev pub decreases-loop-c : goal.decreases-loop-c
decreases-loop-c l = l.n - l.c
