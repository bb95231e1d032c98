-- `absadd::absadd_dense` meets its contract.
use Prim.Native.Nat.{◌-◌}
use mathlib.Core.Path.{◌≡◌, refl, sym, ◌∙◌}
use lib.ListN.{length}
use borrow.Author.Rules.{rules}
use borrow.Author.Tests.{eq-eqb, ne_eqb, not-true, not-false}
use Rattle.rules.specs.declared.MatType.TheVariants.{General}
use Rattle.rules.specs.Arithmetic.{◌+ᶠ◌}
use Rattle.rules.specs.Matrices.{Stored, entries, width, height, col_sum}
use Rattle.rules.proofs.Arithmetic.{Reached, reached_none, reached_more, reached_all}
use Rattle.rules.proofs.Matrices.{stored_if_fits, fits_if_stored}
use Rattle.rules.proofs.Outcome.{refused, done}
use Rattle.absadd.specs.Columns.{absadded}
use Rattle.absadd.proofs.absadd_dense.Given as goal

abbrev pub invariant-loop-k : goal.invariant-loop-k
invariant-loop-k l = Reached (λ i v. col_sum (entries l.transpose (General l.rows l.cols) l.mat) (height l.transpose (General l.rows l.cols)) i +ᶠ v) l.k l.initial.y l.y × Stored (General l.rows l.cols) l.mat × (length l.initial.y ≡ width l.transpose (General l.rows l.cols))
