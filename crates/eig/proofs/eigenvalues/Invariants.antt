-- `eig::eigenvalues` meets its contract.
use mathlib.Core.Path.{◌≡◌}
use lib.ListN.{length}
use Rattle.rules.specs.Jacobi.{in_packed}
use Rattle.rules.proofs.Arithmetic.{Reached}
use Rattle.eig.proofs.eigenvalues.Given as goal

abbrev pub invariant-loop-k : goal.invariant-loop-k
invariant-loop-k l = Reached (λ p v. in_packed l.n l.x p p) l.k l.initial.w l.w × (length l.initial.w ≡ l.n)
