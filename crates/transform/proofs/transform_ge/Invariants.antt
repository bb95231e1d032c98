-- `transform::transform_ge` meets its contract.
use Rattle.rules.specs.declared.MatType.TheVariants.{General}
use Rattle.rules.specs.Arithmetic.{◌+ᶠ◌, ◌*ᶠ◌}
use Rattle.rules.specs.Matrices.{entries, product}
use Rattle.rules.proofs.Arithmetic.{Reached}
use Rattle.rules.proofs.Matrices.{Fitting}
use Rattle.transform.proofs.transform_ge.Given as goal

abbrev pub invariant-loop-r : goal.invariant-loop-r
invariant-loop-r l = Reached (λ k v. l.alpha *ᶠ product (entries l.transpose (General l.rows l.cols) l.mat) l.x k +ᶠ l.beta *ᶠ v) l.r l.initial.y l.y × Fitting l.transpose (General l.rows l.cols) l.mat l.x l.initial.y
