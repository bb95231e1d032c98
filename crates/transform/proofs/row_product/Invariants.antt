-- `transform::row_product` meets its contract.
use Rattle.rules.specs.declared.MatType.TheVariants.{General}
use Rattle.rules.specs.Arithmetic.{◌*ᶠ◌, +0, at}
use Rattle.rules.specs.Matrices.{entries}
use Rattle.rules.proofs.Arithmetic.{Summed}
use Rattle.transform.proofs.row_product.Given as goal

abbrev pub invariant-loop-c : goal.invariant-loop-c
invariant-loop-c l = Summed +0 (λ k. entries l.transpose (General l.rows l.cols) l.mat l.r k *ᶠ at l.x k) l.c l.mat_x
