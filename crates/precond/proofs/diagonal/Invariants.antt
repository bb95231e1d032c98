-- `precond::diagonal` meets its contract.
use Rattle.rules.specs.Helpers.{larger, reciprocal}
use Rattle.rules.proofs.Arithmetic.{Reached}
use Rattle.precond.proofs.diagonal.Given as goal

abbrev pub invariant-loop-u : goal.invariant-loop-u
invariant-loop-u l = Reached (λ k u. reciprocal (larger u l.eps)) l.u-index l.initial.v l.v
