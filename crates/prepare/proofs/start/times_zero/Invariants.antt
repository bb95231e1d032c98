-- `prepare::start::times_zero` meets its contract.
use Rattle.rules.specs.Arithmetic.{◌*ᶠ◌, +0}
use Rattle.rules.proofs.Arithmetic.{Reached}
use Rattle.prepare.proofs.start.times_zero.Given as goal

abbrev pub invariant-loop-u : goal.invariant-loop-u
invariant-loop-u l = Reached (λ k u. +0 *ᶠ u) l.u-index l.initial.v l.v
