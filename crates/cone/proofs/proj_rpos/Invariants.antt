-- `cone::proj_rpos` meets its contract.
use Rattle.rules.proofs.Arithmetic.{Reached}
use Rattle.rules.specs.Helpers.{larger}
use Rattle.rules.specs.Arithmetic.{+0}
use Rattle.cone.proofs.proj_rpos.Given as goal

abbrev pub invariant-loop-v : goal.invariant-loop-v
invariant-loop-v l = Reached (λ k v. larger v +0) l.v-index l.initial.x l.x
