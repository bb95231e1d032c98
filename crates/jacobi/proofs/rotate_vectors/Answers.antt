-- `jacobi::rotate_vectors` meets its contract.
use native.Mathlib.Omega.{arith}
use borrow.Author.Rules.{rules}
use Rattle.jacobi.proofs.Vectors.{vectors_none, inside_i, inside_j, vectors_more, vectors_all}
use Rattle.jacobi.proofs.rotate_vectors.Goals as goal

pub loop-k-init : goal.loop-k-init
loop-k-init c = vectors_none _ _ _ _ _ _ (search rules)

pub overflow_mul-p : goal.overflow_mul-p
overflow_mul-p c = omega (arith, inside_i c.loop-k.invariant c.requires.pair (search rules))

pub overflow_add-p : goal.overflow_add-p
overflow_add-p c = omega (arith, inside_i c.loop-k.invariant c.requires.pair (search rules))

pub overflow_mul-q : goal.overflow_mul-q
overflow_mul-q c = omega (arith, inside_j c.loop-k.invariant c.requires.pair (search rules))

pub overflow_add-q : goal.overflow_add-q
overflow_add-q c = omega (arith, inside_j c.loop-k.invariant c.requires.pair (search rules))

pub rotate_two-requires : goal.rotate_two-requires
rotate_two-requires c = record { p_in_bounds = inside_i c.loop-k.invariant c.requires.pair (search rules); q_in_bounds = inside_j c.loop-k.invariant c.requires.pair (search rules) }

pub loop-k-preserved : goal.loop-k-preserved
loop-k-preserved c = vectors_more c.loop-k.invariant c.requires.pair (search rules) c.rotate_two.ensures

pub returns : goal.returns
returns c = vectors_all c.loop-k.invariant (search rules)
