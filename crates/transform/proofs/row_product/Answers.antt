-- `transform::row_product` meets its contract.
use borrow.Author.Rules.{rules}
use Rattle.rules.specs.Arithmetic.{+0}
use Rattle.rules.proofs.Arithmetic.{summed_none, summed_more, summed_all}
use Rattle.transform.proofs.row_product.Goals as goal

pub loop-c-init : goal.loop-c-init
loop-c-init c = summed_none +0 _

pub entry_at-requires : goal.entry_at-requires
entry_at-requires c = record { stored = c.requires.stored; r_bound = c.requires.r_bound; c_bound = search rules }

pub loop-c-preserved : goal.loop-c-preserved
loop-c-preserved c = rw c.entry_at.ensures (summed_more c.loop-c.invariant)

pub returns : goal.returns
returns c = summed_all c.loop-c.invariant (search rules)
