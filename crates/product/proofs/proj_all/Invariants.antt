-- `product::proj_all` meets its contract.
use Rattle.rules.proofs.ConeProduct.{Projecting}
use Rattle.product.proofs.proj_all.Given as goal

abbrev pub invariant-loop-word : goal.invariant-loop-word
invariant-loop-word l = Projecting l.par l.dual l.words l.initial.x l.initial.work l.word-index l.start l.rotations l.number l.x l.work
