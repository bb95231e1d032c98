-- `words::cone_work_len` meets its contract.
use mathlib.Core.Path.{◌≡◌}
use Prim.Native.Nat.{max}
use lib.ListN.{drop}
use Rattle.rules.specs.Blocks.{blocks_of}
use Rattle.rules.specs.Product.{cone_work}
use Rattle.words.proofs.cone_work_len.Given as goal

abbrev pub invariant-loop-word : goal.invariant-loop-word
invariant-loop-word l = max l.most (cone_work (blocks_of (drop l.word-index l.words))) ≡ cone_work (blocks_of l.words)
