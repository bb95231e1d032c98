-- `words::cone_work_len` meets its contract.
use borrow.Author.Rules.{rules}
use Prim.Native.Nat.{ℕ, max}
use native.Mathlib.Omega.{arith}
use mathlib.Core.Path.{◌≡◌, sym, ap, ◌∙◌}
use Rattle.std.specs.Ordering.{nat_cmp, ord_max}
use Rattle.std.proofs.lemmas.Bool.Decides.{nat_tests}
use Rattle.rules.proofs.Blocks.{blocks_bad}
use Rattle.rules.proofs.ConeProduct.{work_block, work_end}
use Rattle.rules.specs.Product.{cone_work}
use Rattle.block.proofs.Sayable.{work_said}
use Rattle.words.proofs.cone_work_len.Goals as goal
use Rattle.words.proofs.cone_work_len.Goals.{in-Some, in_default}

max_is : (a b : ℕ) → ord_max nat_cmp a b ≡ max a b
max_is a b = grind (arith, nat_tests)

pub loop-word-preserved : goal.loop-word-preserved
loop-word-preserved c =
    elim c.match-read_word.branch [
      | in-Some w ↦ let says = sym c.read_word.ensures ∙ w.in-Some.is in omega (arith, w.block_work.ensures ∙ work_said _ _ says, work_block c.args.words.now c.loop-word.word-index (search rules) _ says, max_is c.loop-word.most w.block_work.result)
      | in_default w ↦ omega (arith, ap cone_work (blocks_bad c.args.words.now c.loop-word.word-index (search rules) (sym c.read_word.ensures ∙ w.in_default.is)))
    ]

pub returns : goal.returns
returns c = omega (arith, work_end c.args.words.now c.loop-word.word-index (search rules))
