-- `replay::record::fill_words` meets its contract.
use Rattle.replay.specs.Records.{cone_word}
use Rattle.replay.proofs.Records.{cone_none, cone_more}
use borrow.Author.Rules.{rules}
use native.Mathlib.Omega.{arith}
use mathlib.Core.Path.{◌≡◌, ap, ◌∙◌}
use lib.ListN.{length}
use Rattle.replay.proofs.record.fill_words.Goals as goal

pub loop-i-init : goal.loop-i-init
loop-i-init c = cone_none _ _ _

pub loop-i-preserved : goal.loop-i-preserved
loop-i-preserved c = cone_more _ c.loop-i.invariant (search rules) (c.cone_word.ensures ∙ ap cone_word c.word_after.ensures)

pub returns : goal.returns
returns c = let end : c.loop-i.i ≡ length c.args.words.now = omega (arith, c.loop-i.invariant.same) in
    rw end at c.loop-i.invariant
