-- `words::places_left` meets its contract: at each word, the words from there on are bad for the places left just when the list is for all.
use borrow.Author.Rules.{rules}
use native.Mathlib.Omega.{arith}
use mathlib.Core.Path.{◌≡◌, sym, ◌∙◌}
use Rattle.rules.proofs.Blocks.{bad_word, bad_long, bad_more, bad_end}
use Rattle.rules.specs.Blocks.{places}
use Rattle.block.proofs.Sayable.{places_said}
use Rattle.words.proofs.places_left.Goals as goal

pub returns-in_err-block : goal.returns-in_err-block
returns-in_err-block c =
    rw c.from_residual.ensures
    (sym c.loop-word.invariant ∙ bad_word _ c.loop-word.word-index (search rules) c.loop-word.left (sym c.read_word.ensures ∙ c.in_err-block.was))

pub returns-in_err-left : goal.returns-in_err-left
returns-in_err-left c =
    let says = sym c.read_word.ensures ∙ c.in_ok-block.was in
    rw c.from_residual-in_err-left.ensures
    (sym c.loop-word.invariant ∙ bad_long _ c.loop-word.word-index (search rules) c.loop-word.left _ says (omega (arith, c.places_of.ensures ∙ places_said _ _ says, c.in_err-left.ensures)))

pub loop-word-preserved : goal.loop-word-preserved
loop-word-preserved c =
    let says = sym c.read_word.ensures ∙ c.in_ok-block.was in
    let size_is : c.places_of.result ≡ places c.in_ok-block.block = c.places_of.ensures ∙ places_said _ _ says in
    rw (c.in_ok-left.ensures.1, size_is)
    (sym (bad_more _ c.loop-word.word-index (search rules) c.loop-word.left _ says (omega (arith, size_is, c.in_ok-left.ensures.0))) ∙ c.loop-word.invariant)

pub returns : goal.returns
returns c = sym c.loop-word.invariant ∙ bad_end _ c.loop-word.word-index c.loop-word.left (search rules)
