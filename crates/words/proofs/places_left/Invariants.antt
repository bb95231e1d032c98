-- `words::places_left` meets its contract: at each word, the words from there on are bad for the places left just when the list is for all.
use mathlib.Core.Path.{◌≡◌}
use lib.ListN.{drop}
use Rattle.rules.specs.Blocks.{is_bad_cone}
use Rattle.words.proofs.places_left.Given as goal

abbrev pub invariant-loop-word : goal.invariant-loop-word
invariant-loop-word l = is_bad_cone (drop l.word-index l.words) l.left ≡ is_bad_cone l.words l.places
