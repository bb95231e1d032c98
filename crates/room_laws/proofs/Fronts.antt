-- The front of a buffer that a plain list was put in has as many words as the buffer at most.
use Prim.Native.Nat.{ℕ, ◌≤◌}
use native.Mathlib.Omega.{arith}
use mathlib.Core.Path.{◌≡◌, refl, ◌∙◌, ap}
use mathlib.Core.Bool.{Bool, true, false}
use mathlib.Core.List.{List}
use borrow.Author.Tests.{leb-true}
use lib.ListN.{length, take, drop, length-append, length-drop}
use lib.Seq.{length-take-le}
use Rattle.rules.specs.Groups.{plain_words}
use Rattle.rules.proofs.Groups.{no_longer}
use Rattle.groups.specs.Flatten.{holds_all, FlattenOutcome, count_of}
use Rattle.std.specs.Prelude.{Option}

module _ (words before : List ℕ) (answer : Option ℕ) (after : List ℕ) (o : FlattenOutcome words before answer after) (count : ℕ) (so : count ≡ count_of answer) where
  same_length : (t : Bool) → holds_all words before ≡ t → length after ≡ length before
  same_length true e =
      let few : length words ≤ length before = leb-true (length words) (length before) e in
      ap length (rw e at o.left) ∙ length-append (plain_words words) (drop (length (plain_words words)) before)
      ∙ rw length-drop (omega (arith, no_longer words))
  same_length false e = ap length (rw e at o.left)

  few_counted : (t : Bool) → holds_all words before ≡ t → count ≤ length before
  few_counted true e =
      let few : length words ≤ length before = leb-true (length words) (length before) e in
      let is : count ≡ length (plain_words words) = so ∙ ap count_of (rw e at o.answered) in
      omega (arith, no_longer words)
  few_counted false e =
      let is : count ≡ 0 = so ∙ ap count_of (rw e at o.answered) in
      omega arith

  pub count_few : count ≤ length before
  count_few = few_counted (holds_all words before) refl

  pub count_within : count ≤ length after
  count_within = omega (arith, count_few, same_length (holds_all words before) refl)

  pub front_few : length (take count after) ≡ count
  front_few = length-take-le count after count_within
