-- What a run left, held to a record.
use Prim.Native.Nat.{ℕ, ◌+◌, ◌≤◌, ◌<◌}
use native.Mathlib.Omega.{arith}
use mathlib.Core.Path.{◌≡◌, ap, ◌∙◌}
use mathlib.Core.Bool.{true, false}
use mathlib.Core.List.{List}
use lib.Dec.{eqb}
use lib.Ieee.{Float, nan}
use lib.ListN.{length, take, drop, length-drop}
use lib.Seq.{get_or-take, get_or-drop, length-take-le}
use borrow.Author.Tests.{lt-leb, le-leb}
use Rattle.rules.specs.Arithmetic.{at}
use Rattle.rules.specs.Run.{solution_y}
use Rattle.replay.specs.Records.{word_of, stand_before}
use Rattle.replay_answers.specs.Held.{ends_after, is_left}

module _ (bytes : List ℕ) (i pattern : ℕ) (work cone : List Float) where
  abbrev used : ℕ
  used = word_of bytes (i + 6)

  abbrev cone_used : ℕ
  cone_used = word_of bytes (i + 7)

  pub left_not : stand_before bytes (i + 8) work used pattern ≡ false → false ≡ is_left bytes i pattern work cone
  unfolding is_left
  left_not e = rw e

  pub left_not_cone : stand_before bytes (i + 8) work used pattern ≡ true → stand_before bytes (i + 8 + used) cone cone_used pattern ≡ false → false ≡ is_left bytes i pattern work cone
  unfolding is_left
  left_not_cone e f = rw (e, f)

  pub left_then : stand_before bytes (i + 8) work used pattern ≡ true → stand_before bytes (i + 8 + used) cone cone_used pattern ≡ true → ends_after bytes i used cone_used ≡ is_left bytes i pattern work cone
  unfolding is_left
  left_then e f = rw (e, f)

module _ (part whole : List Float) (start places : ℕ) (e : part ≡ solution_y places start whole) where
  pub part_short : length whole < start + places → eqb (length part) 0 ≡ true
  unfolding solution_y
  part_short h = rw (e, lt-leb (start + places) (length whole) h)

  pub part_is : start + places ≤ length whole → part ≡ take places (drop start whole)
  unfolding solution_y
  part_is h = rw (le-leb (start + places) (length whole) h) at e

  pub part-places : start + places ≤ length whole → length part ≡ places
  part-places h = ap length (part_is h) ∙ length-take-le places (drop start whole) (rw length-drop (omega arith))

-- a number of a part stands in the whole
pub in_whole : (part whole : List Float) (start i : ℕ) → part ≡ take (length part) (drop start whole) → i < length part → at part i ≡ at whole (start + i)
in_whole part whole start i e h = ap (λ v. at v i) e ∙ get_or-take (length part) (drop start whole) i nan h ∙ get_or-drop start whole i nan
