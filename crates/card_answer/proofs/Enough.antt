-- No card is above the solver's limits, and the work that is lent is enough for any card: a card is never refused for its sizes, nor for want of work.
use Prim.Native.Nat.{ℕ, ◌≤◌}
use native.Mathlib.Omega.{arith}
use mathlib.Core.Path.{◌≡◌, refl, sym, ap, ◌∙◌}
use mathlib.Core.Bool.{false, true≢false}
use mathlib.Core.List.{List}
use lib.Ieee.{Float}
use lib.ListN.{length, replicate, length-replicate}
use borrow.Author.Tests.{le-ltb}
use Rattle.rules.specs.Arithmetic.{+0}
use Rattle.rules.specs.Limits.{limit, most_words}
use Rattle.rules.specs.Problem.{Problem}
use Rattle.rules.specs.Refusals.{too_large, number_of}
use Rattle.rules.proofs.Demands.{turned_away_exactly}
use Rattle.rules.proofs.Enough.{never_short}
use Rattle.card.specs.Card.{Card, read, read_card}
use Rattle.card.specs.Outcome.{answer_of, head_of}
use Rattle.card.proofs.Found.{bounds}
use Rattle.card_answer.specs.Answer.{work_places, cone_places, problem_from, problem_of_card, left_of}

record SizesOf (k : Card) (p : Problem) : Type 0 where
  n : p.n ≡ k.n
  m : p.m ≡ k.m
  words : p.words ≡ k.words

sizes : (k : Card) → SizesOf k (problem_of_card k)
unfolding problem_from
sizes k = record { n = refl; m = refl; words = refl }

module _ (bytes : List ℕ) (k : Card) (e : read_card bytes ≡ read k) where
  columns : (problem_of_card k).n ≤ 32
  columns = rw (sizes k).n (bounds bytes (head_of k) (ap answer_of e)).cols_most

  rows : (problem_of_card k).m ≤ 32
  rows = rw (sizes k).m (bounds bytes (head_of k) (ap answer_of e)).rows_most

  few_words : length (problem_of_card k).words ≤ 63
  few_words = rw (sizes k).words (bounds bytes (head_of k) (ap answer_of e)).words_most

  is_taken : too_large (problem_of_card k) ≡ false
  unfolding too_large
  is_taken =
      let p = problem_of_card k in
      rw (le-ltb limit p.n (omega (arith, columns)), le-ltb limit p.m (omega (arith, rows)), le-ltb most_words (length p.words) (omega (arith, few_words)))

  -- "Refused 2" is written for no card
  pub never_too_large : (work : List Float) → number_of (left_of (problem_of_card k) work).answer.ending ≡ 2 → ⊥
  never_too_large work two =
      let first = ((turned_away_exactly (problem_of_card k) work (replicate cone_places +0)).exactly 2 (omega arith)).0 two in
      true≢false (sym first.holds ∙ is_taken)

  -- "Refused 6" is written for no card
  pub never_short_of_work : (work : List Float) → work_places ≤ length work → number_of (left_of (problem_of_card k) work).answer.ending ≡ 6 → ⊥
  never_short_of_work work h six =
      let cone : cone_places ≤ length (replicate cone_places +0) = rw (length-replicate cone_places +0) (omega arith) in
      never_short 32 7 (omega arith) (problem_of_card k) work (replicate cone_places +0) columns rows h cone six
