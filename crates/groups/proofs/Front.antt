-- What `flatten` leaves: any two outcomes coincide, and the front of a buffer that is long enough is the plain list.
use Prim.Native.Nat.{ℕ, ◌≤◌, ◌<◌}
use native.Mathlib.Omega.{arith}
use mathlib.Core.Path.{◌≡◌, sym, ap, ◌∙◌}
use mathlib.Core.List.{List, ◌++◌}
use borrow.Author.Tests.{le-leb, lt-leb}
use lib.ListN.{length, take, drop, length-append}
use lib.Seq.{take_at}
use Rattle.rules.specs.Limits.{most_deep}
use Rattle.rules.specs.Groups.{plain_at, plain_words}
use Rattle.rules.proofs.Growing.{grown_front}
use Rattle.std.specs.Prelude.{Option, Some, None}
use Rattle.groups.specs.Flatten.{Put, FlattenOutcome, count_of}

-- Any two outcomes that the contract allows are the same: the count, and each place of the buffer.
pub flatten_outcomes_coincide : {words before : List ℕ} {r r' : Option ℕ} {after after' : List ℕ} → FlattenOutcome words before r after → FlattenOutcome words before r' after' → (r ≡ r') × (after ≡ after')
flatten_outcomes_coincide s t = (s.answered ∙ sym t.answered, s.left ∙ sym t.left)

pub kept_whole : (words before : List ℕ) → length before < length words → FlattenOutcome words before None before
kept_whole words before h =
    let short = lt-leb (length words) (length before) h in
    record { answered = rw short; left = rw short }

module _ (words before : List ℕ) (long : length words ≤ length before) where
  pub flattened : (r : ℕ) (after : List ℕ) → Put 0 before (plain_at most_deep words) r after → FlattenOutcome words before (Some r) after
  unfolding plain_words
  flattened r after p =
      let holds = le-leb (length words) (length before) long in
      let count : r ≡ length (plain_at most_deep words) = omega (arith, p.ends) in
      record { answered = rw (holds, count); left = rw (holds, ← count) (grown_front r before (plain_at most_deep words) after p.grown) }

  module _ (answer : Option ℕ) (after : List ℕ) (o : FlattenOutcome words before answer after) (count : ℕ) (so : count ≡ count_of answer) where
    count_is : count ≡ length (plain_words words)
    count_is = so ∙ ap count_of (rw (le-leb (length words) (length before) long) at o.answered)

    left_is : after ≡ plain_words words ++ drop (length (plain_words words)) before
    left_is = rw (le-leb (length words) (length before) long) at o.left

    pub front_is_plain : take count after ≡ plain_words words
    front_is_plain = rw left_is (take_at (plain_words words) (drop (length (plain_words words)) before) count (sym count_is))

    pub front_within : count ≤ length after
    front_within = rw (left_is, length-append (plain_words words) (drop (length (plain_words words)) before)) (omega (arith, count_is))

    pub front_long : count ≡ length (take count after)
    front_long = rw front_is_plain count_is
