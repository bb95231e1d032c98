-- How much of a file tells its card.
use Prim.Native.Nat.{ℕ, ◌≤◌, ◌<◌}
use native.Mathlib.Omega.{arith}
use mathlib.Core.Path.{◌≡◌, refl}
use mathlib.Core.Bool.{Bool, true, false}
use mathlib.Core.List.{List}
use lib.Dec.{leb}
use lib.ListN.{length, take}
use lib.Seq.{take-length}
use borrow.Author.Tests.{leb-true, leb-false}
use Rattle.card.specs.Card.{Card, read, read_card, longest_card, enough, front_length}
use Rattle.card_file.proofs.Longer.{read_short_of, too_long}

pub no_card_is_longer : (bytes : List ℕ) (k : Card) → read_card bytes ≡ read k → length bytes ≤ longest_card
no_card_is_longer bytes k e = go (leb enough (length bytes)) refl
  where
    go : (long : Bool) → leb enough (length bytes) ≡ long → length bytes ≤ longest_card
    go true l = too_long bytes k (leb-true enough (length bytes) l) e
    go false l =
        let h : length bytes < enough = leb-false enough (length bytes) l in
        omega arith

-- A file that is longer than any card has the fault of its front, which is one byte longer than the longest.
pub longer_than_any_card : (bytes : List ℕ) → enough ≤ length bytes → read_card (take enough bytes) ≡ read_card bytes
longer_than_any_card bytes h = read_short_of bytes h

-- What is read of a file of any length tells its card.
pub the_front_tells_the_card : (bytes : List ℕ) → read_card (take (front_length (length bytes)) bytes) ≡ read_card bytes
the_front_tells_the_card bytes = go (leb enough (length bytes)) refl
  where
    go : (long : Bool) → leb enough (length bytes) ≡ long → read_card (take (front_length (length bytes)) bytes) ≡ read_card bytes
    go true e =
        let h : enough ≤ length bytes = leb-true enough (length bytes) e in
        let all : front_length (length bytes) ≡ enough = omega arith in
        rw all (longer_than_any_card bytes h)
    go false e =
        let h : length bytes < enough = leb-false enough (length bytes) e in
        let all : front_length (length bytes) ≡ length bytes = omega arith in
        rw (all, take-length bytes)
