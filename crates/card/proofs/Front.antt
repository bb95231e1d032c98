-- The first judgements, in their order: edition, n, m.
use Prim.Native.Nat.{ℕ, ◌*◌, ◌≤◌, ◌<◌}
use native.Mathlib.Omega.{arith}
use mathlib.Core.Path.{◌≡◌}
use mathlib.Core.List.{List}
use Rattle.std.specs.Prelude.{Err}
use lib.ListN.{length}
use borrow.Author.Tests.{le-leb, lt-leb, eq-eqb, ne_eqb}
use Rattle.card.specs.Card.{bits_of_bytes, fault, read_card}
use Rattle.card.specs.Fields.{field_at, rest_at}
use Rattle.card.specs.Outcome.{answer_of}
use Rattle.card.specs.declared.Fault.TheVariants.{Short, Edition, Large}
use Rattle.bits.proofs.Bits.{bits_length}
use Rattle.card.proofs.Places.{card_by_places}

module _ (bytes : List ℕ) where
  pub no_edition : length bytes < 1 → read_card bytes ≡ fault Short
  no_edition h = rw (card_by_places bytes, bits_length bytes, lt-leb 4 (8 * length bytes) (omega arith))

  pub wrong_edition : 1 ≤ length bytes → (field_at 0 4 (bits_of_bytes bytes) ≡ 1 → ⊥) → read_card bytes ≡ fault Edition
  wrong_edition h f = rw (card_by_places bytes, bits_length bytes, le-leb 4 (8 * length bytes) (omega arith), ne_eqb (field_at 0 4 (bits_of_bytes bytes)) 1 f)

  module _ (edition : field_at 0 4 (bits_of_bytes bytes) ≡ 1) where
    pub no_n : 1 ≤ length bytes → length bytes < 2 → read_card bytes ≡ fault Short
    no_n h s =
        rw (card_by_places bytes, bits_length bytes, le-leb 4 (8 * length bytes) (omega arith), eq-eqb (field_at 0 4 (bits_of_bytes bytes)) 1 edition, lt-leb 11 (8 * length bytes) (omega arith))

    pub large_n : 2 ≤ length bytes → 32 < field_at 5 6 (bits_of_bytes bytes) → read_card bytes ≡ fault Large
    large_n h n =
        rw (card_by_places bytes, bits_length bytes, le-leb 4 (8 * length bytes) (omega arith), eq-eqb (field_at 0 4 (bits_of_bytes bytes)) 1 edition, le-leb 11 (8 * length bytes) (omega arith), lt-leb (field_at 5 6 (bits_of_bytes bytes)) 32 n)

    module _ (n : field_at 5 6 (bits_of_bytes bytes) ≤ 32) where
      pub no_m : 2 ≤ length bytes → length bytes < 3 → read_card bytes ≡ fault Short
      no_m h s =
          rw (card_by_places bytes, bits_length bytes, le-leb 4 (8 * length bytes) (omega arith), eq-eqb (field_at 0 4 (bits_of_bytes bytes)) 1 edition, le-leb 11 (8 * length bytes) (omega arith), le-leb (field_at 5 6 (bits_of_bytes bytes)) 32 n, lt-leb 17 (8 * length bytes) (omega arith))

      pub large_m : 3 ≤ length bytes → 32 < field_at 11 6 (bits_of_bytes bytes) → read_card bytes ≡ fault Large
      large_m h m =
          rw (card_by_places bytes, bits_length bytes, le-leb 4 (8 * length bytes) (omega arith), eq-eqb (field_at 0 4 (bits_of_bytes bytes)) 1 edition, le-leb 11 (8 * length bytes) (omega arith), le-leb (field_at 5 6 (bits_of_bytes bytes)) 32 n, le-leb 17 (8 * length bytes) (omega arith), lt-leb (field_at 11 6 (bits_of_bytes bytes)) 32 m)

      pub sizes_read : 3 ≤ length bytes → field_at 11 6 (bits_of_bytes bytes) ≤ 32 → read_card bytes ≡ rest_at (field_at 5 6 (bits_of_bytes bytes)) (field_at 11 6 (bits_of_bytes bytes)) (bits_of_bytes bytes)
      sizes_read h m =
          rw (card_by_places bytes, bits_length bytes, le-leb 4 (8 * length bytes) (omega arith), eq-eqb (field_at 0 4 (bits_of_bytes bytes)) 1 edition, le-leb 11 (8 * length bytes) (omega arith), le-leb (field_at 5 6 (bits_of_bytes bytes)) 32 n, le-leb 17 (8 * length bytes) (omega arith), le-leb (field_at 11 6 (bits_of_bytes bytes)) 32 m)

-- ---- a card that is too short, as the reader answers it

pub no_n_answered : (bytes : List ℕ) → field_at 0 4 (bits_of_bytes bytes) ≡ 1 → 1 ≤ length bytes → length bytes < 2 → Err Short ≡ answer_of (read_card bytes)
no_n_answered bytes e h s = rw (no_n bytes e h s)

pub no_m_answered : (bytes : List ℕ) → field_at 0 4 (bits_of_bytes bytes) ≡ 1 → field_at 5 6 (bits_of_bytes bytes) ≤ 32 → 2 ≤ length bytes → length bytes < 3 → Err Short ≡ answer_of (read_card bytes)
no_m_answered bytes e n h s = rw (no_m bytes e n h s)
