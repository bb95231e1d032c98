-- How the writer shows its outcome.
use Prim.Native.Nat.{ℕ, ◌+◌, ◌*◌, ◌≤◌, ◌<◌}
use mathlib.Core.Path.{◌≡◌, refl, sym, ap, ◌∙◌}
use mathlib.Core.Bool.{true, false}
use mathlib.Core.List.{List, ◌++◌}
use lib.ListN.{length, take, drop}
use lib.Seq.{length-take-le}
use borrow.Author.Tests.{le-leb, lt-leb, lt-ltb, eq-eqb, ne_eqb}
use Rattle.std.specs.Prelude.{Some, None}
use Rattle.card.specs.Card.{Card, number_count, bytes_for, bytes_of, card_bits, written_card}
use Rattle.card_writer.specs.Outcome.{is_written, WriteOutcome}
use Rattle.card_writer.proofs.Bytes.{bytes_of-length}
use Rattle.card_writer.proofs.Fronts.{card-length}

pub written_is : (k : Card) → written_card k ≡ bytes_of (bytes_for (length (card_bits k))) (card_bits k)
unfolding written_card
written_is k = refl

pub written_length : (k : Card) → length (written_card k) ≡ bytes_for (length (card_bits k))
written_length k = rw (written_is k) (bytes_of-length (bytes_for (length (card_bits k))) (card_bits k))

module _ (k : Card) (bytes : List ℕ) where
  not_written : is_written k (length bytes) ≡ false → WriteOutcome k bytes None bytes
  not_written e = record { answered = rw e; bytes_left = rw e }

  module _ (n_fits : k.n ≤ 32) (m_fits : k.m ≤ 32) (words_fits : length k.words ≤ 63) (max_iter_fits : k.max_iter < 1048576) (sweep_limit_fits : k.sweep_limit < 128) where
    pub no_numbers : (length k.numbers ≡ number_count k.packed k.n k.m → ⊥) → WriteOutcome k bytes None bytes
    no_numbers h = not_written (rw (le-leb k.n 32 n_fits, le-leb k.m 32 m_fits, le-leb (length k.words) 63 words_fits, lt-ltb k.max_iter 1048576 max_iter_fits, lt-ltb k.sweep_limit 128 sweep_limit_fits, ne_eqb (length k.numbers) (number_count k.packed k.n k.m) h))

    module _ (numbers_fits : length k.numbers ≡ number_count k.packed k.n k.m) where
      count_is : bytes_for (length (card_bits k)) ≡ bytes_for (23 + 16 * length k.words + 20 + 7 + 64 * length k.numbers)
      count_is = rw (card-length k)

      pub no_room : length bytes < bytes_for (23 + 16 * length k.words + 20 + 7 + 64 * length k.numbers) → WriteOutcome k bytes None bytes
      no_room h = not_written (rw (le-leb k.n 32 n_fits, le-leb k.m 32 m_fits, le-leb (length k.words) 63 words_fits, lt-ltb k.max_iter 1048576 max_iter_fits, lt-ltb k.sweep_limit 128 sweep_limit_fits, eq-eqb (length k.numbers) (number_count k.packed k.n k.m) numbers_fits, count_is, lt-leb (bytes_for (23 + 16 * length k.words + 20 + 7 + 64 * length k.numbers)) (length bytes) h))

      pub written : (count : ℕ) → count ≡ bytes_for (23 + 16 * length k.words + 20 + 7 + 64 * length k.numbers) → count ≤ length bytes → (front : List ℕ) → front ≡ bytes_of (length (take count bytes)) (card_bits k)
          → WriteOutcome k bytes (Some count) (front ++ drop count bytes)
      written count is h front e =
          let same : bytes_for (length (card_bits k)) ≡ count = count_is ∙ sym is in
          let yes : is_written k (length bytes) ≡ true = rw (le-leb k.n 32 n_fits, le-leb k.m 32 m_fits, le-leb (length k.words) 63 words_fits, lt-ltb k.max_iter 1048576 max_iter_fits, lt-ltb k.sweep_limit 128 sweep_limit_fits, eq-eqb (length k.numbers) (number_count k.packed k.n k.m) numbers_fits, same, le-leb count (length bytes) h) in
          let whole : written_card k ≡ bytes_of count (card_bits k) = written_is k ∙ ap (λ (c : ℕ). bytes_of c (card_bits k)) same in
          record {
            answered = rw (yes, written_length k, same);
            bytes_left = rw (yes, whole, bytes_of-length count (card_bits k), e, length-take-le count bytes h);
          }
