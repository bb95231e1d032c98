-- Laws of the numbers that a record is held to: the pairs of a list, and the bounds of k, q and the rows.
use Prim.Native.Nat.{ℕ, ◌+◌, ◌-◌, ◌*◌, ◌/◌, ◌≤◌, ◌<◌}
use native.Mathlib.Nat.{le-div_iff_mul-le, mul_assoc, zero-add, not-le_of_lt, lt_of_not-le}
use native.Mathlib.Omega.{arith}
use mathlib.Core.Path.{◌≡◌, refl, sym}
use mathlib.Core.Bool.{Bool, true, false}
use mathlib.Core.List.{List}
use borrow.Author.Tests.{leb-true, leb-false, lt-ltb, le-ltb}
use lib.Dec.{leb, ltb}
use lib.ListN.{length, get_or, drop}
use Rattle.rules.specs.Blocks.{Word, Block, Bad, read_word, blocks_of}
use Rattle.rules.specs.Demands.{all_pairs_twice}
use Rattle.rules.proofs.Blocks.{blocks_bad, blocks_block, blocks_end}
use Rattle.later_check.specs.Parts.{pairs_said}

-- ---- pairs

-- at a word, the pairs from there on are its own and those after it
pub pairs_on : (words : List ℕ) (i : ℕ) → i < length words → all_pairs_twice (blocks_of (drop i words)) ≡ pairs_said (read_word (get_or words i 0)) + all_pairs_twice (blocks_of (drop (i + 1) words))
unfolding all_pairs_twice
pairs_on words i h = go (read_word (get_or words i 0)) refl
  where
    go : (w : Word) → read_word (get_or words i 0) ≡ w → all_pairs_twice (blocks_of (drop i words)) ≡ pairs_said w + all_pairs_twice (blocks_of (drop (i + 1) words))
    go (Block b) e = rw (blocks_block words i h b e)
    go Bad e = rw (blocks_bad words i h e, zero-add)

pub pairs_end : (words : List ℕ) (i : ℕ) → length words ≤ i → all_pairs_twice (blocks_of (drop i words)) ≡ 0
unfolding all_pairs_twice
pairs_end words i h = rw (blocks_end words i h)

-- ---- the rotations

module _ (q k sweeps pairs : ℕ) where
  -- the last number below q, divided by both
  pub above_divided : 0 < q → 0 < pairs → 0 < sweeps → leb k ((q - 1) / pairs / sweeps) ≡ ltb (k * (sweeps * pairs)) q
  above_divided some some_pair some_sweep = go (leb k ((q - 1) / pairs / sweeps)) refl
    where
      go : (t : Bool) → leb k ((q - 1) / pairs / sweeps) ≡ t → t ≡ ltb (k * (sweeps * pairs)) q
      go true e =
          let h : k * sweeps * pairs ≤ q - 1 = (le-div_iff_mul-le some_pair).0 ((le-div_iff_mul-le some_sweep).0 (leb-true _ _ e)) in
          sym (lt-ltb (k * (sweeps * pairs)) q (omega (arith, mul_assoc k sweeps pairs)))
      go false e =
          let h : q - 1 < k * sweeps * pairs = lt_of_not-le (λ most. not-le_of_lt (leb-false _ _ e) ((le-div_iff_mul-le some_sweep).1 ((le-div_iff_mul-le some_pair).1 most))) in
          sym (le-ltb (k * (sweeps * pairs)) q (omega (arith, mul_assoc k sweeps pairs)))
