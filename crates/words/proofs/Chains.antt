-- The blocks of a list, as a chain of iterators goes through them.
use Prim.Native.Nat.{ℕ}
use mathlib.Core.Path.{◌≡◌, refl, sym, ap}
use mathlib.Core.Bool.{Bool, ◌&&◌}
use mathlib.Core.List.{List, [], ◌∷◌}
use lib.Dec.{leb}
use Rattle.std.specs.List.{filter_map, cons_option, list_all}
use Rattle.rules.specs.declared.Cone.{Cone}
use Rattle.rules.specs.Limits.{limit}
use Rattle.rules.specs.Blocks.{Word, Block, Bad, read_word, places, with_block, blocks_of}
use Rattle.rules.specs.Product.{blocks_within}

pub blocks_are : (words : List ℕ) → filter_map read_word words ≡ blocks_of words
unfolding blocks_of
blocks_are [] = refl
blocks_are (word ∷ words) = step (read_word word) (blocks_are words)
  where
    step : (w : Word) {bs cs : List Cone} → bs ≡ cs → cons_option w bs ≡ with_block w cs
    step (Block b) e = ap (λ (l : List Cone). b ∷ l) e
    step Bad e = e

within_all : (bs : List Cone) → list_all (λ b. leb (places b) limit) bs ≡ blocks_within bs
unfolding blocks_within
within_all [] = refl
within_all (b ∷ bs) = ap (λ (t : Bool). leb (places b) limit && t) (within_all bs)

pub blocks_within_is : (words : List ℕ) → blocks_within (blocks_of words) ≡ list_all (λ b. leb (places b) limit) (filter_map read_word words)
blocks_within_is words = rw (blocks_are words) (sym (within_all (blocks_of words)))
