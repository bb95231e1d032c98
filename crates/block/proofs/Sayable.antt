-- What is counted of a block; of one that a word can say, its places and its cone work are answered.
use Prim.Native.Nat.{ℕ, ◌≤◌, ◌<◌}
use native.Mathlib.Omega.{arith}
use mathlib.Core.Path.{◌≡◌, refl}
use mathlib.Core.Bool.{Bool, true, false, cond}
use borrow.Author.Tests.{le-leb, leb-true}
use lib.Dec.{leb}
use Rattle.std.specs.Bool.{then_some}
use Rattle.rules.specs.declared.Cone.{Cone}
use Rattle.rules.specs.declared.Cone.TheVariants.{Zero, RPos, SOC, RotSOC, PSD}
use Rattle.rules.specs.Matrices.{triangle}
use Rattle.rules.specs.Blocks.{Block, read_word, places}
use Rattle.rules.specs.Projections.{block_work}
use Rattle.rules.proofs.Blocks.{word_most, order_in_triangle}
use Rattle.matrix.specs.Counted.{largest_order, counted_triangle}
use Rattle.matrix.proofs.Counted.{counted_is, counted_within}
use Rattle.block.specs.Sayable.{sayable_places, sayable_work}

pub sayable_places_lem : (cone : Cone) → places cone ≤ 8191 → sayable_places cone ≡ places cone
unfolding sayable_places
sayable_places_lem cone h = rw (le-leb (places cone) 8191 h)

pub sayable_work_lem : (cone : Cone) → places cone ≤ 8191 → sayable_work cone ≡ block_work cone
unfolding sayable_work
sayable_work_lem cone h = rw (le-leb (places cone) 8191 h)

-- so of a block that a word says
pub places_said : (word : ℕ) (cone : Cone) → read_word word ≡ Block cone → sayable_places cone ≡ places cone
places_said word cone e = sayable_places_lem cone (word_most word cone e)

pub work_said : (word : ℕ) (cone : Cone) → read_word word ≡ Block cone → sayable_work cone ≡ block_work cone
work_said word cone e = sayable_work_lem cone (word_most word cone e)

-- the places of a semidefinite block, if they are so few that they are counted
pub counted_if_few : (n most : ℕ) → most < largest_order
    → then_some (leb (counted_triangle n) most) (counted_triangle n) ≡ then_some (leb (triangle n) most) (triangle n)
counted_if_few n most h = go (leb (triangle n) most) refl
  where
    go : (b : Bool) → leb (triangle n) most ≡ b → then_some (leb (counted_triangle n) most) (counted_triangle n) ≡ then_some (leb (triangle n) most) (triangle n)
    go true e = rw (counted_is n (omega (arith, order_in_triangle n, leb-true (triangle n) most e)))
    go false e = rw (counted_within n most h, e)

-- only a semidefinite block needs cone work
pub no_work : (cone : Cone) → ((n : ℕ) → cone ≡ PSD n → ⊥) → 0 ≡ sayable_work cone
unfolding sayable_work
no_work cone other = go cone other
  where
    neither : (b : Bool) → ◌≡◌ {A = ℕ} 0 (cond b 0 0)
    neither true = refl
    neither false = refl

    go : (cone : Cone) → ((n : ℕ) → cone ≡ PSD n → ⊥) → 0 ≡ cond (leb (places cone) 8191) (block_work cone) 0
    go (Zero size) other = neither (leb size 8191)
    go (RPos size) other = neither (leb size 8191)
    go (SOC size) other = neither (leb size 8191)
    go (RotSOC size) other = neither (leb size 8191)
    go (PSD n) other = absurd (other n refl)
