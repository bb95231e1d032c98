-- Each block of a list that fits has its part of a lent slice.
use Prim.Native.Nat.{ℕ, ◌+◌, ◌-◌, ◌≤◌, ◌<◌}
use native.Mathlib.Omega.{arith}
use mathlib.Core.Path.{◌≡◌, ◌∙◌}
use mathlib.Core.List.{List}
use lib.Ieee.{Float}
use lib.ListN.{length, get_or}
use Rattle.rules.specs.declared.Cone.{Cone}
use Rattle.rules.specs.Blocks.{Block, read_word, places}
use Rattle.rules.proofs.ConeProduct.{Walk, walk_places}
use Rattle.block.specs.Sayable.{sayable_places}
use Rattle.block.proofs.Sayable.{places_said}

pub record Part (b : Cone) (x : List Float) (a size : ℕ) : Type 0 where
  pub inside : a + size ≤ length x
  pub whole : size ≡ places b
  pub long : a + size - a ≡ places b

pub part : {words : List ℕ} {len i a : ℕ} → Walk words len i a → i < length words → (b : Cone) → read_word (get_or words i 0) ≡ Block b → {size : ℕ} → size ≡ sayable_places b
    → {x : List Float} → length x ≡ len → Part b x a size
part {words} {len} {i} walk h b says {size} is {x} same =
    let all : size ≡ places b = is ∙ places_said (get_or words i 0) b says in
    record { inside = omega (arith, all, walk_places walk h b says, same); whole = all; long = omega (arith, all) }
