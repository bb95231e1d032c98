-- What a caller learns whose lengths fit.
use Prim.Native.Nat.{ℕ}
use mathlib.Core.Path.{◌≡◌}
use mathlib.Core.Bool.{Bool}
use mathlib.Core.List.{List}
use borrow.Author.Tests.{eq-eqb}
use lib.Ieee.{Float}
use lib.ListN.{length}
use Rattle.rules.specs.Outcome.{Outcome}
use Rattle.rules.proofs.Outcome.{ruled_if_fits}
use Rattle.embedding.specs.Embedding.{lengths_fit}

-- of each of the six products: y becomes what the rule says
pub product_ruled : (wide high : ℕ) (x y : List Float) {ruled : List Float} {answer : Bool} {y' : List Float}
    → Outcome (lengths_fit wide high x y) ruled y answer y' → length x ≡ wide → length y ≡ high → y' ≡ ruled
product_ruled wide high x y o hx hy = ruled_if_fits o (rw (eq-eqb _ _ hx) (eq-eqb _ _ hy))
