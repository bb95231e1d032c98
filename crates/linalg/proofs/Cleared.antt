-- A vector of which each place becomes +0.
use mathlib.Core.Path.{◌≡◌, refl, ap}
use mathlib.Core.List.{List, [], ◌∷◌}
use lib.Ieee.{Float}
use lib.ListN.{length}
use Rattle.rules.specs.Arithmetic.{+0, each}
use Rattle.rules.specs.Prepare.{zeros}

pub cleared : (v : List Float) → each (λ k w. +0) v ≡ zeros (length v)
unfolding each
cleared [] = refl
cleared (x ∷ v) = ap (λ (l : List Float). +0 ∷ l) (cleared v)
