-- What a projection answered, asked; and the two words that a record holds of it.
use Rattle.std.specs.Prelude.{ℕ, Bool, true, false, eqb, Option, Some, None}
use Rattle.rules.specs.declared.Projection.{Projection}
use Rattle.rules.specs.declared.Projection.TheVariants.{Done, Failed}

-- it succeeded, with so many rotations
abbrev pub done_by : Option Projection → ℕ → Bool
done_by (Some (Done made)) rotations = eqb made rotations
done_by (Some (Failed made)) rotations = false
done_by None rotations = false

-- it failed, with so many rotations
abbrev pub failed_by : Option Projection → ℕ → Bool
failed_by (Some (Done made)) rotations = false
failed_by (Some (Failed made)) rotations = eqb made rotations
failed_by None rotations = false

-- it turned the block down
abbrev pub turned_down : Option Projection → Bool
turned_down (Some (Done made)) = false
turned_down (Some (Failed made)) = false
turned_down None = true

-- 1 for success or 0; the rotations
abbrev pub success_of : Projection → ℕ
success_of (Done made) = 1
success_of (Failed made) = 0

abbrev pub rotations_of : Projection → ℕ
rotations_of (Done made) = made
rotations_of (Failed made) = made
