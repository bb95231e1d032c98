-- Laws of what a run answered and left, held to a record.
use Prim.Native.Nat.{ℕ, ◌+◌, ◌/◌, ◌≤◌}
use native.Mathlib.Omega.{arith}
use mathlib.Core.Path.{◌≡◌, refl}
use mathlib.Core.Bool.{Bool, true, false, ◌&&◌}
use mathlib.Core.List.{List}
use lib.Dec.{eqb}
use lib.Ieee.{Float}
use lib.ListN.{length}
use borrow.Author.Tests.{ne_eqb}
use Rattle.rules.specs.declared.Ending.{Ending}
use Rattle.rules.specs.declared.Ending.TheVariants.{BadParam, TooLarge, InvalidOp, BadCone, NotFinite, WorkShortage, Converged, ExcessIter, ExcessIterUnscaled, Unbounded, Infeasible, ConeFailure}
use Rattle.rules.specs.Run.{solution_x, solution_y}
use Rattle.replay.specs.Records.{word_of, stand_before}
use Rattle.replay.proofs.Records.{word_past}
use Rattle.replay_answers.specs.Numbers.{number_in_lists}
use Rattle.replay_answers.specs.Held.{is_told, ends_after, is_left}

-- no answer has the number 0
numbered : (e : Ending) → eqb (number_in_lists e) 0 ≡ false
numbered BadParam = refl
numbered TooLarge = refl
numbered InvalidOp = refl
numbered BadCone = refl
numbered NotFinite = refl
numbered WorkShortage = refl
numbered (Converged pri dual gap) = refl
numbered (ExcessIter pri dual gap) = refl
numbered (ExcessIterUnscaled unbdd infeas) = refl
numbered (Unbounded unbdd) = refl
numbered (Infeasible infeas) = refl
numbered (ConeFailure b) = refl

pub told_past : (bytes : List ℕ) (i : ℕ) (e : Ending) (k q : ℕ) → length bytes / 8 ≤ i → false ≡ is_told bytes i e k q
unfolding is_told
told_past bytes i e k q h = rw (word_past bytes i h, numbered e)

-- buffers, in the order of the code's tests
last_false : (a b : Bool) → false ≡ a && b && false
last_false true true = refl
last_false true false = refl
last_false false b = refl

ends_past : (bytes : List ℕ) (i used cone_used : ℕ) → length bytes / 8 ≤ i → ends_after bytes i used cone_used ≡ false
ends_past bytes i used cone_used h =
    let past : eqb (length bytes / 8) (i + 8 + used + cone_used) ≡ false = ne_eqb (length bytes / 8) (i + 8 + used + cone_used) (λ e. absurd (omega arith)) in
    rw (word_past bytes i h) past

module _ (bytes : List ℕ) (i pattern : ℕ) (work cone : List Float) where
  abbrev used : ℕ
  used = word_of bytes (i + 6)

  abbrev cone_used : ℕ
  cone_used = word_of bytes (i + 7)

  pub left_past : length bytes / 8 ≤ i → false ≡ is_left bytes i pattern work cone
  unfolding is_left
  left_past h = rw (ends_past bytes i used cone_used h) (last_false (stand_before bytes (i + 8) work used pattern) (stand_before bytes (i + 8 + used) cone cone_used pattern))

-- x and y as parts of work
pub first_part : (n : ℕ) (work : List Float) → solution_x n work ≡ solution_y n 0 work
unfolding solution_x solution_y
first_part n work =
    let all : 0 + n ≡ n = omega arith in
    rw all
