-- "The empty default problem's whole output is the line `Converged 1 0`."
use Prim.Native.Nat.{ℕ, ◌+◌, ◌≤◌}
use native.Mathlib.Omega.{arith}
use mathlib.Core.Path.{◌≡◌, refl}
use mathlib.Core.List.{List, [], ◌∷◌}
use mathlib.Core.Bool.{Bool, true, false, cond}
use lib.Dec.{leb}
use lib.Ieee.{Float}
use lib.ListN.{length, take, replicate}
use Rattle.rules.specs.declared.Ending.TheVariants.{Converged}
use Rattle.rules.specs.Arithmetic.{+0}
use Rattle.rules.specs.Run.{solution_x, solution_y}
use Rattle.rules.specs.Refusals.{solved}
use Rattle.std.specs.Prelude.{Result, Ok}
use Rattle.rules.specs.declared.Answer.{Answer}
use Rattle.card.specs.Card.{read_card}
use Rattle.card.specs.declared.Fault.{Fault}
use Rattle.card_answer.specs.Answer.{work_places, problem_from, told_of, work_after}
use Rattle.card_text.specs.Text.{number_lines, AnswerText, ToldText, text_room, TextOutcome}
use Rattle.card_text.specs.EmptyCard.{empty_card, the_line}
use Rattle.card_problem.specs.declared.Told.{Told}
use Rattle.card_text.proofs.Coincide.{same_told}

abbrev the_answer : Result (Told Answer) Fault
the_answer = Ok (record { rows = record { 0 = 0 }; cols = record { 0 = 0 }; answer = record { ending = Converged +0 +0 +0; steps = 1; rotations = 0 } })

told_of-empty : told_of (read_card empty_card) (replicate work_places +0) ≡ the_answer
unfolding empty_card read_card problem_from solved
told_of-empty = refl

nothing : (b : Bool) → ◌≡◌ {A = List Float} (cond b [] []) []
nothing true = refl
nothing false = refl

x_none : (work : List Float) → solution_x 0 work ≡ []
unfolding solution_x
x_none work = nothing (leb 0 (length work))

y_none : (work : List Float) → solution_y 0 0 work ≡ []
unfolding solution_y
y_none work = nothing (leb (0 + 0) (length work))

allowed : (work : List Float) → AnswerText (Converged +0 +0 +0) 1 0 (solution_x 0 work) (solution_y 0 0 work) the_line
unfolding the_line number_lines
allowed work =
    record {
      first = the_line;
      is_first =
          record {
            steps = 49 ∷ [];
            rotations = 48 ∷ [];
            is_steps = record { places = 1; fewest = (omega arith, omega arith, λ h. absurd (omega arith)); spelled = refl };
            is_rotations = record { places = 1; fewest = (omega arith, omega arith, λ h. absurd (omega arith)); spelled = refl };
            is = refl;
          };
      is = rw (x_none work, y_none work);
    }

pub the_empty_problem : (before : List ℕ) (count : ℕ) (after : List ℕ) → text_room ≤ length before → TextOutcome empty_card before count after → take count after ≡ the_line
the_empty_problem before count after h o =
    let work = work_after (read_card empty_card) (replicate work_places +0) in
    let text : ToldText the_answer work (take count after) = rw told_of-empty at (o.written h).said in
    same_told the_answer work (take count after) the_line text (allowed work)
