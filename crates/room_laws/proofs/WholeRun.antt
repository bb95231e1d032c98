-- The whole of a run: cleared, prepared, stepped and settled, whatever answer is made of what it came to.
use mathlib.Core.Path.{◌≡◌, refl, sym, ap, ◌∙◌}
use mathlib.Core.Bool.{true, true≢false}
use mathlib.Core.List.{List}
use lib.Ieee.{Float}
use lib.ListN.{length}
use Rattle.std.specs.Prelude.{ℕ, Bool, Option, Some, None}
use Rattle.std.specs.Option.{is_some, unwrap_or}
use Rattle.rules.specs.declared.Ending.TheVariants.{ConeFailure}
use Rattle.rules.specs.declared.Logged.{Logged}
use Rattle.rules.specs.declared.Norms.{Norms}
use Rattle.rules.specs.declared.Shape.{Shape}
use Rattle.rules.specs.declared.SolverParam.{SolverParam}
use Rattle.rules.specs.Prepare.{zeros}
use Rattle.rules.specs.Problem.{Slices, problem_in}
use Rattle.rules.specs.Run.{Verdict, GoesOn, Ends, ending_of}
use Rattle.step.specs.Update.{state_of, step_fits}
use Rattle.prepare.specs.Prepare.{prepare_fits, PreparedOutcome}
use Rattle.iterate.specs.declared.Iterated.{Iterated}
use Rattle.iterate.specs.Iterate.{IterateOutcome}
use Rattle.settle.specs.Settle.{SettleOutcome}
use Rattle.solver.specs.Solve.{Lent, AtZero, answer_by, RanIn}
use Rattle.solver.proofs.Whole.{run_prepares, run_iterates, run-whole as run-settled}

some_at : {A : Type 0} (o : Option A) (a : A) → is_some o ≡ true → ((n : A) → o ≡ Some n → a ≡ n) → o ≡ Some a
some_at (Some n) a t same = λ i. Some (sym (same n refl) i)
some_at None a t same = absurd (true≢false (sym t))

ended : (said : Verdict) → ending_of said ≡ unwrap_or said (ConeFailure 0)
ended GoesOn = refl
ended (Ends e) = refl

module _ {shape : Shape} {c : List Float} {a : Slices} {b : List Float} {words : List ℕ} {par : SolverParam} {x y tau sigma rx tx : List Float} {prepared_as : Option Norms} {x₁ y₁ tau₁ sigma₁ work cone cone₁ : List Float} {ns : Norms} {ran : Option Iterated} {x₂ y₂ rx₂ tx₂ cone₂ log log' : List Float} {answer : Logged} {fits : Bool} {x₃ work' cone' : List Float} where
  pub run-whole : Lent shape c a b words par work cone → AtZero shape x y tau sigma rx tx
      → cone₁ ≡ zeros (length cone)
      → PreparedOutcome (prepare_fits shape c a b words x y tau sigma) (problem_in shape c a b words par) x y tau sigma prepared_as x₁ y₁ tau₁ sigma₁ → ((n : Norms) → prepared_as ≡ Some n → ns ≡ n)
      → IterateOutcome (step_fits par shape c a b words (state_of x₁ y₁ tau₁ sigma₁ rx tx cone₁)) (problem_in shape c a b words par) ns 0 par.max_iter (state_of x₁ y₁ tau₁ sigma₁ rx tx cone₁) log ran (state_of x₂ y₂ tau₁ sigma₁ rx₂ tx₂ cone₂) log'
      → ((i : Iterated) → ran ≡ Some i → answer ≡ answer_by i.said i.steps i.rotations i.rows)
      → SettleOutcome shape.rows.0 shape.cols.0 x₂ y₂ tau₁ sigma₁ rx₂ tx₂ work answer.answer.ending cone₂ fits x₃ work' cone'
      → length x₂ ≡ length x₁ → length y₂ ≡ length y₁ → length rx₂ ≡ length rx → length tx₂ ≡ length tx → length cone₂ ≡ length cone₁
      → RanIn (problem_in shape c a b words par) work log answer work' cone' log'
  run-whole lent z cleared prepares norms_are steps answers settles kept_x kept_y kept_rx kept_tx kept_cone = by_run ran refl (run_iterates lent z prepares prepared cleared steps)
    where
      prepared : prepared_as ≡ Some ns
      prepared = some_at prepared_as ns (run_prepares lent z prepares) norms_are

      by_run : (o : Option Iterated) → ran ≡ o → is_some o ≡ true → RanIn (problem_in shape c a b words par) work log answer work' cone' log'
      by_run None is t = absurd (true≢false (sym t))
      by_run (Some i) is t =
          let told : answer ≡ answer_by i.said i.steps i.rotations i.rows = answers i is in
          let ending_is : answer.answer.ending ≡ unwrap_or i.said (ConeFailure 0) = ap (λ (l : Logged). l.answer.ending) told ∙ ended i.said in
          let left = run-settled lent z prepares prepared cleared steps is ending_is settles kept_x kept_y kept_rx kept_tx kept_cone in
          rw (told, ended i.said, ← ending_is) left
