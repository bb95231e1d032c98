-- The record of a run: its rows from the first place on, those that did not fit counted, and all other places kept.
use Prim.Native.Nat.{ℕ, zero, suc, ◌+◌, ◌-◌, ◌*◌, ◌/◌, ◌≤◌, ◌<◌, min}
use native.Mathlib.Nat.{le-div_iff_mul-le, div-lt_iff_lt-mul}
use native.Mathlib.Omega.{arith}
use mathlib.Core.Path.{◌≡◌, refl, sym, ◌∙◌, ap}
use mathlib.Core.Bool.{Bool, true, false, not, cond, ◌&&◌}
use mathlib.Core.List.{List, append_assoc}
use borrow.Author.Tests.{leb-true, leb-false}
use borrow.Rule.Slice.PartMut.{drop_put}
use lib.Ieee.{Float}
use lib.ListN.{length, take, drop}
use lib.Seq.{drop-drop}
use Rattle.rules.specs.declared.Answer.{Answer}
use Rattle.rules.specs.declared.Criteria.{Criteria}
use Rattle.rules.specs.declared.Criteria.TheVariants.{Conv, Inf}
use Rattle.rules.specs.declared.Ending.{Ending}
use Rattle.rules.specs.declared.SolverParam.{SolverParam}
use Rattle.rules.specs.Product.{Failure, is_none}
use Rattle.rules.specs.Problem.{Problem, embed}
use Rattle.rules.specs.Step.{part}
use Rattle.rules.specs.Criteria.{tau_of}
use Rattle.rules.specs.Prepare.{prepared, prepared_norms}
use Rattle.rules.specs.Run.{Ends, WholeStep, whole_step, verdict, is_cone_failure, run}
use Rattle.rules.specs.Progress.{is_due, row_of, Log, untouched, row_fits, row_put, log_row, log_step, log_after}
use Rattle.rules.specs.Demands.{state_after, step, tau_after, due_up_to, completed, row_at, RecordedByTheRules}
use Rattle.rules.proofs.Columns.{by_less}
use Rattle.rules.proofs.Parts.{put, places as span, drop_rest, put_length, put_part, part_before}
use Rattle.rules.proofs.Due.{none_due, due_more, due_as_before, due_place, row_up_to}
use Rattle.rules.proofs.Run.{step_from_lem, state_from_lem, goes_on_exactly, ends_first}
use Rattle.rules.proofs.Refusals.{verdict_cases}
use Rattle.rules.proofs.Progress.{step_without_row, step_with_row, row_written, row_dropped, log_none, log_more}

-- ---- a row that is put in its place

-- lent, and back with the row
pub row_put_lem : (w : ℕ) (row places : List Float) → row_put w row places ≡ put (4 * w) (4 * w + 4) places row
unfolding row_put
row_put_lem w row places =
    append_assoc (take (4 * w) places) row (drop (4 * w + 4) places)
    ∙ rw (drop_rest (4 * w) (4 * w + 4) places (omega arith))

module _ (w : ℕ) (row places : List Float) (four : length row ≡ 4) (fits : 4 * w + 4 ≤ length places) where
  abbrev a : ℕ
  a = 4 * w

  as_many : length row ≡ a + 4 - a
  as_many = omega arith

  put_long : length (row_put w row places) ≡ length places
  put_long = rw (row_put_lem w row places) (put_length a (a + 4) places row (omega arith) fits as_many)

  put_there : part a 4 (row_put w row places) ≡ row
  put_there = rw (row_put_lem w row places, span a 4) (rw (span a 4) at (put_part a (a + 4) places row (omega arith) fits as_many))

  -- the rows before it stay, and what lies after it
  put_before : (j : ℕ) → j < w → part (4 * j) 4 (row_put w row places) ≡ part (4 * j) 4 places
  put_before j l = rw (row_put_lem w row places) (part_before a (a + 4) places row (omega arith) fits as_many (4 * j) 4 (omega arith))

  put_after : drop (a + 4) (row_put w row places) ≡ drop (a + 4) places
  put_after = rw (row_put_lem w row places) (drop_put a (a + 4) places row (omega arith) fits as_many)

-- ---- a record after i steps, the row of step k being `row k`

record KeptTo (period : ℕ) (row : ℕ → List Float) (log : List Float) (i : ℕ) (l : Log) : Type 0 where
  rows : (j : ℕ) → j < l.written → part (4 * j) 4 l.places ≡ row (1 + j * period)
  as_many_as_fit : l.written ≡ min (length log / 4) (due_up_to period i)
  all_counted : l.written + l.dropped ≡ due_up_to period i
  as_long : length l.places ≡ length log
  others_kept : drop (4 * l.written) l.places ≡ drop (4 * l.written) log

-- where a row more fits none was dropped; where none fits, as many stand as ever
one_more : (long w due : ℕ) → w ≡ min (long / 4) due → 4 * w + 4 ≤ long → (w ≡ due) × (w + 1 ≡ min (long / 4) (due + 1))
one_more long w due is fits =
    let quarter : w + 1 ≤ long / 4 = (le-div_iff_mul-le {k = 4} (omega arith)).1 (omega arith) in
    (omega arith, omega arith)

no_more : (long w due : ℕ) → w ≡ min (long / 4) due → long < 4 * w + 4 → w ≡ min (long / 4) (due + 1)
no_more long w due is not_fits =
    let quarter : long / 4 < w + 1 = (div-lt_iff_lt-mul {k = 4} (omega arith)).1 (omega arith) in
    omega arith

module _ {period : ℕ} {row : ℕ → List Float} {log : List Float} where
  kept_none : KeptTo period row log 0 (untouched log)
  kept_none =
      record {
        rows = λ j l. absurd (omega arith);
        as_many_as_fit = omega (arith, none_due period);
        all_counted = omega (arith, none_due period);
        as_long = refl;
        others_kept = refl;
      }

  -- a step that is not due
  kept_without : {i : ℕ} {l : Log} → is_due period (suc i) ≡ false → KeptTo period row log i l → KeptTo period row log (suc i) l
  kept_without {i} {l} not_due k =
      let same = due_as_before period i not_due in
      record {
        rows = k.rows;
        as_many_as_fit = rw same k.as_many_as_fit;
        all_counted = rw same k.all_counted;
        as_long = k.as_long;
        others_kept = k.others_kept;
      }

  -- one that is due: its row stands after the others, or is dropped
  module _ {i : ℕ} {l : Log} (due : is_due period (suc i) ≡ true) (four : length (row (suc i)) ≡ 4) (k : KeptTo period row log i l) where
    kept_written : row_fits l.written l.places ≡ true → KeptTo period row log (suc i) (log_row (row (suc i)) l)
    kept_written fits =
        let w = l.written in
        let inside : 4 * w + 4 ≤ length l.places = leb-true _ _ fits in
        let more = one_more (length log) w (due_up_to period i) k.as_many_as_fit (omega (arith, k.as_long)) in
        let there : suc i ≡ 1 + w * period = rw more.0 (omega (arith, due_place period i due)) in
        let next : 4 * (w + 1) ≡ 4 * w + 4 = omega arith in
        rw (row_written (row (suc i)) l fits)
        (record {
          rows = λ j below. by_less j w (λ h. put_before w (row (suc i)) l.places four inside j h ∙ k.rows j h) (λ h.
              let last : j ≡ w = omega arith in
              rw last (put_there w (row (suc i)) l.places four inside ∙ ap row there));
          as_many_as_fit = rw (due_more period i due) more.1;
          all_counted = rw (due_more period i due) (omega (arith, k.all_counted));
          as_long = put_long w (row (suc i)) l.places four inside ∙ k.as_long;
          others_kept = rw next (put_after w (row (suc i)) l.places four inside ∙ later l.places log w k.others_kept);
        })
      where
        later : (v u : List Float) (w : ℕ) → drop (4 * w) v ≡ drop (4 * w) u → drop (4 * w + 4) v ≡ drop (4 * w + 4) u
        later v u w e = sym (drop-drop 4 (4 * w) v) ∙ ap (drop 4) e ∙ drop-drop 4 (4 * w) u

    kept_dropped : row_fits l.written l.places ≡ false → KeptTo period row log (suc i) (log_row (row (suc i)) l)
    kept_dropped not_fits =
        let outside : length l.places < 4 * l.written + 4 = leb-false _ _ not_fits in
        rw (row_dropped (row (suc i)) l not_fits)
        (record {
          rows = k.rows;
          as_many_as_fit = rw (due_more period i due) (no_more (length log) l.written (due_up_to period i) k.as_many_as_fit (omega (arith, k.as_long)));
          all_counted = rw (due_more period i due) (omega (arith, k.all_counted));
          as_long = k.as_long;
          others_kept = k.others_kept;
        })

    kept_with : KeptTo period row log (suc i) (log_row (row (suc i)) l)
    kept_with = go (row_fits l.written l.places) refl
      where
        go : (t : Bool) → row_fits l.written l.places ≡ t → KeptTo period row log (suc i) (log_row (row (suc i)) l)
        go true e = kept_written e
        go false e = kept_dropped e

-- ---- the record of a run's first steps

four_places : (tau : Float) (criteria : Criteria) → length (row_of tau criteria) ≡ 4
four_places tau (Conv pri dual gap) = refl
four_places tau (Inf unbdd infeas) = refl

and_false : (t u : Bool) → u ≡ false → t && u ≡ false
and_false true u e = e
and_false false u e = refl

module _ (p : Problem) (log : List Float) where
  abbrev period : ℕ
  period = p.par.log_period

  -- step i + 1, as the record reads it
  made : ℕ → WholeStep
  made i = whole_step p (prepared_norms p) (state_after p i)

  row_there : (i : ℕ) → row_of (tau_of (embed p) (made i).state.x) (made i).criteria ≡ row_at p (suc i)
  unfolding made
  row_there i =
      rw (state_from_lem p (prepared_norms p) (prepared p) i, step_from_lem p (prepared_norms p) (prepared p) i)

  failure_there : (i : ℕ) → (made i).failure ≡ (step p (suc i)).failure
  unfolding made
  failure_there i = rw (step_from_lem p (prepared_norms p) (prepared p) i)

  after_more : (i : ℕ) → log_after p log (suc i) ≡ log_step p (suc i) (made i) (log_after p log i)
  unfolding made
  after_more i =
      let none_behind : 0 + suc i ≡ suc i = omega arith in
      rw (log_more p (prepared_norms p) 0 (prepared p) (untouched log) i, none_behind)

  -- one that fails writes no row and drops none
  after_failure : (i : ℕ) → is_none (step p (suc i)).failure ≡ false → log_after p log (suc i) ≡ log_after p log i
  after_failure i fails =
      after_more i
      ∙ step_without_row p (suc i) (made i) (log_after p log i) (and_false (is_due period (suc i)) (is_none (made i).failure) (rw (failure_there i) fails))

  kept_more : (i : ℕ) → is_none (step p (suc i)).failure ≡ true → KeptTo period (row_at p) log i (log_after p log i) → KeptTo period (row_at p) log (suc i) (log_after p log (suc i))
  kept_more i none_fails k = rw (after_more i) (go (is_due period (suc i)) refl)
    where
      test : (b : Bool) → is_due period (suc i) ≡ b → is_due period (suc i) && is_none (made i).failure ≡ b
      test true e = rw (e, failure_there i) none_fails
      test false e = rw e

      go : (b : Bool) → is_due period (suc i) ≡ b → KeptTo period (row_at p) log (suc i) (log_step p (suc i) (made i) (log_after p log i))
      go true e = rw (step_with_row p (suc i) (made i) (log_after p log i) (test true e), row_there i) (kept_with e (four_places (tau_after p (suc i)) (step p (suc i)).criteria) k)
      go false e = rw (step_without_row p (suc i) (made i) (log_after p log i) (test false e)) (kept_without e k)

  -- as far as no step fails
  kept_to : (i : ℕ) → ((j : ℕ) → 1 ≤ j → j ≤ i → is_none (step p j).failure ≡ true) → KeptTo period (row_at p) log i (log_after p log i)
  kept_to zero none_fails = rw (log_none p (prepared_norms p) 0 (prepared p) (untouched log)) kept_none
  kept_to (suc i) none_fails =
      kept_more i (none_fails (suc i) (omega arith) (omega arith)) (kept_to i (λ j l h. none_fails j l (omega arith)))

-- ---- the whole run's

-- a step's ending says whether a cone failed
fails_as_said : (par : SolverParam) (k : ℕ) (failure : Failure) (criteria : Criteria) (x : Ending) → verdict par k failure criteria ≡ Ends x → is_none failure ≡ not (is_cone_failure x)
fails_as_said par k failure criteria x h =
    verdict_cases (λ e. is_none failure ≡ not (is_cone_failure e)) par k failure criteria x
    (record {
      failing = λ b f. ap is_none f;
      converging = λ pri dual gap f c. (ap is_none f, ap is_none f);
      diverging = λ unbdd infeas f c. (ap is_none f, ap is_none f, ap is_none f);
    })
    h

module _ (p : Problem) where
  -- what the run answers
  abbrev ran : Answer
  ran = record { ending = (run p).ending; steps = (run p).steps; rotations = (run p).rotations }

  before_last : (k : ℕ) → 1 ≤ k → k < (run p).steps → is_none (step p k).failure ≡ true
  before_last k l h = ap is_none ((goes_on_exactly p k (step p k).failure (step p k).criteria).exactly.0 ((ends_first p).not_before k l h)).0

  at_last : is_none (step p (run p).steps).failure ≡ not (is_cone_failure (run p).ending)
  at_last = fails_as_said p.par (run p).steps (step p (run p).steps).failure (step p (run p).steps).criteria (run p).ending (ends_first p).ends_there

module _ (p : Problem) (log : List Float) where
  -- the last step of a run may fail, and no other does
  kept_completed : (b : Bool) → is_cone_failure (run p).ending ≡ b → KeptTo p.par.log_period (row_at p) log (cond b ((run p).steps - 1) (run p).steps) (log_after p log (run p).steps)
  kept_completed false held =
      kept_to p log (run p).steps (λ j l h. by_less j (run p).steps (before_last p j l) (λ above.
      let last : j ≡ (run p).steps = omega arith in
      rw (last, at_last p, held)))
  kept_completed true failed =
      let k = (run p).steps - 1 in
      let last : (run p).steps ≡ suc k = omega (arith, (ends_first p).at_least_one) in
      let fails : is_none (step p (suc k)).failure ≡ false = rw (← last, at_last p, failed) in
      let same : log_after p log (run p).steps ≡ log_after p log k = ap (log_after p log) last ∙ after_failure p log k fails in
      rw same (kept_to p log k (λ j l h. before_last p j l (omega arith)))

  kept : KeptTo p.par.log_period (row_at p) log (completed (ran p)) (log_after p log (run p).steps)
  kept = kept_completed (is_cone_failure (run p).ending) refl

  pub recorded : RecordedByTheRules p log (record { answer = ran p; written = (log_after p log (run p).steps).written; dropped = (log_after p log (run p).steps).dropped }) (log_after p log (run p).steps).places
  recorded =
      record {
        rows = kept.rows;
        up_to_k = λ j l. row_up_to p.par.log_period (completed (ran p)) j (omega (arith, kept.all_counted));
        as_many_as_fit = kept.as_many_as_fit;
        all_counted = kept.all_counted;
        as_long = kept.as_long;
        others_kept = kept.others_kept;
      }
