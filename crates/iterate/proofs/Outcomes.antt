-- What the loop keeps while it goes on, whether all fits or not, and the laws of its complete outcome.
use Prim.Native.Nat.{ℕ, zero, suc, ◌+◌, ◌-◌, ◌≤◌, ◌<◌, max}
use native.Mathlib.Omega.{arith}
use mathlib.Core.Path.{◌≡◌, refl, sym, ◌∙◌}
use mathlib.Core.Bool.{Bool, true, false, true≢false}
use mathlib.Core.List.{List}
use lib.Ieee.{Float}
use Rattle.std.specs.Prelude.{Option, Some, None}
use Rattle.std.specs.Option.{is_some}
use lib.ListN.{length}
use Rattle.rules.specs.declared.Criteria.{Criteria}
use Rattle.rules.specs.declared.Ending.{Ending}
use Rattle.rules.specs.declared.Ending.TheVariants.{ConeFailure}
use Rattle.rules.specs.declared.Norms.{Norms}
use Rattle.rules.specs.declared.Shape.{Shape}
use Rattle.rules.specs.declared.SolverParam.{SolverParam}
use Rattle.rules.specs.Problem.{Slices, Problem, embed, problem_in}
use Rattle.rules.specs.Step.{State}
use Rattle.rules.specs.Product.{Failure, none, block}
use Rattle.rules.specs.Run.{Verdict, GoesOn, Ends, whole_step, verdict, state_from, Piece, ending_of, is_cone_failure}
use Rattle.rules.specs.Criteria.{tau_of}
use Rattle.rules.specs.Progress.{Log, untouched, log_step}
use Rattle.rules.specs.Demands.{verdict_from}
use Rattle.rules.proofs.Progress.{few_rows}
use Rattle.rules.proofs.Run.{step_from_lem, state_from_lem, goes_by_the_rules}
use Rattle.project.specs.Project.{ConesReady}
use Rattle.shape.specs.Fitting.{LikeX}
use Rattle.step.specs.Update.{step_fits, StepReady}
use Rattle.step.proofs.Ready.{fits_ready, step_fits_lem}
use Rattle.iterate.specs.declared.Iterated.{Iterated}
use Rattle.whole_step.specs.declared.StepAnswer.{StepAnswer}
use Rattle.whole_step.specs.WholeStep.{left_by_step, WholeStepOutcome}
use Rattle.iterate.specs.Said.{said_by, made_by}
use Rattle.iterate.specs.Record.{log_answered}
use Rattle.iterate.specs.Iterate.{piece_of, before_last, record_of, counts_of, iterated, IterateOutcome}
use Rattle.iterate.proofs.Steps.{SteppedBy, step_fits_if, stepped_by, nothing_stepped, per_step}
use Rattle.iterate.proofs.Logged.{answered_logged}
use Rattle.iterate.proofs.Runs.{Running, running_start, running_counts, running_more, running_stops}

-- ---- the loop

-- vectors and cone work as long as before
pub record Kept (from s : State) : Type 0 where
  pub x_kept : length s.x ≡ length from.x
  pub y_kept : length s.y ≡ length from.y
  pub tau_kept : length s.dp_tau ≡ length from.dp_tau
  pub sigma_kept : length s.dp_sigma ≡ length from.dp_sigma
  pub rx_kept : length s.rx ≡ length from.rx
  pub tx_kept : length s.tx ≡ length from.tx
  pub cone_kept : length s.cone ≡ length from.cone

module _ (par : SolverParam) (shape : Shape) (c : List Float) (a : Slices) (b : List Float) (words : List ℕ) where
  same_fits : {from s : State} → Kept from s → step_fits par shape c a b words s ≡ step_fits par shape c a b words from
  same_fits k = rw (k.x_kept, k.y_kept, k.tau_kept, k.sigma_kept, k.rx_kept, k.tx_kept, k.cone_kept)

  -- While the piece goes on. Where not all fits, no step was taken.
  pub record Going (ns : Norms) (behind given : ℕ) (from : State) (places : List Float) (k q left : ℕ) (s : State) (log : Log) : Type 0 where
    pub running : Running (problem_in shape c a b words par) ns behind given from places k q left s log
    pub kept : Kept from s
    pub log_kept : length log.places ≡ length places
    pub first : step_fits par shape c a b words from ≡ false → (s ≡ from) × (log ≡ untouched places)

  pub going_start : (ns : Norms) (behind given : ℕ) (s : State) (places : List Float) → Going ns behind given s places behind 0 given s (untouched places)
  going_start ns behind given s places =
      record {
        running = running_start (problem_in shape c a b words par) ns behind given s places;
        kept = record { x_kept = refl; y_kept = refl; tau_kept = refl; sigma_kept = refl; rx_kept = refl; tx_kept = refl; cone_kept = refl };
        log_kept = refl;
        first = λ h. (refl, refl);
      }

module _ {par : SolverParam} {shape : Shape} {c : List Float} {a : Slices} {b : List Float} {words : List ℕ} {ns : Norms} {behind given : ℕ} {from : State} {places : List Float} {k q left : ℕ} {s : State} {log : Log} (g : Going par shape c a b words ns behind given from places k q left s log) where
  cones_now : step_fits par shape c a b words s ≡ true → ConesReady par shape.rows.0 words (length s.cone)
  cones_now h = (fits_ready par shape c a b words s h).cones

  fits_then : {t : Bool} → step_fits par shape c a b words s ≡ t → step_fits par shape c a b words from ≡ t
  fits_then h = sym (same_fits par shape c a b words g.kept) ∙ h

  -- no more rows than steps were taken
  pub rows_so_far : log.written + log.dropped ≤ k - behind
  rows_so_far =
      let r = g.running in
      rw r.recorded (omega (arith, few_rows (problem_in shape c a b words par) ns behind from (untouched places) (k - behind)))

  going_more : {said : Verdict} {made : ℕ} {to : State} {log' : Log} → step_fits par shape c a b words s ≡ true → SteppedBy (problem_in shape c a b words par) ns (k + 1) s said made to → log' ≡ log_step (problem_in shape c a b words par) (k + 1) (whole_step (problem_in shape c a b words par) ns s) log → said ≡ GoesOn → 1 < left → Kept s to → length log'.places ≡ length log.places → Going par shape c a b words ns behind given from places (k + 1) (q + made) (left - 1) to log'
  going_more f t r h more l m =
      record {
        running = running_more g.running t r (cones_now f) h more;
        kept = record {
          x_kept = l.x_kept ∙ g.kept.x_kept;
          y_kept = l.y_kept ∙ g.kept.y_kept;
          tau_kept = l.tau_kept ∙ g.kept.tau_kept;
          sigma_kept = l.sigma_kept ∙ g.kept.sigma_kept;
          rx_kept = l.rx_kept ∙ g.kept.rx_kept;
          tx_kept = l.tx_kept ∙ g.kept.tx_kept;
          cone_kept = l.cone_kept ∙ g.kept.cone_kept;
        };
        log_kept = m ∙ g.log_kept;
        first = λ n. absurd (true≢false (sym (fits_then f) ∙ n));
      }

  -- ---- how it returns

  going_end : step_fits par shape c a b words s ≡ true → {answer : Option Iterated} {to : State} {log' : List Float} → IterateOutcome true (problem_in shape c a b words par) ns behind given from places answer to log' → IterateOutcome (step_fits par shape c a b words from) (problem_in shape c a b words par) ns behind given from places answer to log'
  going_end f o = record { answered = rw (fits_then f) o.answered; left = rw (fits_then f) o.left; log_left = rw (fits_then f) o.log_left }

  going_nowhere : step_fits par shape c a b words s ≡ false → {to : State} → to ≡ s → IterateOutcome (step_fits par shape c a b words from) (problem_in shape c a b words par) ns behind given from places None to log.places
  going_nowhere f h =
      let w = g.first (fits_then f) in
      record { answered = rw (fits_then f); left = rw (fits_then f) (h ∙ w.0); log_left = rw (fits_then f, w.1) }

-- what the loop learns of its next step, and of its row
module _ {par : SolverParam} {shape : Shape} {c : List Float} {a : Slices} {b : List Float} {words : List ℕ} {ns : Norms} {behind given : ℕ} {from : State} {places : List Float} {k q left : ℕ} {s : State} {log : Log} {answer : Option StepAnswer} {to : State}
    (g : Going par shape c a b words ns behind given from places k q left s log) (taken : WholeStepOutcome (step_fits par shape c a b words s) (problem_in shape c a b words par) ns s answer to) where
  abbrev p : Problem
  p = problem_in shape c a b words par

  pub step_refused : answer ≡ None → IterateOutcome (step_fits par shape c a b words from) p ns behind given from places None to log.places
  step_refused is = let w = nothing_stepped taken is in going_nowhere g w.0 w.1

  pub rows_before : log.written + log.dropped < k + 1
  rows_before = omega (arith, rows_so_far g)

  module _ {step : StepAnswer} (is : answer ≡ Some step) where
    fits : step_fits par shape c a b words s ≡ true
    fits = step_fits_if taken is

    -- it left an x like the one before
    pub step_x : length to.x ≡ length s.x → LikeX shape to.x
    step_x kept = record { is = kept ∙ (fits_ready par shape c a b words s fits).x_like.is }

    module _ {log' : Log} {said : Verdict} {made : ℕ} (r : log' ≡ log_answered par.log_period (k + 1) (tau_of (embed p) to.x) step log) (says : said ≡ said_by par (k + 1) step) (counts : made ≡ made_by step) where
      row_is : log' ≡ log_step p (k + 1) (whole_step p ns s) log
      row_is = r ∙ answered_logged (rw fits at taken) is (k + 1) log

      stepped : SteppedBy p ns (k + 1) s said made to
      stepped = stepped_by (k + 1) taken is says counts

      pub step_counts : made ≤ per_step
      step_counts = running_counts g.running stepped row_is (cones_now g fits)

      pub step_stops : (is_some said ≡ false → left ≤ 1) → IterateOutcome (step_fits par shape c a b words from) p ns behind given from places (Some (iterated said (k + 1) (q + made) (counts_of log'))) to log'.places
      step_stops h = going_end g fits (running_stops g.running stepped row_is h)

      goes_on : (v : Verdict) → is_some v ≡ false → v ≡ GoesOn
      goes_on GoesOn e = refl
      goes_on (Ends e) h = absurd (true≢false h)

      pub step_more : is_some said ≡ false → 1 < left → Kept s to → length log'.places ≡ length log.places → Going par shape c a b words ns behind given from places (k + 1) (q + made) (left - 1) to log'
      step_more h l kept m = going_more g fits stepped row_is (goes_on said h) l kept m

-- ---- the outcome

-- Any two outcomes that the contract allows coincide: the answer, and each place of the vectors, of cone work and of the record.
pub iterate_outcomes_coincide : {fits : Bool} {p : Problem} {ns : Norms} {behind given : ℕ} {s : State} {log : List Float} {i j : Option Iterated} {s' t : State} {l m : List Float} → IterateOutcome fits p ns behind given s log i s' l → IterateOutcome fits p ns behind given s log j t m → (i ≡ j) × (s' ≡ t) × (l ≡ m)
iterate_outcomes_coincide o q = (o.answered ∙ sym q.answered, o.left ∙ sym q.left, o.log_left ∙ sym q.log_left)

-- what a caller learns whose problem fits: where no cone failed, what is left is the state after the last step
pub record RanBy (e : Piece) (record_is : Log) (answer : Option Iterated) (s' : State) (log' : List Float) : Type 0 where
  pub answer_is : answer ≡ Some (iterated e.said e.steps e.rotations (counts_of record_is))
  pub state_is : is_cone_failure (ending_of e.said) ≡ false → s' ≡ e.state
  pub log_is : log' ≡ record_is.places

-- an ending other than a cone's failure has no block that failed
no_failure : (par : SolverParam) (k : ℕ) (f : Failure) (criteria : Criteria) (e : Ending) → verdict par k f criteria ≡ Ends e → is_cone_failure e ≡ false → f ≡ none
unfolding verdict
no_failure par k none criteria e h g = refl
no_failure par k (block b) criteria e h g =
    let same : e ≡ ConeFailure b = cc in
    let z : true ≡ false = rw same at g in
    absurd (true≢false z)

last_left : (p : Problem) (ns : Norms) (t : State) (k : ℕ) (e : Ending) → verdict p.par k (whole_step p ns t).failure (whole_step p ns t).criteria ≡ Ends e → is_cone_failure e ≡ false → left_by_step p ns t ≡ (whole_step p ns t).state
unfolding left_by_step
last_left p ns t k e h g = let f = no_failure p.par k (whole_step p ns t).failure (whole_step p ns t).criteria e h g in rw f

module _ (p : Problem) (ns : Norms) (behind : ℕ) (s : State) where
  state_after : (made : ℕ) (c : Piece) (e : Ending) → 1 ≤ made → c.steps ≡ behind + made → c.state ≡ state_from p ns s made → verdict_from p ns behind s made ≡ Ends e → is_cone_failure e ≡ false → left_by_step p ns (state_from p ns s (c.steps - behind - 1)) ≡ c.state
  state_after zero c e l steps state says h = absurd (omega arith)
  state_after (suc j) c e l steps state says h =
      let index : c.steps - behind - 1 ≡ j = omega arith in
      let step = step_from_lem p ns s j in
      let there = rw step at says in
      rw (index, state, state_from_lem p ns s j, step) (last_left p ns (state_from p ns s j) (behind + suc j) e there h)

  state_left : (given : ℕ) (said : Verdict) → (piece_of p ns behind given s).said ≡ said → is_cone_failure (ending_of said) ≡ false → left_by_step p ns (before_last p ns behind given s) ≡ (piece_of p ns behind given s).state
  state_left given GoesOn is h = absurd (true≢false h)
  state_left given (Ends e) is h =
      let r = goes_by_the_rules (max given 1) p ns behind 0 s in
      let there = r.ends e is in
      state_after r.made (piece_of p ns behind given s) e there.0 r.steps_are r.state_there there.1 h

pub ran_where_fits : {par : SolverParam} {shape : Shape} {c : List Float} {a : Slices} {b : List Float} {words : List ℕ} {ns : Norms} {behind given : ℕ} {s : State} {log : List Float} {answer : Option Iterated} {s' : State} {log' : List Float} → IterateOutcome (step_fits par shape c a b words s) (problem_in shape c a b words par) ns behind given s log answer s' log' → StepReady par shape c a b words s
    → RanBy (piece_of (problem_in shape c a b words par) ns behind given s) (record_of (problem_in shape c a b words par) ns behind given s log) answer s' log'
ran_where_fits {par} {shape} {c} {a} {b} {words} {ns} {behind} {given} {s} o r =
    let p = problem_in shape c a b words par in
    let e = step_fits_lem r in
    record {
      answer_is = rw e at o.answered;
      state_is = λ h. (rw e at o.left) ∙ state_left p ns behind s given (piece_of p ns behind given s).said refl h;
      log_is = rw e at o.log_left;
    }
