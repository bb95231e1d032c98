-- A loop over whole steps is the rule's piece of a run, and what it leaves is its outcome.
use Prim.Native.Nat.{ℕ, suc, ◌+◌, ◌-◌, ◌*◌, ◌<◌, ◌≤◌, max}
use native.Mathlib.Omega.{arith}
use mathlib.Core.Path.{◌≡◌, refl, sym, ◌∙◌}
use mathlib.Core.Bool.{true, false}
use mathlib.Core.List.{List}
use lib.Ieee.{Float}
use Rattle.rules.specs.declared.Norms.{Norms}
use Rattle.rules.specs.Problem.{Problem}
use Rattle.rules.specs.Step.{State}
use Rattle.rules.specs.Run.{Verdict, GoesOn, Ends, whole_step, verdict, state_from, going_on, piece_from}
use Rattle.rules.specs.Progress.{Log, untouched, log_step, log_from}
use Rattle.rules.proofs.Progress.{log_none, log_more}
use Rattle.rules.proofs.Run.{goes_on_exactly, piece_more, piece_none, no_steps, step_from_lem, state_from_lem}
use Rattle.project.specs.Project.{ConesReady}
use Rattle.whole_step.specs.WholeStep.{left_by_step}
use Rattle.std.specs.Prelude.{Some}
use Rattle.std.specs.Option.{is_some}
use Rattle.iterate.specs.Iterate.{piece_of, counts_of, iterated, IterateOutcome}
use Rattle.iterate.proofs.Steps.{SteppedBy, per_step, step_within}

-- With k steps behind, q rotations made, a record so far and so many steps left to take: what is left equals the whole piece.
pub record Running (p : Problem) (ns : Norms) (behind given : ℕ) (from : State) (places : List Float) (k q left : ℕ) (s : State) (log : Log) : Type 0 where
  pub least : behind ≤ k
  pub rest : k + max left 1 ≡ behind + max given 1
  pub within : q ≤ (k - behind) * per_step
  pub there : s ≡ state_from p ns from (k - behind)
  pub recorded : log ≡ log_from p ns behind from (untouched places) (k - behind)
  pub same : piece_from (max left 1) p ns k q s ≡ piece_of p ns behind given from

pub running_start : (p : Problem) (ns : Norms) (behind given : ℕ) (s : State) (places : List Float) → Running p ns behind given s places behind 0 given s (untouched places)
running_start p ns behind given s places =
    let none_made : behind - behind ≡ 0 = omega arith in
    record {
      least = omega arith;
      rest = refl;
      within = omega arith;
      there = rw none_made (sym (no_steps p ns s));
      recorded = rw none_made (sym (log_none p ns behind s (untouched places)));
      same = refl;
    }

one_more : (p : Problem) (ns : Norms) (from s : State) (k behind : ℕ) → behind ≤ k → s ≡ state_from p ns from (k - behind) → (whole_step p ns s).state ≡ state_from p ns from (k + 1 - behind)
one_more p ns from s k behind l e =
    let next : k + 1 - behind ≡ suc (k - behind) = omega arith in
    rw (next, state_from_lem p ns from (k - behind), step_from_lem p ns from (k - behind), e)

-- one step more in the record
one_logged : (p : Problem) (ns : Norms) (from s : State) (k behind : ℕ) (places : List Float) (log to : Log) → behind ≤ k → s ≡ state_from p ns from (k - behind) → log ≡ log_from p ns behind from (untouched places) (k - behind) → to ≡ log_step p (k + 1) (whole_step p ns s) log → to ≡ log_from p ns behind from (untouched places) (k + 1 - behind)
one_logged p ns from s k behind places log to l there recorded e =
    let next : k + 1 - behind ≡ suc (k - behind) = omega arith in
    let step : behind + suc (k - behind) ≡ k + 1 = omega arith in
    rw (next, log_more p ns behind from (untouched places) (k - behind), step, ← there, ← recorded) e

rest_next : (k left all : ℕ) → 1 < left → k + max left 1 ≡ all → k + 1 + max (left - 1) 1 ≡ all
rest_next k left all l e = omega arith

module _ {p : Problem} {ns : Norms} {behind given : ℕ} {from : State} {places : List Float} {k q left : ℕ} {s : State} {log : Log} {said : Verdict} {made : ℕ} {to : State} {log' : Log} (g : Running p ns behind given from places k q left s log) (t : SteppedBy p ns (k + 1) s said made to) (r : log' ≡ log_step p (k + 1) (whole_step p ns s) log) where
  pub running_counts : {c : ℕ} → ConesReady p.par p.m p.words c → made ≤ per_step
  running_counts ready = omega (arith, t.counts, step_within p ns s ready)

  logged_is : log' ≡ log_from p ns behind from (untouched places) (k + 1 - behind)
  logged_is = one_logged p ns from s k behind places log log' g.least g.there g.recorded r

  said_is : {v : Verdict} → said ≡ v → verdict p.par (k + 1) (whole_step p ns s).failure (whole_step p ns s).criteria ≡ v
  said_is h = sym t.says ∙ h

  state_left : said ≡ GoesOn → to ≡ (whole_step p ns s).state
  unfolding left_by_step
  state_left h =
      let f = ((goes_on_exactly p (k + 1) (whole_step p ns s).failure (whole_step p ns s).criteria).exactly.0 (said_is h)).0 in
      t.left ∙ rw f

  -- this step, and then the rest of the piece
  piece_is : {v : Verdict} → said ≡ v → going_on v (piece_from (max left 1 - 1) p ns (k + 1) (q + made) (whole_step p ns s).state) (k + 1) (q + made) (whole_step p ns s).state ≡ piece_of p ns behind given from
  piece_is h =
      let one_less : max left 1 ≡ suc (max left 1 - 1) = omega arith in
      let step = piece_more p ns (max left 1 - 1) k q s (whole_step p ns s) refl in
      rw t.counts (sym (rw (said_is h) at step) ∙ rw (← one_less) g.same)

  pub running_more : {c : ℕ} → ConesReady p.par p.m p.words c → said ≡ GoesOn → 1 < left → Running p ns behind given from places (k + 1) (q + made) (left - 1) to log'
  running_more ready h l =
      let one_less : max left 1 - 1 ≡ max (left - 1) 1 = omega arith in
      let next : k + 1 - behind ≡ suc (k - behind) = omega (arith, g.least) in
      record {
        least = omega (arith, g.least);
        rest = rest_next k left (behind + max given 1) l g.rest;
        within = rw next (omega (arith, running_counts ready, g.within));
        there = state_left h ∙ one_more p ns from s k behind g.least g.there;
        recorded = logged_is;
        same = rw (state_left h, ← one_less) (piece_is h);
      }

  last : {v : Verdict} → said ≡ v → record { said = v; steps = k + 1; rotations = q + made; state = (whole_step p ns s).state } ≡ piece_of p ns behind given from → IterateOutcome true p ns behind given from places (Some (iterated v (k + 1) (q + made) (counts_of log'))) to log'.places
  last h e =
      let before : k + 1 - behind - 1 ≡ k - behind = omega (arith, g.least) in
      record { answered = rw (← e, ← logged_is); left = rw (← e, before, ← g.there) t.left; log_left = rw (← e, ← logged_is) }

  stops_at : (v : Verdict) → said ≡ v → (is_some v ≡ false → left ≤ 1) → IterateOutcome true p ns behind given from places (Some (iterated v (k + 1) (q + made) (counts_of log'))) to log'.places
  stops_at (Ends e) h l = last h (piece_is h)
  stops_at GoesOn h l =
      let fewest = l refl in
      let none_left : max left 1 - 1 ≡ 0 = omega arith in
      last h (sym (piece_none p ns (k + 1) (q + made) (whole_step p ns s).state) ∙ (rw none_left at (piece_is h)))

  -- it ended, or no step is left
  pub running_stops : (is_some said ≡ false → left ≤ 1) → IterateOutcome true p ns behind given from places (Some (iterated said (k + 1) (q + made) (counts_of log'))) to log'.places
  running_stops = stops_at said refl
