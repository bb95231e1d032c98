-- A first piece with enough steps ends as the uncut run, and one with fewer halts as that stands after them. Of the problem as it is read.
use Prim.Native.Nat.{ℕ, ◌+◌, ◌-◌, ◌≤◌, ◌<◌}
use native.Mathlib.Omega.{arith}
use mathlib.Core.Path.{◌≡◌, refl, sym, ◌∙◌, ap}
use mathlib.Core.Bool.{true}
use mathlib.Core.List.{List, []}
use lib.Ieee.{Float}
use Rattle.rules.specs.declared.Answer.{Answer}
use Rattle.rules.specs.declared.Ending.{Ending}
use Rattle.rules.specs.Problem.{Problem}
use Rattle.rules.specs.Prepare.{prepared, prepared_norms}
use Rattle.rules.specs.Run.{Verdict, GoesOn, Ends, Piece, piece_from, Ended, ended_by, run, left_by}
use Rattle.rules.specs.Progress.{untouched, log_after, LoggedLeft, with_log}
use Rattle.rules.specs.Demands.{verdict_from, verdict_at, GoesByTheRules, EndsFirst, state_after, rotations_up_to}
use Rattle.rules.proofs.Run.{goes_by_the_rules, ends_first, ends_first_once}
use Rattle.rules.proofs.Answered.{left_answer_is}
use Rattle.piece_rules.specs.declared.RunLengths.{RunLengths}
use Rattle.piece_rules.specs.Pieces.{record_of, left_by_piece, first_taken}
use Rattle.piece_rules.specs.InPieces.{EndsAsUncut, halted_after}
use Rattle.piece_rules.proofs.Halted.{none_behind, within}
use Rattle.piece_rules.proofs.Cut.{steps_taken_are}

ends_not_on : {e : Ending} → Ends e ≡ GoesOn → ⊥
ends_not_on h =
    let z : ◌≡◌ {A = ℕ} 0 1 = cc in
    omega arith

module _ (p : Problem) (given : ℕ) (c : Piece) (r : GoesByTheRules given p (prepared_norms p) 0 0 (prepared p) c) where
  at-step : (i : ℕ) (v : Verdict) → verdict_from p (prepared_norms p) 0 (prepared p) i ≡ v → verdict_at p i ≡ v
  at-step i v e =
      let same : 0 + i ≡ i = omega arith in
      rw same at e

  steps_made : c.steps ≡ r.made
  steps_made = r.steps_are ∙ omega arith

  no_halt : (run p).steps ≤ given → c.said ≡ GoesOn → ⊥
  no_halt enough is =
      let first = ends_first p in
      let h = r.halts is in
      let on : verdict_at p (run p).steps ≡ GoesOn = at-step (run p).steps GoesOn (h.1 (run p).steps first.at_least_one (omega (arith, h.0))) in
      ends_not_on (sym first.ends_there ∙ on)

  ended_first : (e : Ending) → c.said ≡ Ends e → EndsFirst p (ended_by c)
  ended_first e is =
      let there = r.ends e is in
      let steps = steps_made in
      record {
        at_least_one = omega (arith, there.0);
        at_most = within given p (prepared_norms p) 0 0 (prepared p) (untouched []) (none_behind p []) c r;
        ends_there = rw (is, steps) (at-step r.made (Ends e) there.1);
        not_before = λ i l h. at-step i GoesOn (r.not_before i l (omega arith));
        state_there = rw steps r.state_there;
        counts = rw steps (r.counts ∙ omega arith);
      }

  as_run : (run p).steps ≤ given → (v : Verdict) → c.said ≡ v → (x : Ending) × (c.said ≡ Ends x) × (ended_by c ≡ run p)
  as_run enough GoesOn is = absurd (no_halt enough is)
  as_run enough (Ends e) is = (e, is, ends_first_once (ended_first e is) (ends_first p))

  no_end : given < (run p).steps → (e : Ending) → c.said ≡ Ends e → ⊥
  no_end fewer e is =
      let there = r.ends e is in
      let first = ends_first p in
      ends_not_on (sym (at-step r.made (Ends e) there.1) ∙ first.not_before r.made there.0 (omega (arith, r.at_most)))

  after_all : c.said ≡ GoesOn → c ≡ record { said = GoesOn; steps = given; rotations = rotations_up_to p given; state = state_after p given }
  after_all is =
      let made : r.made ≡ given = (r.halts is).0 in
      let steps : c.steps ≡ given = steps_made ∙ made in
      let rotations : c.rotations ≡ rotations_up_to p given = r.counts ∙ rw made (omega arith) in
      let state : c.state ≡ state_after p given = r.state_there ∙ rw made in
      λ i. record { said = is i; steps = steps i; rotations = rotations i; state = state i }

  as_halted : given < (run p).steps → (v : Verdict) → c.said ≡ v → c ≡ record { said = GoesOn; steps = given; rotations = rotations_up_to p given; state = state_after p given }
  as_halted fewer GoesOn is = after_all is
  as_halted fewer (Ends e) is = absurd (no_end fewer e is)

module _ (given : ℕ) (lengths : RunLengths) (p : Problem) (work cone log : List Float) where
  abbrev c : Piece
  c = piece_from given p (prepared_norms p) 0 0 (prepared p)

  abbrev so : GoesByTheRules given p (prepared_norms p) 0 0 (prepared p) c
  so = goes_by_the_rules given p (prepared_norms p) 0 0 (prepared p)

  -- what it leaves, by any piece that it is
  first_taken_is : (d : Piece) → c ≡ d → first_taken given lengths p work cone log ≡ left_by_piece d.said lengths p (prepared_norms p) work cone d (log_after p log d.steps)
  first_taken_is d e =
      let all : d.steps - 0 ≡ d.steps = omega arith in
      steps_taken_are lengths p (prepared_norms p) 0 0 (prepared p) (untouched log) work cone given d (sym e) ∙ rw all

  pub halts_so : given < (run p).steps → first_taken given lengths p work cone log ≡ halted_after given lengths p work cone log
  halts_so fewer = first_taken_is (record { said = GoesOn; steps = given; rotations = rotations_up_to p given; state = state_after p given }) (as_halted p given c so fewer c.said refl)

  abbrev as_ended : Ended → LoggedLeft
  as_ended e = with_log (left_by p work cone e) (log_after p log e.steps)

  ended_so : (e : Ending) → EndsAsUncut (as_ended (ended_by c)) (left_by_piece (Ends e) lengths p (prepared_norms p) work cone c (log_after p log c.steps))
  ended_so e =
      record {
        kept = record_of lengths p (prepared_norms p) (as_ended (ended_by c)).work c (log_after p log c.steps) true;
        answered = refl;
        has_ended = refl;
        kept_steps = sym (ap (λ (a : Answer). a.steps) (left_answer_is p work cone (ended_by c)));
        kept_rotations = sym (ap (λ (a : Answer). a.rotations) (left_answer_is p work cone (ended_by c)));
        kept_written = refl;
        kept_dropped = refl;
        work_left = refl;
        cone_left = refl;
        log_left = refl;
      }

  pub ends_so : (run p).steps ≤ given → EndsAsUncut (as_ended (run p)) (first_taken given lengths p work cone log)
  ends_so enough =
      let w = as_run p given c so enough c.said refl in
      let same = first_taken_is c refl ∙ ap (λ (v : Verdict). left_by_piece v lengths p (prepared_norms p) work cone c (log_after p log c.steps)) w.1 in
      rw (same, ← w.2) (ended_so w.0)
