-- Pieces of a problem whose A stands in two slices: the same laws, by its own table.
use Prim.Native.Nat.{ℕ, ◌+◌, ◌≤◌, ◌<◌}
use native.Mathlib.Omega.{arith}
use mathlib.Core.Path.{◌≡◌, refl, sym, ◌∙◌, ap}
use mathlib.Core.Logic.{◌↔◌}
use mathlib.Core.Bool.{true, false}
use mathlib.Core.List.{List, [], ◌∷◌}
use lib.Ieee.{Float}
use lib.ListN.{length}
use Rattle.rules.specs.declared.Ending.{Ending}
use Rattle.rules.specs.declared.Logged.{Logged}
use Rattle.rules.specs.Prepare.{prepared, prepared_norms}
use Rattle.rules.specs.Run.{allowance, run, left_by}
use Rattle.rules.specs.Refusals.{Accepted, Refused as TurnedAway, first_of, facts, as_refusal, read_problem, left_turned_away}
use Rattle.rules.specs.Split.{SplitProblem, slices_fit, joined_problem, split_facts, split_refusal}
use Rattle.rules.specs.Progress.{untouched, LoggedLeft, log_after, with_log, logged_solved, split_logged_solved, LoggedAs}
use Rattle.rules.specs.Demands.{NumberedFrom, NoneHolds, AnsweredByTheRules, RecordedByTheRules, work_needed, cone_needed, SameOverThree, with_split_period, SameButForTheLog}
use Rattle.rules.proofs.Accepted.{AllFits, accepted_as_read}
use Rattle.rules.proofs.Refusals.{none_holds}
use Rattle.rules.proofs.Answered.{accepted_runs_as_demanded}
use Rattle.rules.proofs.SplitRuns.{same_refusal, slices_fit_if_accepted}
use Rattle.rules.proofs.LoggedRuns.{logged_accepted, logged_outcome_is_the_plain, recorded_by_the_rules, split_logged_as_joined, split_refused_records_nothing, split_old_contents_of_three}
use Rattle.rules.proofs.AnyPeriod.{split_neither_period_nor_log_alters}
use Rattle.piece_rules.specs.declared.PieceAnswer.TheVariants.{Refused, StaleRun, Halted, Ended}
use Rattle.piece_rules.specs.declared.RunRecord.{RunRecord}
use Rattle.piece_rules.specs.Pieces.{Taken, PieceLeft, lengths_with, first_taken, later_taken, stale_run, by_tests, as_later, later_number, later_split_facts, later_split_refusal, kept_with, first_after, later_after, first_piece, later_piece, first_split_piece, later_split_piece}
use Rattle.piece_rules.specs.InPieces.{taken_up_by, split_gone_on, split_gone_on_by, split_in_pieces, all_steps, EndsAsUncut, halted_after, SameWhereItHalts, TakenUpByTheRules, PieceTurnedAwayBy, KeptByPiece}
use Rattle.piece_rules.specs.Stale.{Stale}
use Rattle.piece_rules.proofs.Kept.{split_later_is}
use Rattle.piece_rules.proofs.Stale.{stale_exactly}
use Rattle.piece_rules.proofs.OldContents.{halted_alike}
use Rattle.piece_rules.proofs.Beyond.{first_keeps_by, later_keeps_by}
use Rattle.piece_rules.proofs.TakenUp.{first_by, again_by, on_by, first_gone_on, again-gone_on}
use Rattle.piece_rules.proofs.Uncut.{halts_so, ends_so}
use Rattle.piece_rules.proofs.InPieces.{first_is, again_is, no_more_steps, more_steps}
use Rattle.piece_rules.proofs.TurnedAway.{steps_unnumbered, later_unnumbered, turned_away_by, by_tests_first}
use Rattle.piece_rules.proofs.LaterPieces.{passes, answered_stale, taken_by_the_rules, taken_ends}
use Rattle.piece_rules.proofs.WholeRuns.{EndedSoBy, ended_so_by}

-- ---- the pieces of such a problem are those by its table

module _ (p : SplitProblem) (given : ℕ) (work cone log : List Float) where
  split_first_is : first_split_piece p given work cone log ≡ first_by (split_refusal p) (joined_problem p) given work cone log
  unfolding first_split_piece
  split_first_is = refl

  split_again_is : (r : RunRecord) → later_split_piece p given work cone log r ≡ again_by (split_refusal p) (joined_problem p) given work cone log r
  unfolding later_split_piece
  split_again_is r =
      ap (λ x. later_after x (later_taken given r (lengths_with (joined_problem p) work cone log) (read_problem (joined_problem p)) work cone log) work cone log) (split_later_is r p (length work) (length cone) (length log))

split_gone_on_is : (p : SplitProblem) (given : ℕ) (left : PieceLeft) → split_gone_on p given left ≡ on_by (split_refusal p) (joined_problem p) given left
split_gone_on_is p given left = λ i. taken_up_by (λ r. split_again_is p given left.work left.cone left.log r i) left.answer left

split_accepted_as_read : (p : SplitProblem) (work cone : List Float) → split_refusal p (length work) (length cone) ≡ Accepted → AllFits (read_problem (joined_problem p)) (length work) (length cone)
split_accepted_as_read p work cone e =
    accepted_as_read (joined_problem p) (length work) (length cone) (sym (same_refusal p (length work) (length cone) (slices_fit_if_accepted p work cone e)) ∙ e)

-- ---- the pieces over the joined matrix

-- where the slices have their lengths they are the same
module _ (p : SplitProblem) (given : ℕ) (work cone log : List Float) (fit : slices_fit p ≡ true) where
  pub split_pieces_as_joined : first_split_piece p given work cone log ≡ first_piece (joined_problem p) given work cone log
  split_pieces_as_joined =
      split_first_is p given work cone log
      ∙ rw (same_refusal p (length work) (length cone) fit) (sym (first_is (joined_problem p) given work cone log))

  pub split_later_pieces_as_joined : (r : RunRecord) → later_split_piece p given work cone log r ≡ later_piece (joined_problem p) given work cone log r
  split_later_pieces_as_joined r =
      split_again_is p given work cone log r
      ∙ rw (same_refusal p (length work) (length cone) fit) (sym (again_is (joined_problem p) given work cone log r))

-- ---- however it is cut

no_more_pieces : (p : SplitProblem) (left : PieceLeft) → split_gone_on_by p [] left ≡ left
unfolding split_gone_on_by
no_more_pieces p left = refl

one_piece_more : (p : SplitProblem) (given : ℕ) (later : List ℕ) (left : PieceLeft) → split_gone_on_by p (given ∷ later) left ≡ split_gone_on_by p later (split_gone_on p given left)
unfolding split_gone_on_by
one_piece_more p given later left = refl

-- of what a piece leaves after any number of steps, if two of them join
cut_by : (p : SplitProblem) (after : ℕ → PieceLeft) → ((a b : ℕ) → split_gone_on p b (after a) ≡ after (a + b)) → (first : ℕ) (later : List ℕ) → split_gone_on_by p later (after first) ≡ after (first + all_steps later)
cut_by p after join first [] =
    let all : first + all_steps [] ≡ first = omega (arith, no_more_steps) in
    rw all (no_more_pieces p (after first))
cut_by p after join first (given ∷ later) =
    let all : first + given + all_steps later ≡ first + all_steps (given ∷ later) = omega (arith, more_steps given later) in
    one_piece_more p given later (after first)
    ∙ ap (split_gone_on_by p later) (join first given)
    ∙ cut_by p after join (first + given) later
    ∙ rw all

module _ (p : SplitProblem) (work cone log : List Float) where
  split_cut_once : (a b : ℕ) → split_gone_on p b (first_split_piece p a work cone log) ≡ first_split_piece p (a + b) work cone log
  split_cut_once a b =
      split_gone_on_is p b (first_split_piece p a work cone log)
      ∙ ap (on_by (split_refusal p) (joined_problem p) b) (split_first_is p a work cone log)
      ∙ first_gone_on (split_refusal p) (joined_problem p) work cone log (split_accepted_as_read p work cone) a b
      ∙ sym (split_first_is p (a + b) work cone log)

  split_again_cut_once : (r : RunRecord) (a b : ℕ) → split_gone_on p b (later_split_piece p a work cone log r) ≡ later_split_piece p (a + b) work cone log r
  split_again_cut_once r a b =
      split_gone_on_is p b (later_split_piece p a work cone log r)
      ∙ ap (on_by (split_refusal p) (joined_problem p) b) (split_again_is p a work cone log r)
      ∙ again-gone_on (split_refusal p) (joined_problem p) work cone log r (split_accepted_as_read p work cone) a b
      ∙ sym (split_again_is p (a + b) work cone log r)

pub split_however_it_is_cut : (p : SplitProblem) (first : ℕ) (later : List ℕ) (work cone log : List Float) → split_in_pieces p first later work cone log ≡ first_split_piece p (first + all_steps later) work cone log
split_however_it_is_cut p first later work cone log =
    cut_by p (λ a. first_split_piece p a work cone log) (split_cut_once p work cone log) first later

pub split_however_later_pieces_are_cut : (p : SplitProblem) (given : ℕ) (later : List ℕ) (work cone log : List Float) (r : RunRecord) → split_gone_on_by p later (later_split_piece p given work cone log r) ≡ later_split_piece p (given + all_steps later) work cone log r
split_however_later_pieces_are_cut p given later work cone log r =
    cut_by p (λ a. later_split_piece p a work cone log r) (split_again_cut_once p work cone log r) given later

-- ---- against the uncut run

split_logged_accepted : (p : SplitProblem) (work cone log : List Float) → split_refusal p (length work) (length cone) ≡ Accepted → split_logged_solved p work cone log ≡ with_log (left_by (read_problem (joined_problem p)) work cone (run (read_problem (joined_problem p)))) (log_after (read_problem (joined_problem p)) log (run (read_problem (joined_problem p))).steps)
split_logged_accepted p work cone log e =
    let h = slices_fit_if_accepted p work cone e in
    split_logged_as_joined p work cone log h
    ∙ logged_accepted (joined_problem p) work cone log (sym (same_refusal p (length work) (length cone) h) ∙ e)

module _ (p : SplitProblem) (work cone log : List Float) where
  pub refused-first_split_piece : (given : ℕ) (e : Ending) → split_refusal p (length work) (length cone) ≡ TurnedAway e → first_split_piece p given work cone log ≡ kept_with (Refused e) work cone log
  refused-first_split_piece given e is = split_first_is p given work cone log ∙ rw is

  pub split_refused_as_the_uncut_run : (first : ℕ) (later : List ℕ) (e : Ending) → split_refusal p (length work) (length cone) ≡ TurnedAway e → (split_in_pieces p first later work cone log ≡ kept_with (Refused e) work cone log) × (split_logged_solved p work cone log ≡ with_log (left_turned_away e work cone) (untouched log))
  split_refused_as_the_uncut_run first later e is = (
    split_however_it_is_cut p first later work cone log ∙ refused-first_split_piece (first + all_steps later) e is,
    split_refused_records_nothing p work cone log e is,
  )

  module _ (accepted : split_refusal p (length work) (length cone) ≡ Accepted) where
    split_first_taken : (given : ℕ) → first_split_piece p given work cone log ≡ first_taken given (lengths_with (joined_problem p) work cone log) (read_problem (joined_problem p)) work cone log
    split_first_taken given = split_first_is p given work cone log ∙ rw accepted

    pub split_as_the_uncut_run : (given : ℕ) → (run (read_problem (joined_problem p))).steps ≤ given → EndsAsUncut (split_logged_solved p work cone log) (first_split_piece p given work cone log)
    split_as_the_uncut_run given enough =
        rw (split_logged_accepted p work cone log accepted, split_first_taken given)
        (ends_so given (lengths_with (joined_problem p) work cone log) (read_problem (joined_problem p)) work cone log enough)

    pub split_halts_as_after_its_last_step : (given : ℕ) → given < (run (read_problem (joined_problem p))).steps → first_split_piece p given work cone log ≡ halted_after given (lengths_with (joined_problem p) work cone log) (read_problem (joined_problem p)) work cone log
    split_halts_as_after_its_last_step given fewer =
        split_first_taken given ∙ halts_so given (lengths_with (joined_problem p) work cone log) (read_problem (joined_problem p)) work cone log fewer

    pub split_the_last_piece_is_the_uncut_run : (first : ℕ) (later : List ℕ) → (run (read_problem (joined_problem p))).steps ≤ first + all_steps later → EndsAsUncut (split_logged_solved p work cone log) (split_in_pieces p first later work cone log)
    split_the_last_piece_is_the_uncut_run first later enough =
        rw (split_however_it_is_cut p first later work cone log) (split_as_the_uncut_run (first + all_steps later) enough)

    pub split_in_pieces_halts : (first : ℕ) (later : List ℕ) → first + all_steps later < (run (read_problem (joined_problem p))).steps → split_in_pieces p first later work cone log ≡ halted_after (first + all_steps later) (lengths_with (joined_problem p) work cone log) (read_problem (joined_problem p)) work cone log
    split_in_pieces_halts first later fewer =
        split_however_it_is_cut p first later work cone log ∙ split_halts_as_after_its_last_step (first + all_steps later) fewer

-- ---- a later piece

module _ (p : SplitProblem) (work cone log : List Float) (r : RunRecord) where
  module _ (taken : later_split_refusal r p (length work) (length cone) (length log) ≡ Taken) where
    split_later_taken : (given : ℕ) → later_split_piece p given work cone log r ≡ later_taken given r (lengths_with (joined_problem p) work cone log) (read_problem (joined_problem p)) work cone log
    unfolding later_split_piece
    split_later_taken given = rw taken

    pub a_later_split_piece_of_no_steps_changes_nothing : later_split_piece p 0 work cone log r ≡ kept_with (Halted r) work cone log
    a_later_split_piece_of_no_steps_changes_nothing = split_later_taken 0

    split_not_stale : stale_run r (lengths_with (joined_problem p) work cone log) (read_problem (joined_problem p)) ≡ false
    split_not_stale =
        (passes (split_refusal p (length work) (length cone)) (stale_run r (lengths_with (joined_problem p) work cone log) (read_problem (joined_problem p))) (sym (split_later_is r p (length work) (length cone) (length log)) ∙ taken)).1

    pub split_later_piece_by_the_rules : (given : ℕ) → 1 ≤ given → TakenUpByTheRules given r (lengths_with (joined_problem p) work cone log) (read_problem (joined_problem p)) work cone log (later_split_piece p given work cone log r)
    split_later_piece_by_the_rules given least =
        rw (split_later_taken given)
        (taken_by_the_rules given r (lengths_with (joined_problem p) work cone log) (read_problem (joined_problem p)) work cone log split_not_stale least)

    pub a_later_split_piece_ends : (given : ℕ) → allowance (read_problem (joined_problem p)).par ≤ r.steps + given → (x : Logged) × (kept : RunRecord) × ((later_split_piece p given work cone log r).answer ≡ Ended x kept)
    a_later_split_piece_ends given enough =
        rw (split_later_taken given)
        (taken_ends given r (lengths_with (joined_problem p) work cone log) (read_problem (joined_problem p)) work cone log split_not_stale enough)

  split_later_numbered : NumberedFrom later_number 1 (later_split_facts r p (length work) (length cone) (length log))
  unfolding by_tests
  split_later_numbered = (refl, (refl, (refl, (refl, (refl, (refl, (refl, tt)))))))

  split_by_its_table : (given : ℕ) → later_split_piece p given work cone log r ≡ later_after (as_later (first_of (later_split_facts r p (length work) (length cone) (length log)))) (later_taken given r (lengths_with (joined_problem p) work cone log) (read_problem (joined_problem p)) work cone log) work cone log
  unfolding later_split_piece later_split_refusal
  split_by_its_table given = refl

  pub split_later_turned_away_exactly : (given : ℕ) → PieceTurnedAwayBy (later_split_facts r p (length work) (length cone) (length log)) (later_split_piece p given work cone log r) work cone log
  split_later_turned_away_exactly given =
      let q = read_problem (joined_problem p) in
      let lengths = lengths_with (joined_problem p) work cone log in
      turned_away_by (later_split_facts r p (length work) (length cone) (length log)) split_later_numbered (later_taken given r lengths q work cone log) (later_unnumbered given r lengths q work cone log) work cone log (later_split_piece p given work cone log r) (split_by_its_table given)

pub split_stale_run_exactly : (p : SplitProblem) (given : ℕ) (work cone log : List Float) (r : RunRecord) → ((later_split_piece p given work cone log r).answer ≡ StaleRun) ↔ ((split_refusal p (length work) (length cone) ≡ Accepted) × Stale r (lengths_with (joined_problem p) work cone log) (read_problem (joined_problem p)))
split_stale_run_exactly p given work cone log r =
    let lengths = lengths_with (joined_problem p) work cone log in
    let q = read_problem (joined_problem p) in
    let is = ap (λ (l : PieceLeft). l.answer) (split_again_is p given work cone log r) in
    let by = answered_stale (split_refusal p (length work) (length cone)) (stale_run r lengths q) (later_taken given r lengths q work cone log) work cone log (later_unnumbered given r lengths q work cone log) in
    let exactly = (stale_exactly r lengths q).exactly in (
      λ e.
          let h = by.0 (sym is ∙ e) in
          (h.0, exactly.0 h.1),
      λ h. is ∙ by.1 (h.0, exactly.1 h.1),
    )

-- a first piece by the six tests
module _ (p : SplitProblem) (given : ℕ) (work cone log : List Float) where
  split_first_numbered : NumberedFrom later_number 1 (by_tests (split_facts p (length work) (length cone)))
  unfolding by_tests
  split_first_numbered = (refl, (refl, (refl, (refl, (refl, (refl, tt))))))

  abbrev first_if_taken : PieceLeft
  first_if_taken = first_taken given (lengths_with (joined_problem p) work cone log) (read_problem (joined_problem p)) work cone log

  split_first_by_its_table : first_split_piece p given work cone log ≡ first_after (as_refusal (first_of (split_facts p (length work) (length cone)))) first_if_taken work cone log
  unfolding first_split_piece split_refusal
  split_first_by_its_table = refl

  pub split_first_turned_away_exactly : PieceTurnedAwayBy (by_tests (split_facts p (length work) (length cone))) (first_split_piece p given work cone log) work cone log
  split_first_turned_away_exactly =
      let q = read_problem (joined_problem p) in
      turned_away_by (by_tests (split_facts p (length work) (length cone))) split_first_numbered first_if_taken (steps_unnumbered given (lengths_with (joined_problem p) work cone log) q (prepared_norms q) 0 0 (prepared q) (untouched log) work cone) work cone log (first_split_piece p given work cone log)
      (split_first_by_its_table ∙ by_tests_first (split_facts p (length work) (length cone)) first_if_taken work cone log)

-- ---- whole runs

module _ (p : SplitProblem) (first : ℕ) (later : List ℕ) (work cone log : List Float) (one : LoggedLeft) (e : EndsAsUncut one (split_in_pieces p first later work cone log)) where
  so_ended : EndedSoBy (split_refusal p) (joined_problem p) work cone log one
  so_ended =
      ended_so_by (split_refusal p) (joined_problem p) (first + all_steps later) work cone log one
      (rw (split_however_it_is_cut p first later work cone log, split_first_is p (first + all_steps later) work cone log) at e)

  pub split_ended_was_accepted : split_refusal p (length work) (length cone) ≡ Accepted
  split_ended_was_accepted = so_ended.accepted

  pub split_ended_is_the_uncut_run : one ≡ split_logged_solved p work cone log
  split_ended_is_the_uncut_run = so_ended.so ∙ sym (split_logged_accepted p work cone log split_ended_was_accepted)

  -- the uncut run over the joined matrix
  fit : slices_fit p ≡ true
  fit = slices_fit_if_accepted p work cone split_ended_was_accepted

  outcome_of_joined : LoggedAs (logged_solved (joined_problem p) work cone log) one.answer one.work one.cone one.log
  outcome_of_joined =
      let same = split_ended_is_the_uncut_run ∙ split_logged_as_joined p work cone log fit in
      record {
        answered = ap (λ (l : LoggedLeft). l.answer) same;
        work_left = ap (λ (l : LoggedLeft). l.work) same;
        cone_left = ap (λ (l : LoggedLeft). l.cone) same;
        log_left = ap (λ (l : LoggedLeft). l.log) same;
      }

  none_of_joined : NoneHolds (facts (joined_problem p) (length work) (length cone))
  none_of_joined =
      none_holds (joined_problem p) (length work) (length cone) (sym (same_refusal p (length work) (length cone) fit) ∙ split_ended_was_accepted)

  -- demand 3
  pub split_in_pieces_as_demanded : AnsweredByTheRules (read_problem (joined_problem p)) one.answer.answer one.work one.cone
  split_in_pieces_as_demanded =
      accepted_runs_as_demanded (joined_problem p) work cone one.answer.answer one.work one.cone (logged_outcome_is_the_plain (joined_problem p) work cone log one.answer one.work one.cone one.log outcome_of_joined) none_of_joined

  -- the progress record
  pub split_in_pieces-recorded : RecordedByTheRules (read_problem (joined_problem p)) log one.answer one.log
  split_in_pieces-recorded =
      recorded_by_the_rules (joined_problem p) work cone log one.answer one.work one.cone one.log outcome_of_joined none_of_joined

pub split_in_pieces_old_contents : (p : SplitProblem) (first first' : ℕ) (later later' : List ℕ) (work cone log work' cone' log' : List Float) (one other : LoggedLeft) → EndsAsUncut one (split_in_pieces p first later work cone log) → EndsAsUncut other (split_in_pieces p first' later' work' cone' log') → SameOverThree (work_needed (joined_problem p)) (cone_needed (joined_problem p)) log log' one other
split_in_pieces_old_contents p first first' later later' work cone log work' cone' log' one other e e' =
    rw (split_ended_is_the_uncut_run p first later work cone log one e, split_ended_is_the_uncut_run p first' later' work' cone' log' other e')
    (split_old_contents_of_three p work cone log work' cone' log' (split_ended_was_accepted p first later work cone log one e) (split_ended_was_accepted p first' later' work' cone' log' other e'))

pub split_in_pieces_neither_period_nor_log_alters : (p : SplitProblem) (period period' first first' : ℕ) (later later' : List ℕ) (work cone log log' : List Float) (one other : LoggedLeft) → EndsAsUncut one (split_in_pieces (with_split_period period p) first later work cone log) → EndsAsUncut other (split_in_pieces (with_split_period period' p) first' later' work cone log') → SameButForTheLog one other
split_in_pieces_neither_period_nor_log_alters p period period' first first' later later' work cone log log' one other e e' =
    rw (split_ended_is_the_uncut_run (with_split_period period p) first later work cone log one e, split_ended_is_the_uncut_run (with_split_period period' p) first' later' work cone log' other e')
    (split_neither_period_nor_log_alters p period period' work cone log log')

pub split_halting_old_contents : (p : SplitProblem) (given : ℕ) (work cone log work' cone' log' : List Float) → length work ≡ length work' → length cone ≡ length cone' → length log ≡ length log' → split_refusal p (length work) (length cone) ≡ Accepted → given < (run (read_problem (joined_problem p))).steps → SameWhereItHalts (work_needed (joined_problem p)) (cone_needed (joined_problem p)) (first_split_piece p given work cone log) (first_split_piece p given work' cone' log')
split_halting_old_contents p given work cone log work' cone' log' w c l accepted fewer =
    let accepted' : split_refusal p (length work') (length cone') ≡ Accepted = rw (w, c) at accepted in
    let same : lengths_with (joined_problem p) work' cone' log' ≡ lengths_with (joined_problem p) work cone log = rw (w, c, l) in
    rw (split_halts_as_after_its_last_step p work cone log accepted given fewer, split_halts_as_after_its_last_step p work' cone' log' accepted' given fewer, same)
    (halted_alike given (lengths_with (joined_problem p) work cone log) (read_problem (joined_problem p)) (split_accepted_as_read p work cone accepted).fitting work cone log work' cone' log' l)

-- ---- places beyond the required parts

module _ (p : SplitProblem) (given : ℕ) (work cone log : List Float) where
  pub split_first_piece_keeps_places_beyond : KeptByPiece (work_needed (joined_problem p)) (cone_needed (joined_problem p)) work cone log (first_split_piece p given work cone log)
  split_first_piece_keeps_places_beyond =
      rw (split_first_is p given work cone log) (first_keeps_by (split_refusal p) (joined_problem p) work cone log (split_accepted_as_read p work cone) given)

  pub split_later_piece_keeps_places_beyond : (r : RunRecord) → KeptByPiece (work_needed (joined_problem p)) (cone_needed (joined_problem p)) work cone log (later_split_piece p given work cone log r)
  split_later_piece_keeps_places_beyond r =
      rw (split_again_is p given work cone log r) (later_keeps_by (split_refusal p) (joined_problem p) work cone log (split_accepted_as_read p work cone) given r)
