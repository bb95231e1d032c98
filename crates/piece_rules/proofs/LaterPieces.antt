-- A later piece: 01's steps from what record and buffers hold, nothing where it is given none, and when it is turned away.
use Prim.Native.Nat.{ℕ, ◌+◌, ◌-◌, ◌≤◌}
use native.Mathlib.Omega.{arith}
use mathlib.Core.Path.{◌≡◌, refl, sym, ◌∙◌, ap}
use mathlib.Core.Logic.{◌↔◌}
use mathlib.Core.Bool.{Bool, true, false, true≢false}
use mathlib.Core.List.{List}
use lib.Ieee.{Float}
use lib.ListN.{length}
use Rattle.rules.specs.declared.Logged.{Logged}
use Rattle.rules.specs.declared.Norms.{Norms}
use Rattle.rules.specs.Problem.{Problem}
use Rattle.rules.specs.Prepare.{prepared, prepared_norms}
use Rattle.rules.specs.Run.{Verdict, GoesOn, Ends, Piece, piece_from, allowance}
use Rattle.rules.specs.Refusals.{Refusal, Accepted, Refused as TurnedAway, first_of, facts, as_refusal, refusal, read_problem}
use Rattle.rules.specs.Progress.{Log, untouched, log_from}
use Rattle.rules.specs.Demands.{NumberedFrom}
use Rattle.rules.proofs.Run.{goes_by_the_rules}
use Rattle.rules.proofs.Accepted.{accepted_as_read}
use Rattle.piece_rules.specs.declared.PieceAnswer.{PieceAnswer}
use Rattle.piece_rules.specs.declared.PieceAnswer.TheVariants.{Refused, StaleRun, Halted, Ended}
use Rattle.piece_rules.specs.declared.RunLengths.{RunLengths}
use Rattle.piece_rules.specs.declared.RunRecord.{RunRecord}
use Rattle.piece_rules.specs.Pieces.{Taken, PieceLeft, lengths_with, left_by_piece, first_taken, later_taken, log_kept, stale_run, by_tests, as_later, piece_number, no_counts, piece_counts, later_number, later_facts, later_refusal, kept_with, first_after, later_after, first_piece, later_piece, PieceAs}
use Rattle.piece_rules.specs.InPieces.{gone_on, gone_on_by, all_steps, held, TakenUpByTheRules, PieceTurnedAwayBy}
use Rattle.piece_rules.specs.Stale.{Stale}
use Rattle.piece_rules.proofs.Kept.{later_by, later_is}
use Rattle.piece_rules.proofs.Stale.{stale_exactly}
use Rattle.piece_rules.proofs.Halted.{Behind, within, rotations_within, still_behind}
use Rattle.piece_rules.proofs.Cut.{steps_taken_are}
use Rattle.piece_rules.proofs.TakenUp.{on_by, behind_record, some_taken, again-gone_on}
use Rattle.piece_rules.proofs.InPieces.{again_is, gone_on_is, cut_by}
use Rattle.piece_rules.proofs.TurnedAway.{steps_unnumbered, later_unnumbered, turned_away_by, by_tests_first}

-- ---- any accepted piece

-- where it is taken, the tests of a run let it pass and the record is not stale
pub passes : (test : Refusal) (stale : Bool) → later_by test stale ≡ Taken → (test ≡ Accepted) × (stale ≡ false)
passes Accepted false e = (refl, refl)
passes Accepted true e =
    let z : ◌≡◌ {A = ℕ} 0 1 = cc in
    absurd (omega arith)
passes (TurnedAway x) stale e =
    let z : ◌≡◌ {A = ℕ} 0 1 = cc in
    absurd (omega arith)

pub taken_by_the_rules : (given : ℕ) (r : RunRecord) (lengths : RunLengths) (p : Problem) (work cone log : List Float) → stale_run r lengths p ≡ false → 1 ≤ given → TakenUpByTheRules given r lengths p work cone log (later_taken given r lengths p work cone log)
taken_by_the_rules given r lengths p work cone log so least =
    let s = held p r work cone in
    let c = piece_from given p r.norms r.steps r.rotations s in
    let rules = goes_by_the_rules given p r.norms r.steps r.rotations s in
    let behind = behind_record r lengths p log so in
    record {
      came_to = c;
      by_the_rules = rules;
      at_most = within given p r.norms r.steps r.rotations s (log_kept r log) behind c rules;
      bounded = rotations_within given p r.norms r.steps r.rotations s (log_kept r log) behind c rules;
      left_so =
          some_taken given r lengths p work cone log least
          ∙ steps_taken_are lengths p r.norms r.steps r.rotations s (log_kept r log) work cone given c refl;
    }

-- .. and with as many steps as the allowance leaves it ends
ended_answer : (v : Verdict) (lengths : RunLengths) (p : Problem) (ns : Norms) (work cone : List Float) (c : Piece) (log : Log) → (v ≡ GoesOn → ⊥) → (x : Logged) × (kept : RunRecord) × ((left_by_piece v lengths p ns work cone c log).answer ≡ Ended x kept)
ended_answer GoesOn lengths p ns work cone c log never = absurd (never refl)
ended_answer (Ends e) lengths p ns work cone c log never = (_, _, refl)

taken_up_ends : (given : ℕ) (r : RunRecord) (lengths : RunLengths) (p : Problem) (work cone log : List Float) (left : PieceLeft) → TakenUpByTheRules given r lengths p work cone log left → Behind p r.steps r.rotations (log_kept r log) → allowance p.par ≤ r.steps + given → (x : Logged) × (kept : RunRecord) × (left.answer ≡ Ended x kept)
taken_up_ends given r lengths p work cone log left t behind enough =
    let s = held p r work cone in
    let c = t.came_to in
    let rules = t.by_the_rules in
    let never : c.said ≡ GoesOn → ⊥ = λ is. omega (arith, (still_behind given p r.norms r.steps r.rotations s (log_kept r log) behind c rules is).below, rules.steps_are, (rules.halts is).0) in
    rw t.left_so
    (ended_answer c.said lengths p r.norms work cone c (log_from p r.norms r.steps s (log_kept r log) (c.steps - r.steps)) never)

pub taken_ends : (given : ℕ) (r : RunRecord) (lengths : RunLengths) (p : Problem) (work cone log : List Float) → stale_run r lengths p ≡ false → allowance p.par ≤ r.steps + given → (x : Logged) × (kept : RunRecord) × ((later_taken given r lengths p work cone log).answer ≡ Ended x kept)
taken_ends given r lengths p work cone log so enough =
    let behind = behind_record r lengths p log so in
    taken_up_ends given r lengths p work cone log (later_taken given r lengths p work cone log) (taken_by_the_rules given r lengths p work cone log so (omega (arith, behind.below))) behind enough

-- ---- of a problem

module _ (p : Problem) (work cone log : List Float) (r : RunRecord) where
  later_piece_is : (given : ℕ) → later_piece p given work cone log r ≡ later_after (later_refusal r p (length work) (length cone) (length log)) (later_taken given r (lengths_with p work cone log) (read_problem p) work cone log) work cone log
  unfolding later_piece
  later_piece_is given = refl

  module _ (taken : later_refusal r p (length work) (length cone) (length log) ≡ Taken) where
    later_piece-taken : (given : ℕ) → later_piece p given work cone log r ≡ later_taken given r (lengths_with p work cone log) (read_problem p) work cone log
    later_piece-taken given = later_piece_is given ∙ rw taken

    pub a_later_piece_of_no_steps_changes_nothing : later_piece p 0 work cone log r ≡ kept_with (Halted r) work cone log
    a_later_piece_of_no_steps_changes_nothing = later_piece-taken 0

    not_stale : stale_run r (lengths_with p work cone log) (read_problem p) ≡ false
    not_stale =
        (passes (refusal p (length work) (length cone)) (stale_run r (lengths_with p work cone log) (read_problem p)) (sym (later_is r p (length work) (length cone) (length log)) ∙ taken)).1

    pub later_piece_by_the_rules : (given : ℕ) → 1 ≤ given → TakenUpByTheRules given r (lengths_with p work cone log) (read_problem p) work cone log (later_piece p given work cone log r)
    later_piece_by_the_rules given least =
        rw (later_piece-taken given) (taken_by_the_rules given r (lengths_with p work cone log) (read_problem p) work cone log not_stale least)

    -- Whatever record and buffers hold, it ends with as many steps as the allowance leaves.
    pub a_later_piece_ends : (given : ℕ) → allowance (read_problem p).par ≤ r.steps + given → (x : Logged) × (kept : RunRecord) × ((later_piece p given work cone log r).answer ≡ Ended x kept)
    a_later_piece_ends given enough =
        rw (later_piece-taken given) (taken_ends given r (lengths_with p work cone log) (read_problem p) work cone log not_stale enough)

  -- ---- when it is turned away

  later_numbered : NumberedFrom later_number 1 (later_facts r p (length work) (length cone) (length log))
  unfolding by_tests
  later_numbered = (refl, (refl, (refl, (refl, (refl, (refl, (refl, tt)))))))

  by_its_table : (given : ℕ) → later_piece p given work cone log r ≡ later_after (as_later (first_of (later_facts r p (length work) (length cone) (length log)))) (later_taken given r (lengths_with p work cone log) (read_problem p) work cone log) work cone log
  unfolding later_piece later_refusal
  by_its_table given = refl

  pub later_turned_away_exactly : (given : ℕ) → PieceTurnedAwayBy (later_facts r p (length work) (length cone) (length log)) (later_piece p given work cone log r) work cone log
  later_turned_away_exactly given =
      turned_away_by (later_facts r p (length work) (length cone) (length log)) later_numbered (later_taken given r (lengths_with p work cone log) (read_problem p) work cone log) (later_unnumbered given r (lengths_with p work cone log) (read_problem p) work cone log) work cone log (later_piece p given work cone log r) (by_its_table given)

-- what it answers is refusal 7 exactly where the six tests let it pass and the record is stale
pub answered_stale : (test : Refusal) (stale : Bool) (taken : PieceLeft) (work cone log : List Float) → piece_number taken.answer ≡ 0 → ((later_after (later_by test stale) taken work cone log).answer ≡ StaleRun) ↔ ((test ≡ Accepted) × (stale ≡ true))
answered_stale Accepted true taken work cone log un = (λ e. (refl, refl), λ h. refl)
answered_stale Accepted false taken work cone log un =
    (λ e. absurd (omega (arith, ap piece_number e, un)), λ h. absurd (true≢false (sym h.1)))
answered_stale (TurnedAway x) stale taken work cone log un = (
  λ e.
      let z : ◌≡◌ {A = ℕ} 0 1 = cc in
      absurd (omega arith),
  λ h.
      let z : ◌≡◌ {A = ℕ} 0 1 = cc in
      absurd (omega arith),
)

pub stale_run_exactly : (p : Problem) (given : ℕ) (work cone log : List Float) (r : RunRecord) → ((later_piece p given work cone log r).answer ≡ StaleRun) ↔ ((refusal p (length work) (length cone) ≡ Accepted) × Stale r (lengths_with p work cone log) (read_problem p))
stale_run_exactly p given work cone log r =
    let lengths = lengths_with p work cone log in
    let q = read_problem p in
    let is = ap (λ (l : PieceLeft). l.answer) (again_is p given work cone log r) in
    let by = answered_stale (refusal p (length work) (length cone)) (stale_run r lengths q) (later_taken given r lengths q work cone log) work cone log (later_unnumbered given r lengths q work cone log) in
    let exactly = (stale_exactly r lengths q).exactly in (
      λ e.
          let h = by.0 (sym is ∙ e) in
          (h.0, exactly.0 h.1),
      λ h. is ∙ by.1 (h.0, exactly.1 h.1),
    )

-- a first piece by the six tests
module _ (p : Problem) (given : ℕ) (work cone log : List Float) where
  first_numbered : NumberedFrom later_number 1 (by_tests (facts p (length work) (length cone)))
  unfolding by_tests
  first_numbered = (refl, (refl, (refl, (refl, (refl, (refl, tt))))))

  abbrev first_if_taken : PieceLeft
  first_if_taken = first_taken given (lengths_with p work cone log) (read_problem p) work cone log

  first_by_its_table : first_piece p given work cone log ≡ first_after (as_refusal (first_of (facts p (length work) (length cone)))) first_if_taken work cone log
  unfolding first_piece refusal
  first_by_its_table = refl

  pub first_turned_away_exactly : PieceTurnedAwayBy (by_tests (facts p (length work) (length cone))) (first_piece p given work cone log) work cone log
  first_turned_away_exactly =
      let q = read_problem p in
      turned_away_by (by_tests (facts p (length work) (length cone))) first_numbered first_if_taken (steps_unnumbered given (lengths_with p work cone log) q (prepared_norms q) 0 0 (prepared q) (untouched log) work cone) work cone log (first_piece p given work cone log)
      (first_by_its_table ∙ by_tests_first (facts p (length work) (length cone)) first_if_taken work cone log)

-- What is turned away counts nothing: k, q and both counts of rows are 0.
pub turned_away_counts_nothing : (a : PieceAnswer) (i : ℕ) → 1 ≤ i → piece_number a ≡ i → piece_counts a ≡ no_counts
turned_away_counts_nothing (Refused e) i least is = refl
turned_away_counts_nothing StaleRun i least is = refl
turned_away_counts_nothing (Halted r) i least is = absurd (omega arith)
turned_away_counts_nothing (Ended answer r) i least is = absurd (omega arith)

-- ---- later pieces, however cut, from any record and buffers

again_cut_once : (p : Problem) (a b : ℕ) (work cone log : List Float) (r : RunRecord) → gone_on p b (later_piece p a work cone log r) ≡ later_piece p (a + b) work cone log r
again_cut_once p a b work cone log r =
    gone_on_is p b (later_piece p a work cone log r)
    ∙ ap (on_by (refusal p) p b) (again_is p a work cone log r)
    ∙ again-gone_on (refusal p) p work cone log r (accepted_as_read p (length work) (length cone)) a b
    ∙ sym (again_is p (a + b) work cone log r)

pub however_later_pieces_are_cut : (p : Problem) (given : ℕ) (later : List ℕ) (work cone log : List Float) (r : RunRecord) → gone_on_by p later (later_piece p given work cone log r) ≡ later_piece p (given + all_steps later) work cone log r
however_later_pieces_are_cut p given later work cone log r =
    cut_by p (λ a. later_piece p a work cone log r) (λ a b. again_cut_once p a b work cone log r) given later

-- ---- the contract

-- Any two outcomes that it allows coincide: the answer with its record, and each place of all three buffers.
pub any_two_pieces_coincide : {left : PieceLeft} {a a' : PieceAnswer} {w w' c c' l l' : List Float} → PieceAs left a w c l → PieceAs left a' w' c' l' → (a ≡ a') × (w ≡ w') × (c ≡ c') × (l ≡ l')
any_two_pieces_coincide s t = (s.answered ∙ sym t.answered, s.work_left ∙ sym t.work_left, s.cone_left ∙ sym t.cone_left, s.log_left ∙ sym t.log_left)
