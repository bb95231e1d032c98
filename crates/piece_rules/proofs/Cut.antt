-- Steps that halt and are taken up from their record and buffers come to the same steps uncut.
use Prim.Native.Nat.{ℕ, zero, suc, ◌+◌, ◌-◌, ◌≤◌}
use native.Mathlib.Omega.{arith}
use mathlib.Core.Path.{◌≡◌, refl, sym, ◌∙◌, ap}
use mathlib.Core.Bool.{true, false}
use mathlib.Core.List.{List, ◌++◌}
use lib.Ieee.{Float}
use lib.ListN.{length, drop, length-append, length-drop}
use lib.Seq.{drop_at}
use Rattle.rules.specs.declared.Ending.{Ending}
use Rattle.rules.specs.declared.Norms.{Norms}
use Rattle.rules.specs.Arithmetic.{at}
use Rattle.rules.specs.Product.{cone_work}
use Rattle.rules.specs.Problem.{Problem, blocks, work_length}
use Rattle.rules.specs.Step.{State}
use Rattle.rules.specs.Run.{Verdict, GoesOn, Ends, Piece, going_on, piece_from, state_from, Ended, ended_by, Left, left_by}
use Rattle.rules.specs.Progress.{Log, log_from, with_log}
use Rattle.rules.specs.Demands.{GoesByTheRules}
use Rattle.rules.proofs.Run.{goes_by_the_rules, pieces_join}
use Rattle.rules.proofs.Progress.{logs_join}
use Rattle.rules.proofs.Lengths.{Fitting, Sized, sized_from}
use Rattle.piece_rules.specs.declared.PieceAnswer.TheVariants.{Ended as EndedSo, Halted}
use Rattle.piece_rules.specs.declared.RunLengths.{RunLengths}
use Rattle.piece_rules.specs.declared.RunRecord.{RunRecord}
use Rattle.piece_rules.specs.Pieces.{PieceLeft, record_of, in_work, left_halted, left_by_piece, steps_taken, from_work, with_tau, later_taken}
use Rattle.piece_rules.proofs.Shifts.{log_length}
use Rattle.piece_rules.proofs.Kept.{back_from_work, tau_back}

-- ---- the required part of a buffer, and what lies beyond it

pub put_required : (required : ℕ) (own buffer : List Float) → length own ≡ required → drop required (own ++ drop required buffer) ≡ drop required buffer
put_required required own buffer e = drop_at own (drop required buffer) required e

pub put_as_long : (required : ℕ) (own buffer : List Float) → length own ≡ required → required ≤ length buffer → length (own ++ drop required buffer) ≡ length buffer
put_as_long required own buffer e h = simp (length-append, length-drop) (omega arith)

pub in_work_long : (p : Problem) (s : State) → Sized p s → length (in_work s) ≡ work_length p.m p.n
in_work_long p s h = simp length-append (omega arith)

-- what is left depends on a buffer's old contents by the places beyond the required ones alone
module _ (lengths : RunLengths) (p : Problem) (ns : Norms) (c : Piece) (log : Log) where
  abbrev halted_over : List Float → List Float → PieceLeft
  halted_over beyond beyond' =
      let work' = in_work c.state ++ beyond in
      record {
        answer = Halted (record_of lengths p ns work' c log false);
        work = work';
        cone = c.state.cone ++ beyond';
        log = log.places;
      }

  abbrev ended_over : Left → PieceLeft
  ended_over ran =
      let left = with_log ran log in
      record {
        answer = EndedSo left.answer (record_of lengths p ns left.work c log true);
        work = left.work;
        cone = left.cone;
        log = left.log;
      }

  module _ (work cone work' cone' : List Float) (e : drop (work_length p.m p.n) work' ≡ drop (work_length p.m p.n) work) (f : drop (cone_work (blocks p)) cone' ≡ drop (cone_work (blocks p)) cone) where
    same_left : (d : Ended) → left_by p work' cone' d ≡ left_by p work cone d
    unfolding left_by
    same_left d = rw (e, f)

    pub same_beyond : (v : Verdict) → left_by_piece v lengths p ns work' cone' c log ≡ left_by_piece v lengths p ns work cone c log
    same_beyond GoesOn = λ i. halted_over (e i) (f i)
    same_beyond (Ends x) = ap ended_over (same_left (ended_by c))

-- ---- steps, cut

pub steps_taken_are : (lengths : RunLengths) (p : Problem) (ns : Norms) (k q : ℕ) (s : State) (log : Log) (work cone : List Float) (given : ℕ) (c : Piece) → c ≡ piece_from given p ns k q s → steps_taken given lengths p ns k q s log work cone ≡ left_by_piece c.said lengths p ns work cone c (log_from p ns k s log (c.steps - k))
unfolding steps_taken
steps_taken_are lengths p ns k q s log work cone given c e = rw e

module _ (lengths : RunLengths) (p : Problem) (ns : Norms) (k q : ℕ) (s : State) (log : Log) (work cone : List Float) (a : ℕ) where
  -- a steps, and what they leave where they halt: the progress record, the buffers and the run record
  abbrev c : Piece
  c = piece_from a p ns k q s

  abbrev so : GoesByTheRules a p ns k q s c
  so = goes_by_the_rules a p ns k q s

  abbrev log₁ : Log
  log₁ = log_from p ns k s log (c.steps - k)

  abbrev work₁ : List Float
  work₁ = in_work c.state ++ drop (work_length p.m p.n) work

  abbrev cone₁ : List Float
  cone₁ = c.state.cone ++ drop (cone_work (blocks p)) cone

  abbrev pub r₁ : RunRecord
  r₁ = record_of lengths p ns work₁ c log₁ false

  pub log_as_long : length log₁.places ≡ length log.places
  log_as_long = log_length p ns k s log (c.steps - k)

  module _ (fit : Fitting p) (sized : Sized p s) where
    pub sized_there : Sized p c.state
    sized_there = rw so.state_there (sized_from p ns s fit sized so.made)

    pub work_as_long : work_length p.m p.n ≤ length work → length work₁ ≡ length work
    work_as_long h = put_as_long (work_length p.m p.n) (in_work c.state) work (in_work_long p c.state sized_there) h

    pub cone_as_long : cone_work (blocks p) ≤ length cone → length cone₁ ≡ length cone
    cone_as_long h = put_as_long (cone_work (blocks p)) c.state.cone cone sized_there.cone h

    read_back : with_tau p (at work₁ (p.n + p.m + p.m)) (from_work p work₁ cone₁) ≡ c.state
    read_back =
        ap (with_tau p (at work₁ (p.n + p.m + p.m))) (back_from_work p c.state sized_there (drop (work_length p.m p.n) work) (drop (cone_work (blocks p)) cone))
        ∙ tau_back p c.state sized_there (drop (work_length p.m p.n) work)

  -- b steps more
  module _ (b : ℕ) where
    abbrev on : Piece
    on = piece_from b p ns c.steps c.rotations c.state

    -- a piece that has ended stays as it is
    pub ended_on : (e : Ending) → c.said ≡ Ends e → piece_from (a + b) p ns k q s ≡ c
    ended_on e is =
        pieces_join a b p ns k q s
        ∙ (λ i. going_on (is i) on c.steps c.rotations c.state)
        ∙ (λ i. record { said = sym is i; steps = c.steps; rotations = c.rotations; state = c.state })

    halted_on : c.said ≡ GoesOn → piece_from (a + b) p ns k q s ≡ on
    halted_on is = pieces_join a b p ns k q s ∙ (λ i. going_on (is i) on c.steps c.rotations c.state)

    log_on : log_from p ns c.steps c.state log₁ (on.steps - c.steps) ≡ log_from p ns k s log (on.steps - k)
    log_on =
        let further = goes_by_the_rules b p ns c.steps c.rotations c.state in
        let all : c.steps - k + (on.steps - c.steps) ≡ on.steps - k = omega (arith, so.steps_are, further.steps_are) in
        let made : c.steps - k ≡ so.made = omega (arith, so.steps_are) in
        let there : k + (c.steps - k) ≡ c.steps = omega (arith, so.steps_are) in
        let state : state_from p ns s (c.steps - k) ≡ c.state = rw made (sym so.state_there) in
        rw (all, there, state) at (sym (logs_join p ns s k log (c.steps - k) (on.steps - c.steps)))

    module _ (fit : Fitting p) (sized : Sized p s) where
      same_on : left_by_piece on.said lengths p ns work₁ cone₁ on (log_from p ns c.steps c.state log₁ (on.steps - c.steps)) ≡ left_by_piece on.said lengths p ns work cone on (log_from p ns k s log (on.steps - k))
      same_on =
          same_beyond lengths p ns on (log_from p ns c.steps c.state log₁ (on.steps - c.steps)) work cone work₁ cone₁ (put_required (work_length p.m p.n) (in_work c.state) work (in_work_long p c.state (sized_there fit sized))) (put_required (cone_work (blocks p)) c.state.cone cone (sized_there fit sized).cone) on.said
          ∙ ap (left_by_piece on.said lengths p ns work cone on) log_on

      taken_on : c.said ≡ GoesOn → steps_taken b lengths p ns c.steps c.rotations (with_tau p r₁.tau (from_work p work₁ cone₁)) log₁ work₁ cone₁ ≡ steps_taken (a + b) lengths p ns k q s log work cone
      taken_on is =
          ap (λ (t : State). steps_taken b lengths p ns c.steps c.rotations t log₁ work₁ cone₁) (read_back fit sized)
          ∙ steps_taken_are lengths p ns c.steps c.rotations c.state log₁ work₁ cone₁ b on refl
          ∙ same_on
          ∙ sym (steps_taken_are lengths p ns k q s log work cone (a + b) on (sym (halted_on is)))

  halted_so : c.said ≡ GoesOn → steps_taken a lengths p ns k q s log work cone ≡ left_halted lengths p ns work cone c log₁
  halted_so is =
      steps_taken_are lengths p ns k q s log work cone a c refl
      ∙ ap (λ (v : Verdict). left_by_piece v lengths p ns work cone c log₁) is

  none_more : c.said ≡ GoesOn → left_halted lengths p ns work cone c log₁ ≡ steps_taken (a + 0) lengths p ns k q s log work cone
  none_more is =
      let all : a + 0 ≡ a = omega arith in
      rw all (sym (halted_so is))

  -- Taken up by any number of steps, none too, they come to the steps uncut.
  pub later_taken_on : Fitting p → Sized p s → c.said ≡ GoesOn → (b : ℕ) → later_taken b r₁ lengths p work₁ cone₁ log₁.places ≡ steps_taken (a + b) lengths p ns k q s log work cone
  later_taken_on fit sized is zero = none_more is
  later_taken_on fit sized is (suc b) = taken_on (suc b) fit sized is
