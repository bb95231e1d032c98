-- A piece keeps the places beyond the required parts, and the length of each buffer.
use Prim.Native.Nat.{ℕ, zero, suc, ◌-◌, ◌≤◌}
use mathlib.Core.Path.{◌≡◌, refl}
use mathlib.Core.Bool.{Bool, true, false}
use mathlib.Core.List.{List, ◌++◌}
use lib.Ieee.{Float}
use lib.ListN.{length, drop}
use Rattle.rules.specs.declared.Norms.{Norms}
use Rattle.rules.specs.Prepare.{prepared, prepared_norms}
use Rattle.rules.specs.Product.{cone_work}
use Rattle.rules.specs.Problem.{Problem, blocks, work_length}
use Rattle.rules.specs.Refusals.{Refusal, Accepted, Refused as TurnedAway, refusal, read_problem}
use Rattle.rules.specs.Step.{State}
use Rattle.rules.specs.Run.{Verdict, GoesOn, Ends, Piece, piece_from, Ended, ended_by, left_by}
use Rattle.rules.specs.Progress.{Log, untouched, log_from}
use Rattle.rules.specs.Demands.{work_needed, cone_needed}
use Rattle.rules.proofs.Accepted.{AllFits, accepted_as_read}
use Rattle.rules.proofs.Lengths.{Fitting, Sized, prepared-sized}
use Rattle.rules.proofs.OldContents.{required_work, required_cone, required_work_length, required_cone_length}
use Rattle.piece_rules.specs.declared.PieceAnswer.{PieceAnswer}
use Rattle.piece_rules.specs.declared.RunLengths.{RunLengths}
use Rattle.piece_rules.specs.declared.RunRecord.{RunRecord}
use Rattle.piece_rules.specs.Pieces.{PieceLeft, in_work, left_by_piece, steps_taken, later_taken, from_work, with_tau, log_kept, stale_run, lengths_with, kept_with, first_piece, later_piece}
use Rattle.piece_rules.specs.InPieces.{KeptByPiece}
use Rattle.piece_rules.proofs.Shifts.{log_length}
use Rattle.piece_rules.proofs.Cut.{put_required, put_as_long, in_work_long, sized_there, steps_taken_are}
use Rattle.piece_rules.proofs.TakenUp.{first_by, again_by, held-sized}
use Rattle.piece_rules.proofs.InPieces.{first_is, again_is}

-- what was turned away, or took no step
all_kept : (required needed : ℕ) (answer : PieceAnswer) (work cone log : List Float) → KeptByPiece required needed work cone log (kept_with answer work cone log)
all_kept required needed answer work cone log = record { work_length_lem = refl; cone_length = refl; log_length = refl; work_beyond = refl; cone_beyond = refl }

-- what an ending leaves: the required parts, and then what was there
ended_work : (p : Problem) (work cone : List Float) (e : Ended) → (left_by p work cone e).work ≡ required_work p e ++ drop (work_length p.m p.n) work
unfolding left_by
ended_work p work cone e = refl

ended_cone : (p : Problem) (work cone : List Float) (e : Ended) → (left_by p work cone e).cone ≡ required_cone p e ++ drop (cone_work (blocks p)) cone
unfolding left_by
ended_cone p work cone e = refl

module _ (lengths : RunLengths) (p : Problem) (ns : Norms) (k q : ℕ) (s : State) (log : Log) (work cone : List Float) (given : ℕ) (fit : Fitting p) (sized : Sized p s) (w : work_length p.m p.n ≤ length work) (n : cone_work (blocks p) ≤ length cone) where
  abbrev c : Piece
  c = piece_from given p ns k q s

  abbrev log₁ : Log
  log₁ = log_from p ns k s log (c.steps - k)

  there : Sized p c.state
  there = sized_there lengths p ns k q s log work cone given fit sized

  left_keeps : (v : Verdict) → KeptByPiece (work_length p.m p.n) (cone_work (blocks p)) work cone log.places (left_by_piece v lengths p ns work cone c log₁)
  left_keeps GoesOn =
      record {
        work_length_lem = put_as_long (work_length p.m p.n) (in_work c.state) work (in_work_long p c.state there) w;
        cone_length = put_as_long (cone_work (blocks p)) c.state.cone cone there.cone n;
        log_length = log_length p ns k s log (c.steps - k);
        work_beyond = put_required (work_length p.m p.n) (in_work c.state) work (in_work_long p c.state there);
        cone_beyond = put_required (cone_work (blocks p)) c.state.cone cone there.cone;
      }
  left_keeps (Ends x) =
      let e = ended_by c in
      let long = required_work_length p e there in
      let long' = required_cone_length p e there in
      record {
        work_length_lem = rw (ended_work p work cone e) (put_as_long (work_length p.m p.n) (required_work p e) work long w);
        cone_length = rw (ended_cone p work cone e) (put_as_long (cone_work (blocks p)) (required_cone p e) cone long' n);
        log_length = log_length p ns k s log (c.steps - k);
        work_beyond = rw (ended_work p work cone e) (put_required (work_length p.m p.n) (required_work p e) work long);
        cone_beyond = rw (ended_cone p work cone e) (put_required (cone_work (blocks p)) (required_cone p e) cone long');
      }

  steps_keep : KeptByPiece (work_length p.m p.n) (cone_work (blocks p)) work cone log.places (steps_taken given lengths p ns k q s log work cone)
  steps_keep = rw (steps_taken_are lengths p ns k q s log work cone given c refl) (left_keeps c.said)

-- ---- of any test that gives what acceptance does

module _ (test : ℕ → ℕ → Refusal) (p : Problem) (work cone log : List Float) (fits : test (length work) (length cone) ≡ Accepted → AllFits (read_problem p) (length work) (length cone)) where
  abbrev q : Problem
  q = read_problem p

  abbrev lengths' : RunLengths
  lengths' = lengths_with p work cone log

  abbrev Keeps : PieceLeft → Type 0
  Keeps left = KeptByPiece (work_needed p) (cone_needed p) work cone log left

  pub first_keeps_by : (given : ℕ) → Keeps (first_by test p given work cone log)
  first_keeps_by given = go (test (length work) (length cone)) refl
    where
      go : (r : Refusal) → test (length work) (length cone) ≡ r → Keeps (first_by test p given work cone log)
      go (TurnedAway e) is = rw is (all_kept (work_needed p) (cone_needed p) _ work cone log)
      go Accepted is =
          rw is (steps_keep lengths' q (prepared_norms q) 0 0 (prepared q) (untouched log) work cone given (fits is).fitting (prepared-sized q) (fits is).long_work (fits is).long_cone)

  taken_keeps : (given : ℕ) (r : RunRecord) → AllFits q (length work) (length cone) → Keeps (later_taken given r lengths' q work cone log)
  taken_keeps zero r f = all_kept (work_needed p) (cone_needed p) _ work cone log
  taken_keeps (suc more) r f =
      steps_keep lengths' q r.norms r.steps r.rotations (with_tau q r.tau (from_work q work cone)) (log_kept r log) work cone (suc more) f.fitting (held-sized q r.tau work cone f.long_work f.long_cone) f.long_work f.long_cone

  pub later_keeps_by : (given : ℕ) (r : RunRecord) → Keeps (again_by test p given work cone log r)
  later_keeps_by given r = go (test (length work) (length cone)) refl
    where
      by_record : test (length work) (length cone) ≡ Accepted → (stale : Bool) → stale_run r lengths' q ≡ stale → Keeps (again_by test p given work cone log r)
      by_record is true so = rw (is, so) (all_kept (work_needed p) (cone_needed p) _ work cone log)
      by_record is false so = rw (is, so) (taken_keeps given r (fits is))

      go : (t : Refusal) → test (length work) (length cone) ≡ t → Keeps (again_by test p given work cone log r)
      go (TurnedAway e) is = rw is (all_kept (work_needed p) (cone_needed p) _ work cone log)
      go Accepted is = by_record is (stale_run r lengths' q) refl

-- ---- the pieces of a run

module _ (p : Problem) (given : ℕ) (work cone log : List Float) where
  pub first_piece_keeps_places_beyond : KeptByPiece (work_needed p) (cone_needed p) work cone log (first_piece p given work cone log)
  first_piece_keeps_places_beyond = rw (first_is p given work cone log) (first_keeps_by (refusal p) p work cone log (accepted_as_read p (length work) (length cone)) given)

  -- whatever record and buffers hold
  pub later_piece_keeps_places_beyond : (r : RunRecord) → KeptByPiece (work_needed p) (cone_needed p) work cone log (later_piece p given work cone log r)
  later_piece_keeps_places_beyond r = rw (again_is p given work cone log r) (later_keeps_by (refusal p) p work cone log (accepted_as_read p (length work) (length cone)) given r)
