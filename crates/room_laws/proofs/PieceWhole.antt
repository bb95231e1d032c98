-- A piece that is lent the required part of cone work comes to what it comes to with all of it.
use Prim.Native.Nat.{ℕ, zero, suc, ◌-◌, ◌≤◌}
use native.Mathlib.Omega.{arith}
use mathlib.Core.Path.{◌≡◌}
use mathlib.Core.List.{List, [], ◌++◌, append-nil}
use lib.Ieee.{Float}
use lib.ListN.{length, take, drop, take-append-drop}
use lib.Seq.{length-take-le, take-take}
use Rattle.rules.specs.declared.Norms.{Norms}
use Rattle.rules.specs.Run.{Verdict, GoesOn, Ends, Piece, piece_from, left_by}
use Rattle.rules.specs.Prepare.{prepared, prepared_norms}
use Rattle.rules.specs.Product.{cone_work}
use Rattle.rules.specs.Problem.{Problem, blocks}
use Rattle.rules.specs.Step.{State}
use Rattle.rules.specs.Progress.{Log, untouched, log_from}
use Rattle.rules.proofs.Parts.{put, from_start}
use Rattle.piece_rules.specs.declared.PieceAnswer.{PieceAnswer}
use Rattle.piece_rules.specs.declared.RunLengths.{RunLengths}
use Rattle.piece_rules.specs.Pieces.{PieceLeft, left_by_piece, PieceAs, steps_taken, from_work, with_tau, log_kept}
use Rattle.pieces.specs.Starts.{Start, First, Later, taken_by}
use Rattle.pieces.proofs.Stepped.{drop_all}

-- what is left, with so much of cone work after it
abbrev with_rest : List Float → PieceLeft → PieceLeft
with_rest rest left = record { answer = left.answer; work = left.work; cone = left.cone ++ rest; log = left.log }

module _ (p : Problem) (cone : List Float) (enough : cone_work (blocks p) ≤ length cone) where
  abbrev lent : List Float
  lent = take (cone_work (blocks p)) cone

  abbrev rest : List Float
  rest = drop (cone_work (blocks p)) cone

  none_after : drop (cone_work (blocks p)) lent ≡ []
  none_after = drop_all (cone_work (blocks p)) lent (omega (arith, length-take-le (cone_work (blocks p)) cone enough))

  left_whole : (v : Verdict) (lengths : RunLengths) (ns : Norms) (work : List Float) (c : Piece) (log : Log) → left_by_piece v lengths p ns work cone c log ≡ with_rest rest (left_by_piece v lengths p ns work lent c log)
  unfolding left_by
  left_whole GoesOn lengths ns work c log = simp (none_after, append-nil)
  left_whole (Ends e) lengths ns work c log = simp (none_after, append-nil)

  steps_whole : (given : ℕ) (lengths : RunLengths) (ns : Norms) (k q : ℕ) (s : State) (log : Log) (work : List Float) → steps_taken given lengths p ns k q s log work cone ≡ with_rest rest (steps_taken given lengths p ns k q s log work lent)
  unfolding steps_taken
  steps_whole given lengths ns k q s log work =
      let c = piece_from given p ns k q s in
      left_whole c.said lengths ns work c (log_from p ns k s log (c.steps - k))

  same_held : (work : List Float) → from_work p work lent ≡ from_work p work cone
  unfolding from_work
  same_held work = rw (take-take (cone_work (blocks p)) (cone_work (blocks p)) cone (omega arith))

  taken-whole : (start : Start) (given : ℕ) (lengths : RunLengths) (work log : List Float) → taken_by start given lengths p work cone log ≡ with_rest rest (taken_by start given lengths p work lent log)
  taken-whole First given lengths work log =
      steps_whole given lengths (prepared_norms p) 0 0 (prepared p) (untouched log) work
  taken-whole (Later r) zero lengths work log = rw (take-append-drop (cone_work (blocks p)) cone)
  taken-whole (Later r) (suc more) lengths work log =
      rw (same_held work) (steps_whole (suc more) lengths r.norms r.steps r.rotations (with_tau p r.tau (from_work p work cone)) (log_kept r log) work)

pub piece_whole : (start : Start) (given : ℕ) (lengths : RunLengths) (p : Problem) (work cone log : List Float) (needed : ℕ) → needed ≡ cone_work (blocks p) → needed ≤ length cone → {answer : PieceAnswer} {work' cone' log' : List Float} → PieceAs (taken_by start given lengths p work (take (needed - 0) (drop 0 cone)) log) answer work' cone' log' → PieceAs (taken_by start given lengths p work cone log) answer work' (put 0 needed cone cone') log'
piece_whole start given lengths p work cone log needed e enough {answer} {work'} {cone'} {log'} l =
    let within : cone_work (blocks p) ≤ length cone = omega arith in
    let part : PieceAs (taken_by start given lengths p work (take (cone_work (blocks p)) cone) log) answer work' cone' log' = rw (from_start needed, e) at l in
    rw (taken-whole p cone within start given lengths work log, from_start needed, e)
    (record { answered = part.answered; work_left = part.work_left; cone_left = rw part.cone_left; log_left = part.log_left })
