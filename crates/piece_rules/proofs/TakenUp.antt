-- A piece that halts is never turned away when it is taken up, and comes to the piece uncut. Proved once, for any test of the problem and its buffers.
use Prim.Native.Nat.{ℕ, zero, suc, ◌+◌, ◌-◌, ◌≤◌}
use native.Mathlib.Omega.{arith}
use mathlib.Core.Path.{◌≡◌, refl, sym, ◌∙◌, ap}
use mathlib.Core.Bool.{Bool, true, false}
use mathlib.Core.List.{List}
use lib.Ieee.{Float}
use lib.ListN.{length, length-set}
use lib.Seq.{length-take-le}
use Rattle.rules.specs.declared.Norms.{Norms}
use Rattle.rules.specs.Product.{cone_work}
use Rattle.rules.specs.Problem.{Problem, blocks, length_x, length_y, work_length}
use Rattle.rules.specs.Step.{State, part}
use Rattle.rules.specs.Prepare.{prepared, prepared_norms}
use Rattle.rules.specs.Run.{Verdict, GoesOn, Ends, Piece, piece_from}
use Rattle.rules.specs.Refusals.{Refusal, Accepted, Refused, read_problem}
use Rattle.rules.specs.Progress.{Log, untouched, log_from}
use Rattle.rules.proofs.Parts.{part_length}
use Rattle.rules.proofs.Run.{goes_by_the_rules}
use Rattle.rules.proofs.Accepted.{AllFits}
use Rattle.rules.proofs.Lengths.{Sized, prepared-sized}
use Rattle.piece_rules.specs.declared.RunLengths.{RunLengths}
use Rattle.piece_rules.specs.declared.RunRecord.{RunRecord}
use Rattle.piece_rules.specs.Pieces.{PieceLeft, lengths_with, left_halted, left_by_piece, steps_taken, first_taken, later_taken, from_work, with_tau, log_kept, stale_run, first_after, later_after}
use Rattle.piece_rules.specs.InPieces.{taken_up_by}
use Rattle.piece_rules.proofs.Kept.{later_by}
use Rattle.piece_rules.proofs.Stale.{up_to_date}
use Rattle.piece_rules.proofs.Halted.{read_once, Behind, none_behind, still_behind, not_stale_behind}
use Rattle.piece_rules.proofs.Cut.{steps_taken_are, r₁, log_as_long, work_as_long, cone_as_long, ended_on, later_taken_on}

-- pieces of a problem, by what turns it away with buffers of two lengths
module _ (test : ℕ → ℕ → Refusal) (p : Problem) (given : ℕ) (work cone log : List Float) where
  abbrev pub first_by : PieceLeft
  first_by =
      first_after (test (length work) (length cone)) (first_taken given (lengths_with p work cone log) (read_problem p) work cone log) work cone log

  abbrev pub again_by : RunRecord → PieceLeft
  again_by r =
      later_after (later_by (test (length work) (length cone)) (stale_run r (lengths_with p work cone log) (read_problem p)))
      (later_taken given r (lengths_with p work cone log) (read_problem p) work cone log) work cone log

-- .. taken up where it halted
abbrev pub on_by : (ℕ → ℕ → Refusal) → Problem → ℕ → PieceLeft → PieceLeft
on_by test p given left = taken_up_by (again_by test p given left.work left.cone left.log) left.answer left

-- ---- from any state

module _ (test : ℕ → ℕ → Refusal) (p : Problem) (work cone log : List Float) (accepted : test (length work) (length cone) ≡ Accepted) where
  abbrev lengths : RunLengths
  lengths = lengths_with p work cone log

  again_accepted : (given : ℕ) (work' cone' log' : List Float) (r : RunRecord) → length work' ≡ length work → length cone' ≡ length cone → length log' ≡ length log → stale_run r lengths (read_problem p) ≡ false → again_by test p given work' cone' log' r ≡ later_taken given r lengths (read_problem p) work' cone' log'
  again_accepted given work' cone' log' r w c l so = rw (w, c, l, accepted, so)

  module _ (ns : Norms) (k q : ℕ) (s : State) (log₀ : Log) (fits : AllFits (read_problem p) (length work) (length cone)) (long : length log₀.places ≡ length log) (sized : Sized (read_problem p) s) (behind : Behind (read_problem p) k q log₀) (a b : ℕ) where
    abbrev so_far : Piece
    so_far = piece_from a (read_problem p) ns k q s

    abbrev log₁ : Log
    log₁ = log_from (read_problem p) ns k s log₀ (so_far.steps - k)

    abbrev whole : PieceLeft
    whole = steps_taken (a + b) lengths (read_problem p) ns k q s log₀ work cone

    by_verdict : (v : Verdict) → so_far.said ≡ v → on_by test p b (left_by_piece v lengths (read_problem p) ns work cone so_far log₁) ≡ whole
    by_verdict GoesOn is =
        again_accepted b (left_halted lengths (read_problem p) ns work cone so_far log₁).work (left_halted lengths (read_problem p) ns work cone so_far log₁).cone log₁.places (r₁ lengths (read_problem p) ns k q s log₀ work cone a) (work_as_long lengths (read_problem p) ns k q s log₀ work cone a fits.fitting sized fits.long_work) (cone_as_long lengths (read_problem p) ns k q s log₀ work cone a fits.fitting sized fits.long_cone) (log_as_long lengths (read_problem p) ns k q s log₀ work cone a ∙ long) (not_stale_behind lengths (read_problem p) ns (left_halted lengths (read_problem p) ns work cone so_far log₁).work so_far log₁ (read_once p) (still_behind a (read_problem p) ns k q s log₀ behind so_far (goes_by_the_rules a (read_problem p) ns k q s) is))
        ∙ later_taken_on lengths (read_problem p) ns k q s log₀ work cone a fits.fitting sized is b
    by_verdict (Ends e) is =
        sym (ap (λ (v : Verdict). left_by_piece v lengths (read_problem p) ns work cone so_far log₁) is)
        ∙ sym (steps_taken_are lengths (read_problem p) ns k q s log₀ work cone (a + b) so_far (sym (ended_on lengths (read_problem p) ns k q s log₀ work cone a b e is)))

    -- a steps, and then b more where they halted
    pub gone_on_from : on_by test p b (steps_taken a lengths (read_problem p) ns k q s log₀ work cone) ≡ whole
    gone_on_from =
        ap (on_by test p b) (steps_taken_are lengths (read_problem p) ns k q s log₀ work cone a so_far refl)
        ∙ by_verdict so_far.said refl

-- ---- from the first step on

module _ (test : ℕ → ℕ → Refusal) (p : Problem) (work cone log : List Float) (fits : test (length work) (length cone) ≡ Accepted → AllFits (read_problem p) (length work) (length cone)) (a b : ℕ) where
  pub first_gone_on : on_by test p b (first_by test p a work cone log) ≡ first_by test p (a + b) work cone log
  first_gone_on = go (test (length work) (length cone)) refl
    where
      q : Problem
      q = read_problem p

      go : (r : Refusal) → test (length work) (length cone) ≡ r → on_by test p b (first_by test p a work cone log) ≡ first_by test p (a + b) work cone log
      go Accepted is =
          rw is (gone_on_from test p work cone log is (prepared_norms q) 0 0 (prepared q) (untouched log) (fits is) refl (prepared-sized q) (none_behind q log) a b)
      go (Refused e) is = rw is

-- ---- from what any record and buffers hold

pub held-sized : (p : Problem) (tau : Float) (work cone : List Float) → work_length p.m p.n ≤ length work → cone_work (blocks p) ≤ length cone → Sized p (with_tau p tau (from_work p work cone))
unfolding from_work
held-sized p tau work cone w c =
    let lx = length_x p.m p.n in
    let ly = length_y p.m p.n in
    record {
      x = length-set (part 0 lx work) (p.n + p.m + p.m) tau ∙ part_length 0 lx work (omega arith);
      y = part_length lx ly work (omega arith);
      dp_tau = part_length (lx + ly) lx work (omega arith);
      dp_sigma = part_length (lx + ly + lx) ly work (omega arith);
      rx = part_length (lx + ly + lx + ly) lx work (omega arith);
      tx = part_length (lx + ly + lx + ly + lx) lx work (omega arith);
      cone = length-take-le (cone_work (blocks p)) cone c;
    }

pub behind_record : (r : RunRecord) (lengths : RunLengths) (p : Problem) (log : List Float) → stale_run r lengths p ≡ false → Behind p r.steps r.rotations (log_kept r log)
behind_record r lengths p log so =
    let u = up_to_date r lengths p so in
    record { below = u.below; bounded = u.bounded; few_rows = u.few_rows }

-- one step at least
pub some_taken : (given : ℕ) (r : RunRecord) (lengths : RunLengths) (p : Problem) (work cone log : List Float) → 1 ≤ given → later_taken given r lengths p work cone log ≡ steps_taken given lengths p r.norms r.steps r.rotations (with_tau p r.tau (from_work p work cone)) (log_kept r log) work cone
some_taken zero r lengths p work cone log h = absurd (omega arith)
some_taken (suc more) r lengths p work cone log h = refl

module _ (test : ℕ → ℕ → Refusal) (p : Problem) (work cone log : List Float) (r : RunRecord) where
  -- taken up by some steps, or by none, and then by b more
  module _ (b : ℕ) (accepted : test (length work) (length cone) ≡ Accepted) (so : stale_run r (lengths_with p work cone log) (read_problem p) ≡ false) where
    again_some : AllFits (read_problem p) (length work) (length cone) → (a : ℕ) → on_by test p b (later_taken a r (lengths_with p work cone log) (read_problem p) work cone log) ≡ later_taken (a + b) r (lengths_with p work cone log) (read_problem p) work cone log
    again_some fits zero =
        let all : 0 + b ≡ b = omega arith in
        rw all (again_accepted test p work cone log accepted b work cone log r refl refl refl so)
    again_some fits (suc a) =
        let q = read_problem p in
        gone_on_from test p work cone log accepted r.norms r.steps r.rotations (with_tau q r.tau (from_work q work cone)) (log_kept r log) fits refl (held-sized q r.tau work cone fits.long_work fits.long_cone) (behind_record r (lengths_with p work cone log) q log so) (suc a) b
        ∙ sym (some_taken (suc a + b) r (lengths_with p work cone log) q work cone log (omega arith))

  pub again-gone_on : (test (length work) (length cone) ≡ Accepted → AllFits (read_problem p) (length work) (length cone)) → (a b : ℕ) → on_by test p b (again_by test p a work cone log r) ≡ again_by test p (a + b) work cone log r
  again-gone_on fits a b = go (test (length work) (length cone)) refl
    where
      by_record : test (length work) (length cone) ≡ Accepted → (stale : Bool) → stale_run r (lengths_with p work cone log) (read_problem p) ≡ stale → on_by test p b (again_by test p a work cone log r) ≡ again_by test p (a + b) work cone log r
      by_record is true so = rw (is, so)
      by_record is false so = rw (is, so) (again_some b is so (fits is) a)

      go : (t : Refusal) → test (length work) (length cone) ≡ t → on_by test p b (again_by test p a work cone log r) ≡ again_by test p (a + b) work cone log r
      go (Refused e) is = rw is
      go Accepted is = by_record is (stale_run r (lengths_with p work cone log) (read_problem p)) refl
