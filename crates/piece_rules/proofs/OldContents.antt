-- What the three buffers held before changes nothing that counts of a piece that halts either.
use Prim.Native.Nat.{ℕ, zero, suc, ◌+◌, ◌*◌, ◌≤◌, ◌<◌}
use native.Mathlib.Omega.{arith}
use mathlib.Core.Path.{◌≡◌, refl, sym, ◌∙◌, ap}
use mathlib.Core.Bool.{Bool, true, false, ◌&&◌}
use mathlib.Core.List.{List, ◌++◌}
use borrow.Author.Tests.{leb-true}
use lib.Ieee.{Float}
use lib.ListN.{length, take, drop, length-append, length-take}
use lib.Seq.{take_at}
use Rattle.rules.specs.declared.Norms.{Norms}
use Rattle.rules.specs.Arithmetic.{at}
use Rattle.rules.specs.Product.{is_none, cone_work}
use Rattle.rules.specs.Problem.{Problem, embed, blocks, work_length}
use Rattle.rules.specs.Step.{State}
use Rattle.rules.specs.Criteria.{tau_of}
use Rattle.rules.specs.Prepare.{prepared, prepared_norms}
use Rattle.rules.specs.Run.{WholeStep, whole_step, state_from, run}
use Rattle.rules.specs.Refusals.{Accepted, refusal, read_problem}
use Rattle.rules.specs.Progress.{is_due, row_of, Log, untouched, row_fits, row_put, log_row, log_step, log_from, log_after}
use Rattle.rules.specs.Demands.{state_after, rotations_up_to, work_needed, cone_needed}
use Rattle.rules.proofs.Progress.{step_without_row, step_with_row, row_written, row_dropped, log_none, log_more}
use Rattle.rules.proofs.Lengths.{Fitting, Sized, states_sized}
use Rattle.rules.proofs.Accepted.{accepted_as_read}
use Rattle.piece_rules.specs.declared.PieceAnswer.{PieceAnswer}
use Rattle.piece_rules.specs.declared.PieceAnswer.TheVariants.{Halted}
use Rattle.piece_rules.specs.declared.RunLengths.{RunLengths}
use Rattle.piece_rules.specs.declared.RunRecord.{RunRecord}
use Rattle.piece_rules.specs.Pieces.{lengths_with, in_work, piece_counts, first_piece}
use Rattle.piece_rules.specs.InPieces.{halted_after, SameWhereItHalts}
use Rattle.piece_rules.proofs.Shifts.{row_long, log_length}
use Rattle.piece_rules.proofs.Kept.{tau_there}
use Rattle.piece_rules.proofs.Cut.{in_work_long}
use Rattle.piece_rules.proofs.InPieces.{halts_as_after_its_last_step}

-- ---- two progress records as long as each other count the same rows, and have them

record RowsAlike (one other : Log) : Type 0 where
  written : one.written ≡ other.written
  dropped : one.dropped ≡ other.dropped
  rows : take (4 * one.written) one.places ≡ take (4 * other.written) other.places

-- the rows with one more
row_more : (w : ℕ) (row places : List Float) → length row ≡ 4 → row_fits w places ≡ true → take (4 * (w + 1)) (row_put w row places) ≡ take (4 * w) places ++ row
unfolding row_put
row_more w row places four fits =
    let inside : 4 * w + 4 ≤ length places = leb-true _ _ fits in
    take_at (take (4 * w) places ++ row) (drop (4 * w + 4) places) (4 * (w + 1)) (length-append (take (4 * w) places) row ∙ omega (arith, length-take (4 * w) places))

row_alike : (row : List Float) (one other : Log) → length row ≡ 4 → length one.places ≡ length other.places → RowsAlike one other → RowsAlike (log_row row one) (log_row row other)
row_alike row one other four long h = go (row_fits one.written one.places) refl
  where
    same : row_fits one.written one.places ≡ row_fits other.written other.places
    same = rw (long, h.written)

    go : (b : Bool) → row_fits one.written one.places ≡ b → RowsAlike (log_row row one) (log_row row other)
    go true e =
        rw (row_written row one e, row_written row other (sym same ∙ e))
        (record {
          written = ap (λ w. w + 1) h.written;
          dropped = h.dropped;
          rows =
              row_more one.written row one.places four e
              ∙ ap (λ (rows : List Float). rows ++ row) h.rows
              ∙ sym (row_more other.written row other.places four (sym same ∙ e));
        })
    go false e =
        rw (row_dropped row one e, row_dropped row other (sym same ∙ e))
        (record { written = h.written; dropped = ap (λ w. w + 1) h.dropped; rows = h.rows })

step_alike : (p : Problem) (k : ℕ) (t : WholeStep) (one other : Log) → length one.places ≡ length other.places → RowsAlike one other → RowsAlike (log_step p k t one) (log_step p k t other)
step_alike p k t one other long h = go (is_due p.par.log_period k && is_none t.failure) refl
  where
    go : (b : Bool) → is_due p.par.log_period k && is_none t.failure ≡ b → RowsAlike (log_step p k t one) (log_step p k t other)
    go true e =
        rw (step_with_row p k t one e, step_with_row p k t other e)
        (row_alike (row_of (tau_of (embed p) t.state.x) t.criteria) one other (row_long (tau_of (embed p) t.state.x) t.criteria) long h)
    go false e = rw (step_without_row p k t one e, step_without_row p k t other e) h

module _ (p : Problem) (ns : Norms) (k : ℕ) (s : State) (one other : Log) (long : length one.places ≡ length other.places) (h : RowsAlike one other) where
  logs_alike : (i : ℕ) → RowsAlike (log_from p ns k s one i) (log_from p ns k s other i)
  logs_alike zero = rw (log_none p ns k s one, log_none p ns k s other) h
  logs_alike (suc i) =
      rw (log_more p ns k s one i, log_more p ns k s other i)
      (step_alike p (k + suc i) (whole_step p ns (state_from p ns s i)) (log_from p ns k s one i) (log_from p ns k s other i) (log_length p ns k s one i ∙ long ∙ sym (log_length p ns k s other i)) (logs_alike i))

-- ---- what is left where it halts, of the problem as it is read

module _ (k : ℕ) (lengths : RunLengths) (p : Problem) (fit : Fitting p) (work cone log work' cone' log' : List Float) (long : length log ≡ length log') where
  there : Sized p (state_after p k)
  there = states_sized p fit k

  counts : RowsAlike (log_after p log k) (log_after p log' k)
  counts = logs_alike p (prepared_norms p) 0 (prepared p) (untouched log) (untouched log') long (record { written = refl; dropped = refl; rows = refl }) k

  tau_alike : at (in_work (state_after p k) ++ drop (work_length p.m p.n) work) (p.n + p.m + p.m) ≡ at (in_work (state_after p k) ++ drop (work_length p.m p.n) work') (p.n + p.m + p.m)
  tau_alike =
      tau_there p (state_after p k) there (drop (work_length p.m p.n) work)
      ∙ sym (tau_there p (state_after p k) there (drop (work_length p.m p.n) work'))

  pub halted_alike : SameWhereItHalts (work_length p.m p.n) (cone_work (blocks p)) (halted_after k lengths p work cone log) (halted_after k lengths p work' cone' log')
  halted_alike =
      record {
        answer =
            λ i.
            Halted (record {
              lengths = lengths;
              par = p.par;
              norms = prepared_norms p;
              tau = tau_alike i;
              steps = k;
              rotations = rotations_up_to p k;
              written = counts.written i;
              dropped = counts.dropped i;
              ended = false;
            });
        work_required =
            take_at (in_work (state_after p k)) (drop (work_length p.m p.n) work) (work_length p.m p.n) (in_work_long p (state_after p k) there)
            ∙ sym (take_at (in_work (state_after p k)) (drop (work_length p.m p.n) work') (work_length p.m p.n) (in_work_long p (state_after p k) there));
        cone_required =
            take_at (state_after p k).cone (drop (cone_work (blocks p)) cone) (cone_work (blocks p)) there.cone
            ∙ sym (take_at (state_after p k).cone (drop (cone_work (blocks p)) cone') (cone_work (blocks p)) there.cone);
        rows = rows_of;
      }
    where
      rows_of : (r : RunRecord) → (halted_after k lengths p work cone log).answer ≡ Halted r → take (4 * r.written) (log_after p log k).places ≡ take (4 * r.written) (log_after p log' k).places
      rows_of r is =
          let own : r.written ≡ (log_after p log k).written = sym (ap (λ (a : PieceAnswer). (piece_counts a).written) is) in
          rw own (counts.rows ∙ ap (λ (w : ℕ). take (4 * w) (log_after p log' k).places) (sym counts.written))

-- ---- the first piece

-- What three buffers of the same lengths held before changes neither the answer, with its record, nor the required parts, nor the rows.
pub halting_old_contents : (p : Problem) (given : ℕ) (work cone log work' cone' log' : List Float) → length work ≡ length work' → length cone ≡ length cone' → length log ≡ length log' → refusal p (length work) (length cone) ≡ Accepted → given < (run (read_problem p)).steps → SameWhereItHalts (work_needed p) (cone_needed p) (first_piece p given work cone log) (first_piece p given work' cone' log')
halting_old_contents p given work cone log work' cone' log' w c l accepted fewer =
    let accepted' : refusal p (length work') (length cone') ≡ Accepted = rw (w, c) at accepted in
    let same : lengths_with p work' cone' log' ≡ lengths_with p work cone log = rw (w, c, l) in
    let fits = accepted_as_read p (length work) (length cone) accepted in
    rw (halts_as_after_its_last_step p work cone log accepted given fewer, halts_as_after_its_last_step p work' cone' log' accepted' given fewer, same)
    (halted_alike given (lengths_with p work cone log) (read_problem p) fits.fitting work cone log work' cone' log' l)
