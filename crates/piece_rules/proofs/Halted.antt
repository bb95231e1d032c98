-- What a piece that halts leaves behind it is never stale.
use Prim.Native.Nat.{ℕ, ◌+◌, ◌-◌, ◌*◌, ◌≤◌, ◌<◌}
use native.Mathlib.Nat.{add-mul}
use native.Mathlib.Omega.{arith}
use mathlib.Core.Path.{◌≡◌, refl}
use mathlib.Core.Bool.{Bool, true, false, cond}
use mathlib.Core.List.{List}
use lib.Ieee.{Float, eq, of_bits}
use Rattle.rules.specs.declared.Norms.{Norms}
use Rattle.rules.specs.declared.SolverParam.{SolverParam}
use Rattle.rules.specs.Arithmetic.{+0}
use Rattle.rules.specs.Problem.{Problem, blocks, eps_zero, as_read}
use Rattle.rules.specs.Step.{State}
use Rattle.rules.specs.Run.{GoesOn, Piece, allowance}
use Rattle.rules.specs.Refusals.{read_problem}
use Rattle.rules.specs.Progress.{Log, untouched, log_from}
use Rattle.rules.specs.Demands.{step_from, verdict_from, all_pairs_twice, GoesByTheRules}
use Rattle.rules.proofs.Columns.{by_less}
use Rattle.rules.proofs.Run.{goes_on_exactly}
use Rattle.rules.proofs.Rotations.{steps_bounded}
use Rattle.rules.proofs.Progress as Progress
use Rattle.piece_rules.specs.declared.RunLengths.{RunLengths}
use Rattle.piece_rules.specs.Pieces.{most_rotations, record_of, stale_run}
use Rattle.piece_rules.proofs.Stale.{same_as_itself, read_as_itself, not_stale}

-- ---- parameters that were read are read as they are

zero-is_zero : eq +0 +0 ≡ true
unfolding eq of_bits
zero-is_zero = refl

eps_read : (par : SolverParam) → eps_zero (as_read par) ≡ eps_zero par
unfolding as_read eps_zero
eps_read par = go (eq par.eps_zero +0) refl
  where
    go : (b : Bool) → eq par.eps_zero +0 ≡ b → cond (eq (cond b +0 par.eps_zero) +0) +0 (cond b +0 par.eps_zero) ≡ cond b +0 par.eps_zero
    go true e = rw zero-is_zero
    go false e = rw e

pub read_once : (p : Problem) → as_read (read_problem p).par ≡ (read_problem p).par
unfolding read_problem as_read
read_once p = rw (eps_read p.par)

-- ---- what is behind a piece

-- so many steps, rotations and rows, after which a run may go on
pub record Behind (p : Problem) (k q : ℕ) (log : Log) : Type 0 where
  pub below : k < allowance p.par
  pub bounded : q ≤ most_rotations p.par (blocks p) k
  pub few_rows : log.written + log.dropped ≤ k

-- nothing is behind a first piece
pub none_behind : (p : Problem) (log : List Float) → Behind p 0 0 (untouched log)
none_behind p log = record { below = omega arith; bounded = omega arith; few_rows = omega arith }

module _ (given : ℕ) (p : Problem) (ns : Norms) (k q : ℕ) (s : State) (log : Log) (behind : Behind p k q log) (c : Piece) (r : GoesByTheRules given p ns k q s c) where
  goes_below : (i : ℕ) → verdict_from p ns k s i ≡ GoesOn → k + i < allowance p.par
  goes_below i on = ((goes_on_exactly p (k + i) (step_from p ns s i).failure (step_from p ns s i).criteria).exactly.0 on).2

  -- however it stops, its steps are within the allowance
  pub within : c.steps ≤ allowance p.par
  within =
      by_less 1 r.made
      (λ l.
      let on = goes_below (r.made - 1) (r.not_before (r.made - 1) (omega arith) (omega arith)) in
      omega (arith, r.steps_are))
      (λ l. omega (arith, r.steps_are, behind.below))

  pub rotations_within : c.rotations ≤ most_rotations p.par (blocks p) c.steps
  rotations_within =
      let most = p.par.sweep_limit * all_pairs_twice (blocks p) in
      rw r.steps_are
      (omega (arith, r.counts, steps_bounded p ns s r.made, behind.bounded, add-mul k r.made most))

  -- one that halts may go on
  pub still_behind : c.said ≡ GoesOn → Behind p c.steps c.rotations (log_from p ns k s log (c.steps - k))
  still_behind is =
      record {
        below =
            by_less 0 r.made
            (λ l.
            let on = goes_below r.made ((r.halts is).1 r.made (omega arith) (omega arith)) in
            omega (arith, r.steps_are))
            (λ l. omega (arith, r.steps_are, behind.below));
        bounded = rotations_within;
        few_rows = omega (arith, r.steps_are, Progress.few_rows p ns k s log (c.steps - k), behind.few_rows);
      }

-- the record that it leaves is not stale, for lengths that are the same and parameters as they are read
pub not_stale_behind : (lengths : RunLengths) (p : Problem) (ns : Norms) (work : List Float) (c : Piece) (log : Log) → as_read p.par ≡ p.par → Behind p c.steps c.rotations log → stale_run (record_of lengths p ns work c log false) lengths p ≡ false
not_stale_behind lengths p ns work c log read behind =
    not_stale (record_of lengths p ns work c log false) lengths p
    (record {
      same_lengths_lem = same_as_itself lengths;
      same_param_lem = rw read (read_as_itself p.par);
      below = behind.below;
      bounded = behind.bounded;
      few_rows = behind.few_rows;
      goes_on = refl;
    })
