-- Document 01, "How a run ends".
use Rattle.std.specs.Prelude.{ℕ, zero, suc, ◌+◌, max, Bool, true, false, cond, ◌&&◌, List, [], ◌++◌, leb, Float, length, take, drop, Option, Some, None}
use Rattle.std.specs.Float.Ieee.{le}
use Rattle.rules.specs.declared.Answer.{Answer}
use Rattle.rules.specs.declared.Ending.{Ending}
use Rattle.rules.specs.declared.Ending.TheVariants.{Converged, ExcessIter, ExcessIterUnscaled, Unbounded, Infeasible, ConeFailure}
use Rattle.rules.specs.declared.SolverParam.{SolverParam}
use Rattle.rules.specs.Outcome.{OnPaper, turned_away, ends, times_1/tau, unscaled, all_zero, on_paper}
use Rattle.rules.specs.Helpers.{reciprocal}
use Rattle.rules.specs.Arithmetic.{at}
use Rattle.rules.specs.Vectors.{scaled}
use Rattle.rules.specs.Product.{Failure, none, block, cone_work}
use Rattle.rules.specs.Problem.{Problem, embed, blocks, work_length}
use Rattle.rules.specs.Step.{State, updated, part}
use Rattle.rules.specs.declared.Criteria.{Criteria}
use Rattle.rules.specs.declared.Criteria.TheVariants.{Conv, Inf}
use Rattle.rules.specs.Criteria.{judged}
use Rattle.rules.specs.declared.Norms.{Norms}
use Rattle.rules.specs.Prepare.{norms, prepared, prepared_norms, zeros}

-- ---- one whole step, without stopping

pub record WholeStep : Type 0 where
  pub state : State
  pub rotations : ℕ
  pub failure : Failure
  pub criteria : Criteria

unfoldable pub whole_step : Problem → Norms → State → WholeStep
unfolding updated judged
whole_step p ns s =
    let u = updated p s in
    let v = u.state in
    let j = judged (embed p) p.par.eps_zero ns v.x v.rx in
    let after : State =
    record { x = v.x; y = v.y; dp_tau = v.dp_tau; dp_sigma = v.dp_sigma; rx = j.rx; tx = v.tx; cone = v.cone } in
    record { state = after; rotations = u.rotations; failure = u.failure; criteria = j.criteria }

-- ---- whether it ends

-- what a step says of a run: its ending, or none where it goes on
abbrev pub Verdict : Type 0
Verdict = Option Ending

pattern abbrev pub GoesOn : Verdict
GoesOn = None

pattern abbrev pub Ends : Ending → Verdict
Ends e = Some e

-- "The allowance is met at step max(max_iter, 1)."
abbrev pub allowance : SolverParam → ℕ
allowance par = max par.max_iter 1

-- "At one step: ConeFailure first, then Converged or ExcessIter if tau > eps_zero; otherwise Unbounded, Infeasible, ExcessIter."
unfoldable pub verdict : SolverParam → ℕ → Failure → Criteria → Verdict
unfolding le
verdict par k (block b) criteria = Ends (ConeFailure b)
verdict par k none (Conv pri dual gap) =
    cond (le pri par.eps_acc && le dual par.eps_acc && le gap par.eps_acc) (Ends (Converged pri dual gap))
    (cond (leb (allowance par) k) (Ends (ExcessIter pri dual gap)) GoesOn)
verdict par k none (Inf unbdd infeas) =
    cond (le unbdd par.eps_inf) (Ends (Unbounded unbdd))
    (cond (le infeas par.eps_inf) (Ends (Infeasible infeas))
    (cond (leb (allowance par) k) (Ends (ExcessIterUnscaled unbdd infeas)) GoesOn))

-- ---- steps from any state

-- the state after k steps from s, without stopping
unfoldable pub state_from : Problem → Norms → State → ℕ → State
unfolding whole_step
state_from p ns s zero = s
state_from p ns s (suc k) = (whole_step p ns (state_from p ns s k)).state

-- What a piece of a run comes to: what its last step said, which is GoesOn where the piece halts without an ending, and the steps and rotations made by then.
pub record Piece : Type 0 where
  pub said : Verdict
  pub steps : ℕ
  pub rotations : ℕ
  pub state : State

abbrev pub going_on : Verdict → Piece → ℕ → ℕ → State → Piece
going_on GoesOn rest k q s = rest
going_on (Ends e) rest k q s = record { said = Ends e; steps = k; rotations = q; state = s }

-- At most so many further steps from s, when k steps and q rotations are behind.
unfoldable pub piece_from : ℕ → Problem → Norms → ℕ → ℕ → State → Piece
unfolding whole_step verdict
piece_from zero p ns k q s = record { said = GoesOn; steps = k; rotations = q; state = s }
piece_from (suc more) p ns k q s =
    let t = whole_step p ns s in
    let rest = piece_from more p ns (k + 1) (q + t.rotations) t.state in
    going_on (verdict p.par (k + 1) t.failure t.criteria) rest (k + 1) (q + t.rotations) t.state

-- a piece taken up again, for at most so many steps more; one that has ended stays as it is
abbrev pub taken_up : ℕ → Problem → Norms → Piece → Piece
taken_up more p ns c = going_on c.said (piece_from more p ns c.steps c.rotations c.state) c.steps c.rotations c.state

-- ---- the run

pub record Ended : Type 0 where
  pub ending : Ending
  pub steps : ℕ
  pub rotations : ℕ
  pub state : State

-- the ending of a piece that has one; a piece with all of the allowance has, since that is met before it could halt
abbrev pub ending_of : Verdict → Ending
ending_of GoesOn = ConeFailure 0
ending_of (Ends e) = e

abbrev pub ended_by : Piece → Ended
ended_by c = record { ending = ending_of c.said; steps = c.steps; rotations = c.rotations; state = c.state }

-- ---- x and y in work: the third column of the table

abbrev pub scales : OnPaper → Bool
scales (ends row criteria failure times_1/tau) = true
scales (ends row criteria failure unscaled) = false
scales (ends row criteria failure all_zero) = false
scales (turned_away i) = false

abbrev pub zeroes : OnPaper → Bool
zeroes (ends row criteria failure times_1/tau) = false
zeroes (ends row criteria failure unscaled) = false
zeroes (ends row criteria failure all_zero) = true
zeroes (turned_away i) = false

abbrev pub is_scaled : Ending → Bool
is_scaled e = scales (on_paper e)

abbrev pub is_cone_failure : Ending → Bool
is_cone_failure e = zeroes (on_paper e)

-- "x and y in work: times 1/tau", of a vector like x and where the ending asks for it
unfoldable pub finished_x : ℕ → ℕ → Bool → List Float → List Float
unfolding scaled reciprocal
finished_x m n by_tau x =
    let by = reciprocal (at x (n + m + m)) in
    cond by_tau (scaled by (part 0 n x) ++ scaled by (part n m x) ++ drop (n + m) x) x

unfoldable pub final_x : Problem → Ending → List Float → List Float
unfolding finished_x
final_x p e x = finished_x p.m p.n (is_scaled e) x

-- "x is the first n places of work, y the next m; each is handed back as a part of work, empty if work is too short to hold it."
unfoldable pub solution_x : ℕ → List Float → List Float
solution_x n work = cond (leb n (length work)) (take n work) []

unfoldable pub solution_y : ℕ → ℕ → List Float → List Float
solution_y m n work = cond (leb (n + m) (length work)) (take m (drop n work)) []

-- the required part of work
abbrev pub laid_out : Problem → Ending → State → List Float
laid_out p e s = final_x p e s.x ++ s.y ++ s.dp_tau ++ s.dp_sigma ++ s.rx ++ s.tx

-- "On acceptance the required part of both buffers becomes +0": the run starts from that, whatever the buffers held.
unfoldable pub run : Problem → Ended
unfolding piece_from prepared norms
run p = ended_by (piece_from (allowance p.par) p (prepared_norms p) 0 0 (prepared p))

-- What an accepted run leaves. "ConeFailure: required part of both buffers +0"; "places beyond it are never changed".
pub record Left : Type 0 where
  pub answer : Answer
  pub work : List Float
  pub cone : List Float

unfoldable pub left_by : Problem → List Float → List Float → Ended → Left
unfolding final_x cone_work
left_by p work cone e =
    let required = work_length p.m p.n in
    let needed = cone_work (blocks p) in
    let laid = laid_out p e.ending e.state in
    record {
      answer = record { ending = e.ending; steps = e.steps; rotations = e.rotations };
      work = cond (is_cone_failure e.ending) (zeros required) laid ++ drop required work;
      cone = cond (is_cone_failure e.ending) (zeros needed) e.state.cone ++ drop needed cone;
    }
