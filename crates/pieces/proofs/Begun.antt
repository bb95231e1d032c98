-- The first piece of a run starts from what is prepared, and a later one from what record and buffers hold.
use Prim.Native.Nat.{ℕ, ◌+◌, ◌-◌, ◌≤◌}
use native.Mathlib.Omega.{arith}
use mathlib.Core.Path.{◌≡◌, refl, sym, ◌∙◌}
use mathlib.Core.Bool.{Bool, true}
use mathlib.Core.List.{List}
use lib.Ieee.{Float}
use Rattle.std.specs.Prelude.{Option, Some}
use Rattle.std.specs.Option.{is_some}
use lib.ListN.{length, take, drop, set, length-set}
use lib.Seq.{take_all}
use Rattle.rules.specs.declared.Norms.{Norms}
use Rattle.rules.specs.declared.Shape.{Shape}
use Rattle.rules.specs.declared.SolverParam.{SolverParam}
use Rattle.rules.specs.Blocks.{blocks_of}
use Rattle.rules.specs.Limits.{most_steps}
use Rattle.rules.specs.Product.{cone_work}
use Rattle.rules.specs.Problem.{Problem, Slices, problem_in, blocks, length_x, length_y}
use Rattle.rules.specs.Step.{State}
use Rattle.rules.specs.Prepare.{prepared_norms, prepared, zeros}
use Rattle.rules.specs.Run.{piece_from}
use Rattle.rules.specs.Progress.{Log, log_from}
use Rattle.rules.proofs.Parts.{part_length}
use Rattle.step.specs.Update.{state_of, StepReady}
use Rattle.prepare.specs.Prepare.{prepare_fits, PreparedOutcome}
use Rattle.prepare.proofs.Outcomes.{PreparedBy, prepared_where_fits}
use Rattle.take_up.specs.TakeUp.{TakenUp, TakeUpOutcome}
use Rattle.take_up.proofs.Taken.{taken_up_if_fitting}
use Rattle.solver.specs.Solve.{Lent as RunLent, AtZero}
use Rattle.solver.proofs.Whole.{covers, cleared_long, zero_x, zero_y, zero_tau, zero_sigma, zero_rx, zero_tx, prepared_is, ready_to_step}
use Rattle.piece_rules.specs.declared.PieceAnswer.{PieceAnswer}
use Rattle.piece_rules.specs.declared.RunLengths.{RunLengths}
use Rattle.piece_rules.specs.declared.RunRecord.{RunRecord}
use Rattle.piece_rules.specs.Pieces.{PieceLeft, PieceAs, steps_taken, first_taken, later_taken, from_work, with_tau}
use Rattle.piece_rules.proofs.Cut.{same_beyond}
use Rattle.piece_rules.proofs.TakenUp.{some_taken}
use Rattle.pieces.specs.Taking.{Lent, Behind, Fresh, log_of}
use Rattle.pieces.proofs.Counts.{few_rotations}
use Rattle.pieces.proofs.Stepped.{drop_all}

-- ---- of cone work only what lies beyond the required part is read

pub steps_by_rest : (given : ℕ) (lengths : RunLengths) (p : Problem) (ns : Norms) (k q : ℕ) (s : State) (log : Log) (work cone cone' : List Float) → drop (cone_work (blocks p)) cone ≡ drop (cone_work (blocks p)) cone' → steps_taken given lengths p ns k q s log work cone ≡ steps_taken given lengths p ns k q s log work cone'
unfolding steps_taken
steps_by_rest given lengths p ns k q s log work cone cone' e =
    let c = piece_from given p ns k q s in
    sym (same_beyond lengths p ns c (log_from p ns k s log (c.steps - k)) work cone work cone' refl (sym e) c.said)

-- what is left as this rule says, where it is that one
pub piece_by : {one other : PieceLeft} {answer : PieceAnswer} {work cone log : List Float} → one ≡ other → PieceAs other answer work cone log → PieceAs one answer work cone log
piece_by e l = rw e l

-- ---- the first piece

once : {v w : Norms} → Some v ≡ Some w → v ≡ w
once e = cc

module _ {shape : Shape} {c : List Float} {a : Slices} {b : List Float} {words : List ℕ} {par : SolverParam} {x y tau sigma rx tx : List Float} {prepared_as : Option Norms} {x₁ y₁ tau₁ sigma₁ work cone : List Float} (lent : RunLent shape c a b words par work cone) (z : AtZero shape x y tau sigma rx tx) (prepares : PreparedOutcome (prepare_fits shape c a b words x y tau sigma) (problem_in shape c a b words par) x y tau sigma prepared_as x₁ y₁ tau₁ sigma₁) where
  by : PreparedBy (problem_in shape c a b words par) x y tau prepared_as x₁ y₁ tau₁ sigma₁
  by =
      let r = lent.ready in
      prepared_where_fits prepares r.operators (covers r) (zero_x z) (zero_y z) (zero_tau z) (zero_sigma z)

  pub first_prepares : is_some prepared_as ≡ true
  first_prepares = rw by.answer_is

  module _ {cone₁ : List Float} (cleared : cone₁ ≡ zeros (length cone)) where
    pub first_ready : StepReady par shape c a b words (state_of x₁ y₁ tau₁ sigma₁ rx tx cone₁)
    first_ready = ready_to_step a z by lent cleared

    pub first_lent : Lent (problem_in shape c a b words par) work cone₁
    first_lent = record { steps = lent.steps; work_long = lent.work_long; cone_long = cleared_long lent cleared }

    pub first_left : {ns : Norms} → prepared_as ≡ Some ns → (given : ℕ) (lengths : RunLengths) (log : List Float) {answer : PieceAnswer} {work' cone' log' : List Float} → PieceAs (steps_taken given lengths (problem_in shape c a b words par) ns 0 0 (state_of x₁ y₁ tau₁ sigma₁ rx tx cone₁) (log_of (record { written = 0; dropped = 0 }) log) work cone₁) answer work' cone' log' → PieceAs (first_taken given lengths (problem_in shape c a b words par) work cone log) answer work' cone' log'
    first_left {ns} is given lengths log l =
        let p = problem_in shape c a b words par in
        let from : state_of x₁ y₁ tau₁ sigma₁ rx tx cone₁ ≡ prepared p = prepared_is a z by cone₁ (cleared ∙ rw lent.cone_long) in
        let start : ns ≡ prepared_norms p = once (sym is ∙ by.answer_is) ∙ rw z.x_zero in
        let long = cleared_long lent cleared in
        let rest : drop (cone_work (blocks p)) cone ≡ drop (cone_work (blocks p)) cone₁ = drop_all (cone_work (blocks p)) cone (omega (arith, lent.cone_long)) ∙ sym (drop_all (cone_work (blocks p)) cone₁ (omega (arith, long))) in
        piece_by (steps_by_rest given lengths p (prepared_norms p) 0 0 (prepared p) (log_of (record { written = 0; dropped = 0 }) log) work cone cone₁ rest) (rw (from, start) at l)

pub none_behind : Behind 0 0 (record { written = 0; dropped = 0 })
none_behind = record { steps = omega arith; few_rotations = omega arith; few_rows = omega arith }

-- ---- a later piece

module _ {shape : Shape} {c : List Float} {a : Slices} {b : List Float} {words : List ℕ} {par : SolverParam} {x y tau sigma rx tx work cone : List Float} (r : RunRecord) {answer : Bool} {x₁ x₂ y₁ tau₁ sigma₁ rx₁ tx₁ : List Float} (lent : RunLent shape c a b words par work cone) (z : AtZero shape x y tau sigma rx tx) (takes : TakeUpOutcome shape.rows.0 shape.cols.0 x y tau sigma rx tx work answer x₁ y₁ tau₁ sigma₁ rx₁ tx₁) (put : x₂ ≡ set x₁ (shape.cols.0 + shape.rows.0 + shape.rows.0) r.tau) where
  taken_up : TakenUp shape.rows.0 shape.cols.0 work x₁ y₁ tau₁ sigma₁ rx₁ tx₁
  taken_up = taken_up_if_fitting
      (record {
        m_within = lent.ready.operators.m_within;
        n_within = lent.ready.operators.n_within;
        x_long = (zero_x z).is;
        y_long = (zero_y z).is;
        tau_long = (zero_tau z).is;
        sigma_long = (zero_sigma z).is;
        rx_long = (zero_rx z).is;
        tx_long = (zero_tx z).is;
        work_long = lent.work_long;
      })
      takes

  state-held : state_of x₂ y₁ tau₁ sigma₁ rx₁ tx₁ cone ≡ with_tau (problem_in shape c a b words par) r.tau (from_work (problem_in shape c a b words par) work cone)
  unfolding from_work
  state-held =
      let t = taken_up in
      let whole : take (cone_work (blocks_of words)) cone ≡ cone = take_all (cone_work (blocks_of words)) cone (omega (arith, lent.cone_long)) in
      rw (put, t.x_is, t.y_is, t.tau_is, t.sigma_is, t.rx_is, t.tx_is, whole)

  pub later_ready : StepReady par shape c a b words (state_of x₂ y₁ tau₁ sigma₁ rx₁ tx₁ cone)
  later_ready =
      let r = lent.ready in
      let t = taken_up in
      let m = shape.rows.0 in
      let n = shape.cols.0 in
      let long = lent.work_long in
      record {
        operators = r.operators;
        cones = record { within = r.operators.m_within; readable = r.readable; places = r.places; sweeps = r.sweeps; enough = omega (arith, lent.cone_long) };
        x_like = record { is = rw put (length-set x₁ (n + m + m) _ ∙ rw t.x_is (part_length 0 (length_x m n) work (omega arith))) };
        y_like = record { is = rw t.y_is (part_length (length_x m n) (length_y m n) work (omega arith)) };
        tau_like = record { is = rw t.tau_is (part_length (length_x m n + length_y m n) (length_x m n) work (omega arith)) };
        sigma_like = record { is = rw t.sigma_is (part_length (length_x m n + length_y m n + length_x m n) (length_y m n) work (omega arith)) };
        rx_like = record { is = rw t.rx_is (part_length (length_x m n + length_y m n + length_x m n + length_y m n) (length_x m n) work (omega arith)) };
        tx_like = record { is = rw t.tx_is (part_length (length_x m n + length_y m n + length_x m n + length_y m n + length_x m n) (length_x m n) work (omega arith)) };
      }

  pub later_left : (given : ℕ) (lengths : RunLengths) (log : List Float) {answer : PieceAnswer} {work' cone' log' : List Float} → 1 ≤ given → PieceAs (steps_taken given lengths (problem_in shape c a b words par) r.norms r.steps r.rotations (state_of x₂ y₁ tau₁ sigma₁ rx₁ tx₁ cone) (log_of (record { written = r.written; dropped = r.dropped }) log) work cone) answer work' cone' log' → PieceAs (later_taken given r lengths (problem_in shape c a b words par) work cone log) answer work' cone' log'
  later_left given lengths log some l =
      piece_by (some_taken given r lengths (problem_in shape c a b words par) work cone log some) (rw state-held at l)

module _ {shape : Shape} {c : List Float} {a : Slices} {b : List Float} {words : List ℕ} {par : SolverParam} {work cone : List Float} {r : RunRecord} (lent : RunLent shape c a b words par work cone) (fresh : Fresh r (problem_in shape c a b words par)) where
  pub few_steps : r.steps ≤ most_steps
  few_steps = omega (arith, fresh.steps, lent.steps)

  pub later_behind : Behind r.steps r.rotations (record { written = r.written; dropped = r.dropped })
  later_behind =
      let ready = lent.ready in
      let bound = few_rotations {par = par} {cone = length cone} words (record { within = ready.operators.m_within; readable = ready.readable; places = ready.places; sweeps = ready.sweeps; enough = omega (arith, lent.cone_long) }) r.steps in
      record { steps = few_steps; few_rotations = omega (arith, fresh.rotations, bound, few_steps); few_rows = fresh.rows }

  pub later_lent : Lent (problem_in shape c a b words par) work cone
  later_lent = record { steps = lent.steps; work_long = lent.work_long; cone_long = lent.cone_long }
