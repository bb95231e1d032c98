-- What a piece answers and leaves, from what its steps came to and how its vectors came into work.
use Prim.Native.Nat.{ℕ, ◌+◌, ◌-◌, ◌*◌, ◌≤◌, min}
use native.Mathlib.Omega.{arith}
use mathlib.Core.Path.{◌≡◌, refl, sym, ◌∙◌}
use mathlib.Core.Bool.{Bool, true, false, cond}
use mathlib.Core.List.{List, [], ◌∷◌, ◌++◌, append-nil}
use lib.Ieee.{Float}
use lib.ListN.{length, take, drop, length-drop}
use lib.Seq.{take_all, drop-length}
use Rattle.rules.specs.declared.Ending.{Ending}
use Rattle.rules.specs.declared.Norms.{Norms}
use Rattle.rules.specs.Arithmetic.{at}
use Rattle.rules.specs.Product.{cone_work}
use Rattle.rules.specs.declared.Shape.{Shape}
use Rattle.rules.specs.declared.SolverParam.{SolverParam}
use Rattle.rules.specs.Problem.{Problem, Slices, problem_in, blocks, work_length}
use Rattle.rules.specs.Step.{State}
use Rattle.rules.specs.Prepare.{zeros}
use Rattle.rules.specs.Run.{Verdict, GoesOn, Ends, Piece, piece_from, is_cone_failure, finished_x, laid_out, left_by, ended_by}
use Rattle.rules.specs.Progress.{Log, untouched, log_from}
use Rattle.rules.proofs.Columns.{by_less}
use Rattle.rules.proofs.Parts.{put}
use Rattle.step.specs.Update.{state_of, StepReady}
use Rattle.iterate.specs.declared.Iterated.{Iterated}
use Rattle.iterate.specs.declared.RowCounts.{RowCounts}
use Rattle.iterate.specs.Iterate.{counts_of}
use Rattle.settle.specs.Settle.{Settled, SettleOutcome}
use Rattle.settle.proofs.Settled.{settled_if_fitting}
use Rattle.settle.proofs.Parted.{final_finished}
use Rattle.piece_rules.specs.declared.PieceAnswer.{PieceAnswer}
use Rattle.piece_rules.specs.declared.RunLengths.{RunLengths}
use Rattle.piece_rules.specs.Pieces.{in_work, left_by_piece, PieceAs, steps_taken}
use Rattle.piece_rules.proofs.Shifts.{rotations_more, rotations_behind_0, rows_more, rows_behind}
use Rattle.pieces.specs.Taking.{Lent, log_of, laid_by, SomeSteps, told_by}

-- ---- the part of a record after its rows

no_places : (v : List Float) → length v ≡ 0 → v ≡ []
no_places [] e = refl
no_places (x ∷ v) e = absurd (omega arith)

-- a place past the end of a list is as good as its end
module _ (a : ℕ) (w : List Float) where
  take_min : take (min a (length w)) w ≡ take a w
  take_min =
      by_less a (length w) (λ l. let e : min a (length w) ≡ a = omega arith in rw e)
      (λ l.
      let e : min a (length w) ≡ length w = omega arith in
      rw (e, take_all (length w) w (omega arith), take_all a w (omega arith)))

  pub drop_all : length w ≤ a → drop a w ≡ []
  drop_all l = no_places (drop a w) (length-drop a w ∙ omega arith)

  drop_min : drop (min a (length w)) w ≡ drop a w
  drop_min =
      by_less a (length w) (λ l. let e : min a (length w) ≡ a = omega arith in rw e)
      (λ l.
      let e : min a (length w) ≡ length w = omega arith in
      rw (e, drop-length w) (sym (drop_all (omega arith))))

  -- what is lent, and what it becomes
  pub rest_lent : take (length w - min a (length w)) (drop (min a (length w)) w) ≡ drop a w
  rest_lent = take_all (length w - min a (length w)) (drop (min a (length w)) w) (omega (arith, length-drop (min a (length w)) w)) ∙ drop_min

  pub rest_put : (v : List Float) → put (min a (length w)) (length w) w v ≡ take a w ++ v
  rest_put v =
      let none : drop (length w - min a (length w)) (drop (min a (length w)) w) ≡ [] = no_places _ (length-drop (length w - min a (length w)) (drop (min a (length w)) w) ∙ omega (arith, length-drop (min a (length w)) w)) in
      rw (none, append-nil v, take_min)

-- ---- the piece

-- the steps with 0 rotations and no rows behind them
module _ (given : ℕ) (p : Problem) (ns : Norms) (k : ℕ) (s : State) (rows : RowCounts) (log : List Float) where
  abbrev came : Piece
  came = piece_from given p ns k 0 s

  abbrev logged : Log
  logged = log_from p ns k s (untouched (drop (4 * rows.written) log)) (came.steps - k)

  taken_is : (lengths : RunLengths) (q : ℕ) (work cone : List Float) → steps_taken given lengths p ns k q s (log_of rows log) work cone ≡ left_by_piece came.said lengths p ns work cone (rotations_more q came) (rows_more (take (4 * rows.written) log) rows.written rows.dropped logged)
  unfolding steps_taken
  taken_is lengths q work cone =
      rw (rotations_behind_0 given p ns k q s, rows_behind p ns k s log rows.written rows.dropped (came.steps - k))

finished_unscaled : (m n : ℕ) (x : List Float) → finished_x m n false x ≡ x
unfolding finished_x
finished_unscaled m n x = refl

-- where the problem and its state stand in the buffers after an ending
ended_work : (p : Problem) (c : Piece) (e : Ending) (work cone : List Float) → c.said ≡ Ends e → (left_by p work cone (ended_by c)).work ≡ cond (is_cone_failure e) (zeros (work_length p.m p.n)) (laid_out p e c.state) ++ drop (work_length p.m p.n) work
unfolding left_by
ended_work p c e work cone is = rw is

ended_cone : (p : Problem) (c : Piece) (e : Ending) (work cone : List Float) → c.said ≡ Ends e → (left_by p work cone (ended_by c)).cone ≡ cond (is_cone_failure e) (zeros (cone_work (blocks p))) c.state.cone ++ drop (cone_work (blocks p)) cone
unfolding left_by
ended_cone p c e work cone is = rw is

ended_answer : (p : Problem) (c : Piece) (e : Ending) (work cone : List Float) → c.said ≡ Ends e → (left_by p work cone (ended_by c)).answer ≡ record { ending = e; steps = c.steps; rotations = c.rotations }
unfolding left_by
ended_answer p c e work cone is = rw is

module _ {given : ℕ} {p : Problem} {ns : Norms} {k : ℕ} (q : ℕ) {s : State} (rows : RowCounts) (log : List Float) (lengths : RunLengths) {ran : Iterated} {x y dp_tau dp_sigma rx tx cone₁ log₁ : List Float} {ending : Ending} {work : List Float} (cone : List Float) {x' work' cone' : List Float} {answer : PieceAnswer} where
  pub piece_left : SomeSteps given p ns k s (drop (4 * rows.written) log) ran (state_of x y dp_tau dp_sigma rx tx cone₁) log₁
      → ending ≡ laid_by ran.said
      → length cone ≡ cone_work (blocks p)
      → length cone₁ ≡ cone_work (blocks p)
      → Settled p.m p.n x y dp_tau dp_sigma rx tx work ending cone₁ x' work' cone'
      → answer ≡ told_by lengths p.par ns (at work' (p.n + p.m + p.m)) q rows ran.said ran.steps ran.rotations ran.rows
      → PieceAs (steps_taken given lengths p ns k q s (log_of rows log) work cone) answer work' cone' (take (4 * rows.written) log ++ log₁)
  piece_left steps laid whole long settled tells = rw (taken_is given p ns k s rows log lengths q work cone) (go c.said refl)
    where
      c : Piece
      c = came given p ns k s rows log

      l : Log
      l = logged given p ns k s rows log

      front : List Float
      front = take (4 * rows.written) log

      told : answer ≡ told_by lengths p.par ns (at work' (p.n + p.m + p.m)) q rows c.said c.steps c.rotations (counts_of l)
      told = rw steps.answered at tells

      by : ending ≡ laid_by c.said
      by = rw steps.answered at laid

      nothing_more : drop (cone_work (blocks p)) cone ≡ []
      nothing_more = drop_all (cone_work (blocks p)) cone (omega arith)

      Goal : Verdict → Type 0
      Goal v = PieceAs (left_by_piece v lengths p ns work cone (rotations_more q c) (rows_more front rows.written rows.dropped l)) answer work' cone' (front ++ log₁)

      halts : c.said ≡ GoesOn → Goal GoesOn
      halts is =
          let there : state_of x y dp_tau dp_sigma rx tx cone₁ ≡ c.state = steps.left (rw is refl) in
          let unscaled : ending ≡ laid_by GoesOn = by ∙ rw is in
          let work_is : work' ≡ in_work c.state ++ drop (work_length p.m p.n) work = rw (← there) (rw (unscaled, finished_unscaled p.m p.n x) at settled.work_is) in
          let cone_is : cone' ≡ c.state.cone = rw (← there) (rw unscaled at settled.cone_is) in
          record {
            answered = rw (← work_is) (rw is at told);
            work_left = work_is;
            cone_left = rw (nothing_more, append-nil c.state.cone) cone_is;
            log_left = rw steps.log_left;
          }

      works : (e : Ending) → c.said ≡ Ends e → ending ≡ e → (t : Bool) → is_cone_failure e ≡ t → work' ≡ (left_by p work cone (ended_by (rotations_more q c))).work
      works e is so true f = rw (ended_work p (rotations_more q c) e work cone is, f) (rw (so, f) at settled.work_is)
      works e is so false f =
          let there : state_of x y dp_tau dp_sigma rx tx cone₁ ≡ c.state = steps.left (rw is f) in
          rw (ended_work p (rotations_more q c) e work cone is, f, ← there, final_finished p e x) (rw (so, f) at settled.work_is)

      cones : (e : Ending) → c.said ≡ Ends e → ending ≡ e → (t : Bool) → is_cone_failure e ≡ t → cone' ≡ (left_by p work cone (ended_by (rotations_more q c))).cone
      cones e is so true f =
          rw (ended_cone p (rotations_more q c) e work cone is, f, nothing_more, append-nil (zeros (cone_work (blocks p)))) (rw (so, f, long) at settled.cone_is)
      cones e is so false f =
          let there : state_of x y dp_tau dp_sigma rx tx cone₁ ≡ c.state = steps.left (rw is f) in
          rw (ended_cone p (rotations_more q c) e work cone is, f, ← there, nothing_more, append-nil cone₁) (rw (so, f) at settled.cone_is)

      ends : (e : Ending) → c.said ≡ Ends e → Goal (Ends e)
      ends e is =
          let so : ending ≡ e = by ∙ rw is in
          let work_is = works e is so (is_cone_failure e) refl in
          let cone_is = cones e is so (is_cone_failure e) refl in
          record {
            answered = rw (ended_answer p (rotations_more q c) e work cone is, ← work_is) (rw is at told);
            work_left = work_is;
            cone_left = cone_is;
            log_left = rw steps.log_left;
          }

      go : (v : Verdict) → c.said ≡ v → Goal v
      go GoesOn is = halts is
      go (Ends e) is = ends e is

-- ---- all of it: the steps, with the record's part after its rows, and then settled

module _ {given : ℕ} {par : SolverParam} {shape : Shape} {c : List Float} {a : Slices} {b : List Float} {words : List ℕ} {ns : Norms} {k : ℕ} (q : ℕ) (rows : RowCounts) {x y tau sigma rx tx : List Float} (cone : List Float) (log : List Float) (lengths : RunLengths) {start : ℕ} {ran : Iterated} {x₁ y₁ rx₁ tx₁ cone₁ log₁ : List Float} {ending : Ending} {work : List Float} {fits : Bool} {x' work' cone' : List Float} {answer : PieceAnswer} where
  pub steps_left : StepReady par shape c a b words (state_of x y tau sigma rx tx cone) → Lent (problem_in shape c a b words par) work cone
      → start ≡ min (4 * rows.written) (length log)
      → SomeSteps given (problem_in shape c a b words par) ns k (state_of x y tau sigma rx tx cone) (take (length log - start) (drop start log)) ran (state_of x₁ y₁ tau sigma rx₁ tx₁ cone₁) log₁
      → ending ≡ laid_by ran.said
      → SettleOutcome shape.rows.0 shape.cols.0 x₁ y₁ tau sigma rx₁ tx₁ work ending cone₁ fits x' work' cone'
      → length x₁ ≡ length x → length y₁ ≡ length y → length rx₁ ≡ length rx → length tx₁ ≡ length tx → length cone₁ ≡ length cone
      → answer ≡ told_by lengths par ns (at work' (shape.cols.0 + shape.rows.0 + shape.rows.0)) q rows ran.said ran.steps ran.rotations ran.rows
      → PieceAs (steps_taken given lengths (problem_in shape c a b words par) ns k q (state_of x y tau sigma rx tx cone) (log_of rows log) work cone) answer work' cone' (put start (length log) log log₁)
  steps_left ready lent starts steps laid settles kept_x kept_y kept_rx kept_tx kept_cone tells =
      let after = rw (starts, rest_lent (4 * rows.written) log) at steps in
      let settled = settled_if_fitting
      (record {
        m_within = ready.operators.m_within;
        n_within = ready.operators.n_within;
        x_long = kept_x ∙ ready.x_like.is;
        y_long = kept_y ∙ ready.y_like.is;
        tau_long = ready.tau_like.is;
        sigma_long = ready.sigma_like.is;
        rx_long = kept_rx ∙ ready.rx_like.is;
        tx_long = kept_tx ∙ ready.tx_like.is;
        work_long = lent.work_long;
      })
      settles in
      rw (starts, rest_put (4 * rows.written) log log₁) (piece_left q rows log lengths cone after laid lent.cone_long (kept_cone ∙ lent.cone_long) settled tells)
