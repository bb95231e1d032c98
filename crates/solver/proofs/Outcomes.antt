-- What the entry point's branches say: a problem turned away, and an accepted one as the run reads it.
use Prim.Native.Nat.{ℕ, ◌+◌, ◌-◌, ◌*◌, ◌≤◌}
use native.Mathlib.Nat.{mul-zero, sub_self}
use native.Mathlib.Omega.{arith}
use mathlib.Core.Path.{◌≡◌, refl, sym, ◌∙◌}
use mathlib.Core.Bool.{true}
use mathlib.Core.List.{List, [], ◌++◌, append-nil}
use borrow.Author.Tests.{le-leb, eq-eqb}
use lib.Ieee.{Float}
use lib.ListN.{length, take, drop, replicate}
use Rattle.rules.specs.declared.Logged.{Logged}
use Rattle.rules.specs.declared.Ending.{Ending}
use Rattle.rules.specs.declared.Shape.{Shape}
use Rattle.rules.specs.declared.Storage.{Storage}
use Rattle.rules.specs.declared.Storage.TheVariants.{Dense, Packed}
use Rattle.rules.specs.declared.SolverParam.{SolverParam}
use Rattle.rules.specs.Arithmetic.{+0}
use Rattle.rules.specs.Limits.{limit, most_words}
use Rattle.rules.specs.Matrices.{triangle, stored_length}
use Rattle.rules.specs.Groups.{plain_words}
use Rattle.rules.specs.Projections.{sweeps_fit}
use Rattle.rules.specs.Product.{cone_work}
use Rattle.rules.specs.Problem.{Problem, Slices, slices, as_read, blocks, matrix_of, length_x, length_y, problem_of, problem_in}
use Rattle.rules.specs.Run.{left_by}
use Rattle.rules.specs.Refusals.{Refusal, Accepted, Refused, refusal, is_packed, read_problem}
use Rattle.rules.specs.Split.{SplitProblem, split_of, slices_fit, joined_problem, split_refusal}
use Rattle.rules.specs.Progress.{LoggedLeft, LoggedAs, LoggedOutcome, SplitLoggedOutcome}
use Rattle.rules.proofs.SplitRuns.{same_refusal, slices_fit_if_accepted}
use Rattle.rules.proofs.LoggedRuns.{logged_accepted, refused_records_nothing, split_logged_as_joined, split_refused_records_nothing}
use Rattle.rules.proofs.Refusals.{none_holds}
use Rattle.rules.proofs.Accepted.{AllFits, sizes_fit, accepted_fits}
use Rattle.std.proofs.lemmas.List.{take-replicate}
use Rattle.shape.specs.Fitting.{parts_in, parts_fit}
use Rattle.shape.proofs.Fitting.{sized_of}
use Rattle.solver.specs.Solve.{turned_away_by, Taken, Handed, left_logged, AtZero, RanIn}

-- what is left as this rule says, where it is that one
left_by_lem : {one other : LoggedLeft} {answer : Logged} {work cone log : List Float} → one ≡ other → LoggedAs other answer work cone log → LoggedAs one answer work cone log
left_by_lem e l = rw e l

pub turned_away : (p : Problem) (work cone log : List Float) (e : Ending) (r : Refusal) → r ≡ refusal p (length work) (length cone) → r ≡ Refused e → (answer : Logged) → answer ≡ turned_away_by e → LoggedOutcome p work cone log answer work cone log
turned_away p work cone log e r h is answer told =
    left_by_lem (refused_records_nothing p work cone log e (sym (rw is at h))) (record { answered = told; work_left = refl; cone_left = refl; log_left = refl })

-- ---- an accepted problem, as the run reads it

module _ (par : SolverParam) where
  steps_read : (as_read par).max_iter ≡ par.max_iter
  unfolding as_read
  steps_read = refl

  sweeps_read : sweeps_fit (as_read par) ≡ sweeps_fit par
  unfolding as_read
  sweeps_read = refl

read_is : (m n : ℕ) (storage : Storage) (c a b : List Float) (words : List ℕ) (par : SolverParam) → read_problem (problem_of m n storage c a b words par) ≡ problem_of m n storage c a b (plain_words words) (as_read par)
unfolding read_problem
read_is m n storage c a b words par = refl

few_words : (p : Problem) (work cone : ℕ) → refusal p work cone ≡ Accepted → length p.words ≤ most_words
few_words p work cone e = (sizes_fit p (none_holds p work cone e 2)).words

-- what the tests of the problem over the joined matrix leave to ask: that A's slices fit
module _ (shape : Shape) (c : List Float) (a : Slices) (b : List Float) (words : List ℕ) (par : SolverParam) (work cone : List Float) where
  taken-as_read : AllFits (problem_in shape c a b words par) (length work) (length cone) → parts_fit shape a ≡ true → (read : SolverParam) → read ≡ as_read par → Taken shape c a b words read work cone
  taken-as_read f parts read e =
      let sweeps : sweeps_fit par ≡ true = rw (le-leb _ _ f.some_sweep, le-leb _ _ f.sweeps_within) in
      rw e
      (record {
        ready = record {
          operators = record { m_within = f.m_within; n_within = f.n_within; matrix = sized_of shape a parts; c_length = f.fitting.c; b_length = f.fitting.b };
          readable = f.no_bad_word;
          places = f.fitting.blocks;
          sweeps = sweeps_read par ∙ sweeps;
        };
        steps = rw (steps_read par) f.steps_within;
        work_long = f.long_work;
        cone_long = f.long_cone;
      })

-- ---- A in one slice, and nothing in the second

module _ (m n : ℕ) (storage : Storage) (c a b : List Float) (words : List ℕ) (par : SolverParam) (work cone : List Float) where
  abbrev pub whole_shape : Shape
  whole_shape = record { rows = record { 0 = m }; cols = record { 0 = n }; storage = storage; first = record { 0 = n } }

  whole_parts : (storage : Storage) → m ≤ limit → n ≤ limit → length a ≡ stored_length (matrix_of storage m n) → (is_packed storage ≡ true → m ≡ n) → parts_in storage m n n (slices a []) ≡ true
  whole_parts Dense hm hn long square =
      let none : m * (n - n) ≡ 0 = rw (sub_self n) (mul-zero m) in
      rw (le-leb m limit hm, le-leb n limit hn, le-leb n n (omega arith), eq-eqb (length a) (m * n) long, none)
  whole_parts Packed hm hn long square = rw (eq-eqb m n (square refl), le-leb m limit hm, eq-eqb (length a) (triangle m) long)

  pub handed : (r : Refusal) → r ≡ refusal (problem_of m n storage c a b words par) (length work) (length cone) → r ≡ Accepted → (read : SolverParam) → read ≡ as_read par → Handed whole_shape c (slices a []) b words read work cone
  handed r h is read e =
      let accepted = sym (rw is at h) in
      let f = accepted_fits (problem_of m n storage c a b words par) (length work) (length cone) accepted in
      record {
        taken = taken-as_read whole_shape c (slices a []) b (plain_words words) par work cone (rw (append-nil a) f) (whole_parts storage f.m_within f.n_within f.fitting.a f.square) read e;
        few_words = few_words (problem_of m n storage c a b words par) (length work) (length cone) accepted;
      }

  pub went_through : (r : Refusal) → r ≡ refusal (problem_of m n storage c a b words par) (length work) (length cone) → r ≡ Accepted → (read : SolverParam) → read ≡ as_read par → (log : List Float) (answer : Logged) (work' cone' log' : List Float) → LoggedAs (left_logged (problem_in whole_shape c (slices a []) b (plain_words words) read) work cone log) answer work' cone' log' → LoggedOutcome (problem_of m n storage c a b words par) work cone log answer work' cone' log'
  went_through r h is read e log answer work' cone' log' l =
      left_by_lem (logged_accepted (problem_of m n storage c a b words par) work cone log (sym (rw is at h))) (rw (read_is m n storage c a b words par) (rw (append-nil a, e) at l))

-- ---- dense A in two slices

pub split_turned_away : (p : SplitProblem) (work cone log : List Float) (e : Ending) (r : Refusal) → r ≡ split_refusal p (length work) (length cone) → r ≡ Refused e → (answer : Logged) → answer ≡ turned_away_by e → SplitLoggedOutcome p work cone log answer work cone log
split_turned_away p work cone log e r h is answer told =
    left_by_lem (split_refused_records_nothing p work cone log e (sym (rw is at h))) (record { answered = told; work_left = refl; cone_left = refl; log_left = refl })

module _ (m n n1 : ℕ) (c factory lesson b : List Float) (words : List ℕ) (par : SolverParam) (work cone : List Float) where
  abbrev pub split_shape : Shape
  split_shape = record { rows = record { 0 = m }; cols = record { 0 = n }; storage = Dense; first = record { 0 = n1 } }

  abbrev p : SplitProblem
  p = split_of m n n1 c factory lesson b words par

  module _ (r : Refusal) (h : r ≡ split_refusal p (length work) (length cone)) (is : r ≡ Accepted) where
    fitting : slices_fit p ≡ true
    fitting = slices_fit_if_accepted p work cone (sym (rw is at h))

    accepted_joined : refusal (joined_problem p) (length work) (length cone) ≡ Accepted
    accepted_joined = sym (same_refusal p (length work) (length cone) fitting) ∙ sym (rw is at h)

    pub split_handed : (read : SolverParam) → read ≡ as_read par → Handed split_shape c (slices factory lesson) b words read work cone
    split_handed read e =
        let f = accepted_fits (joined_problem p) (length work) (length cone) accepted_joined in
        let parts : parts_fit split_shape (slices factory lesson) ≡ true = rw (le-leb m limit f.m_within, le-leb n limit f.n_within) fitting in
        record {
          taken = taken-as_read split_shape c (slices factory lesson) b (plain_words words) par work cone f parts read e;
          few_words = few_words (joined_problem p) (length work) (length cone) accepted_joined;
        }

    pub split_went_through : (read : SolverParam) → read ≡ as_read par → (log : List Float) (answer : Logged) (work' cone' log' : List Float) → LoggedAs (left_logged (problem_in split_shape c (slices factory lesson) b (plain_words words) read) work cone log) answer work' cone' log' → SplitLoggedOutcome p work cone log answer work' cone' log'
    split_went_through read e log answer work' cone' log' l =
        left_by_lem (split_logged_as_joined p work cone log fitting ∙ logged_accepted (joined_problem p) work cone log accepted_joined)
        (rw (read_is m n Dense c (factory ++ lesson) b words par) (rw e at l))

-- ---- an accepted run with vectors of its own

pub left_as : (p : Problem) (work cone log : List Float) (needed : ℕ) → needed ≡ cone_work (blocks p) → (answer : Logged) (work' cone' log' : List Float) → RanIn p work log answer work' cone' log' → LoggedAs (left_logged p work cone log) answer work' (cone' ++ drop needed cone) log'
unfolding left_by
left_as p work cone log needed e answer work' cone' log' r =
    record { answered = r.answered; work_left = r.work_is; cone_left = rw (e, r.cone_is); log_left = r.log_is }

pub at_zero : (shape : Shape) → shape.rows.0 ≤ limit → shape.cols.0 ≤ limit → (long_x long_y : ℕ) → long_x ≡ 3 * limit + 1 → long_y ≡ 2 * limit + 1
    → (let x = take (length_x shape.rows.0 shape.cols.0) (replicate long_x +0) in let y = take (length_y shape.rows.0 shape.cols.0) (replicate long_y +0) in AtZero shape x y x y x x)
at_zero shape hm hn long_x long_y x y =
    let fx = take-replicate (length_x shape.rows.0 shape.cols.0) long_x +0 (omega arith) in
    let fy = take-replicate (length_y shape.rows.0 shape.cols.0) long_y +0 (omega arith) in
    record { x_zero = fx; y_zero = fy; tau_zero = fx; sigma_zero = fy; rx_zero = fx; tx_zero = fx }
