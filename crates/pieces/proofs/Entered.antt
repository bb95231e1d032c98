-- What the entry points' branches say: a piece turned away, and an accepted one as the run reads its problem.
use Prim.Native.Nat.{ℕ}
use native.Mathlib.Omega.{arith}
use mathlib.Core.Path.{◌≡◌, refl, sym, ◌∙◌}
use mathlib.Core.Bool.{false}
use mathlib.Core.List.{List, [], ◌++◌, append-nil}
use lib.Ieee.{Float}
use Rattle.std.specs.Prelude.{Err}
use lib.ListN.{length}
use Rattle.rules.specs.declared.Ending.{Ending}
use Rattle.rules.specs.declared.Storage.{Storage}
use Rattle.rules.specs.declared.Storage.TheVariants.{Dense}
use Rattle.rules.specs.declared.SolverParam.{SolverParam}
use Rattle.rules.specs.Groups.{plain_words}
use Rattle.rules.specs.Problem.{Problem, slices, as_read, problem_of, problem_in}
use Rattle.rules.specs.Refusals.{Refusal, Accepted, Refused as TurnedAway, refusal, read_problem}
use Rattle.rules.specs.Split.{SplitProblem, split_of, joined_problem, split_refusal}
use Rattle.solver.specs.Solve.{Handed}
use Rattle.solver.proofs.Outcomes.{whole_shape, handed, split_shape, split_handed}
use Rattle.piece_rules.specs.declared.LaterRefusal.TheVariants.{Refused as ByTest, StaleRun}
use Rattle.piece_rules.specs.declared.PieceAnswer.{PieceAnswer}
use Rattle.piece_rules.specs.declared.PieceAnswer.TheVariants.{Refused, StaleRun as Stale}
use Rattle.piece_rules.specs.declared.RunRecord.{RunRecord}
use Rattle.piece_rules.specs.Pieces.{Later as LaterTests, Taken, PieceAs, lengths_with, first_after, later_after, first_taken, later_taken, kept_with, later_refusal, later_split_refusal, first_piece, later_piece, first_split_piece, later_split_piece, stale_run}
use Rattle.piece_rules.proofs.Kept.{later_is, split_later_is}
use Rattle.piece_rules.proofs.LaterPieces.{passes}
use Rattle.piece_rules.proofs.Stale.{up_to_date}
use Rattle.pieces.specs.Starts.{Start, First, Later, Begins, taken_by, lengths_lent}
use Rattle.pieces.specs.Taking.{Fresh}
use Rattle.pieces.proofs.Begun.{piece_by}

read_is : (m n : ℕ) (storage : Storage) (c a b : List Float) (words : List ℕ) (par : SolverParam) → read_problem (problem_of m n storage c a b words par) ≡ problem_of m n storage c a b (plain_words words) (as_read par)
unfolding read_problem
read_is m n storage c a b words par = refl

all_kept : {answer : PieceAnswer} {work cone log : List Float} → PieceAs (kept_with answer work cone log) answer work cone log
all_kept = record { answered = refl; work_left = refl; cone_left = refl; log_left = refl }

-- what a record that is not stale says
fresh : (r : RunRecord) (p : Problem) (work cone log : List Float) → stale_run r (lengths_with p work cone log) (read_problem p) ≡ false → Fresh r (read_problem p)
fresh r p work cone log e =
    let u = up_to_date r (lengths_with p work cone log) (read_problem p) e in
    record { steps = u.below; rotations = u.bounded; rows = u.few_rows }

pub begins_first : (p : Problem) → Begins First p
begins_first p = record { fresh = λ r e. let z : ◌≡◌ {A = ℕ} 0 1 = cc in absurd (omega arith) }

-- a piece with this record, if it has one
abbrev record_or : RunRecord → Start → RunRecord
record_or kept First = kept
record_or kept (Later r) = r

same_record : {r kept : RunRecord} → Later r ≡ Later kept → kept ≡ r
same_record e = cc

pub begins : (start : Start) {p : Problem} (kept : RunRecord) → record_or kept start ≡ kept → Fresh kept p → Begins start p
begins First {p} kept same f = begins_first p
begins (Later r) kept same f = record { fresh = λ r' e. rw (same_record e, same) f }

-- ---- what each entry comes to

module _ (p : Problem) (given : ℕ) (work cone log : List Float) where
  first_is : first_piece p given work cone log ≡ first_after (refusal p (length work) (length cone)) (first_taken given (lengths_with p work cone log) (read_problem p) work cone log) work cone log
  unfolding first_piece
  first_is = refl

  later_piece_is : (r : RunRecord) → later_piece p given work cone log r ≡ later_after (later_refusal r p (length work) (length cone) (length log)) (later_taken given r (lengths_with p work cone log) (read_problem p) work cone log) work cone log
  unfolding later_piece
  later_piece_is r = refl

  first_accepted : (found : Refusal) → found ≡ refusal p (length work) (length cone) → found ≡ Accepted → first_piece p given work cone log ≡ first_taken given (lengths_with p work cone log) (read_problem p) work cone log
  first_accepted found h is = first_is ∙ rw (← h, is)

  later_accepted : (r : RunRecord) (found : LaterTests) → found ≡ later_refusal r p (length work) (length cone) (length log) → found ≡ Taken → later_piece p given work cone log r ≡ later_taken given r (lengths_with p work cone log) (read_problem p) work cone log
  later_accepted r found h is = later_piece_is r ∙ rw (← h, is)

module _ (p : SplitProblem) (given : ℕ) (work cone log : List Float) where
  first_split_is : first_split_piece p given work cone log ≡ first_after (split_refusal p (length work) (length cone)) (first_taken given (lengths_with (joined_problem p) work cone log) (read_problem (joined_problem p)) work cone log) work cone log
  unfolding first_split_piece
  first_split_is = refl

  later_split_is : (r : RunRecord) → later_split_piece p given work cone log r ≡ later_after (later_split_refusal r p (length work) (length cone) (length log)) (later_taken given r (lengths_with (joined_problem p) work cone log) (read_problem (joined_problem p)) work cone log) work cone log
  unfolding later_split_piece
  later_split_is r = refl

  first_split_accepted : (found : Refusal) → found ≡ split_refusal p (length work) (length cone) → found ≡ Accepted → first_split_piece p given work cone log ≡ first_taken given (lengths_with (joined_problem p) work cone log) (read_problem (joined_problem p)) work cone log
  first_split_accepted found h is = first_split_is ∙ rw (← h, is)

  later_split_accepted : (r : RunRecord) (found : LaterTests) → found ≡ later_split_refusal r p (length work) (length cone) (length log) → found ≡ Taken → later_split_piece p given work cone log r ≡ later_taken given r (lengths_with (joined_problem p) work cone log) (read_problem (joined_problem p)) work cone log
  later_split_accepted r found h is = later_split_is r ∙ rw (← h, is)

-- ---- turned away

module _ (p : Problem) (given : ℕ) (work cone log : List Float) where
  pub first_turned_away : (e : Ending) (found : Refusal) → found ≡ refusal p (length work) (length cone) → found ≡ TurnedAway e → PieceAs (first_piece p given work cone log) (Refused e) work cone log
  first_turned_away e found h is = piece_by (first_is p given work cone log ∙ rw (← h, is)) all_kept

  pub later_turned_away : (r : RunRecord) (e : Ending) (found : LaterTests) → found ≡ later_refusal r p (length work) (length cone) (length log) → found ≡ Err (ByTest e) → PieceAs (later_piece p given work cone log r) (Refused e) work cone log
  later_turned_away r e found h is = piece_by (later_piece_is p given work cone log r ∙ rw (← h, is)) all_kept

  pub later_stale : (r : RunRecord) (found : LaterTests) → found ≡ later_refusal r p (length work) (length cone) (length log) → found ≡ Err StaleRun → PieceAs (later_piece p given work cone log r) Stale work cone log
  later_stale r found h is = piece_by (later_piece_is p given work cone log r ∙ rw (← h, is)) all_kept

module _ (p : SplitProblem) (given : ℕ) (work cone log : List Float) where
  pub first_split_turned_away : (e : Ending) (found : Refusal) → found ≡ split_refusal p (length work) (length cone) → found ≡ TurnedAway e → PieceAs (first_split_piece p given work cone log) (Refused e) work cone log
  first_split_turned_away e found h is = piece_by (first_split_is p given work cone log ∙ rw (← h, is)) all_kept

  pub later_split_turned_away : (r : RunRecord) (e : Ending) (found : LaterTests) → found ≡ later_split_refusal r p (length work) (length cone) (length log) → found ≡ Err (ByTest e) → PieceAs (later_split_piece p given work cone log r) (Refused e) work cone log
  later_split_turned_away r e found h is = piece_by (later_split_is p given work cone log r ∙ rw (← h, is)) all_kept

  pub later_split_stale : (r : RunRecord) (found : LaterTests) → found ≡ later_split_refusal r p (length work) (length cone) (length log) → found ≡ Err StaleRun → PieceAs (later_split_piece p given work cone log r) Stale work cone log
  later_split_stale r found h is = piece_by (later_split_is p given work cone log r ∙ rw (← h, is)) all_kept

-- ---- accepted

module _ (m n : ℕ) (storage : Storage) (c a b : List Float) (words : List ℕ) (par : SolverParam) (given : ℕ) (work cone log : List Float) where
  abbrev p : Problem
  p = problem_of m n storage c a b words par

  abbrev lent : SolverParam → Problem
  lent read = problem_in (whole_shape m n storage c a b words par work cone) c (slices a []) b (plain_words words) read

  as_lent : (read : SolverParam) → read ≡ as_read par → read_problem p ≡ lent read
  as_lent read e = rw (read_is m n storage c a b words par, append-nil a, e)

  pub first_went : (found : Refusal) → found ≡ refusal p (length work) (length cone) → found ≡ Accepted → (read : SolverParam) → read ≡ as_read par → {answer : PieceAnswer} {work' cone' log' : List Float} → PieceAs (taken_by First given (lengths_lent (whole_shape m n storage c a b words par work cone) words work cone log) (lent read) work cone log) answer work' cone' log' → PieceAs (first_piece p given work cone log) answer work' cone' log'
  first_went found h is read e l = piece_by (first_accepted p given work cone log found h is) (rw (as_lent read e) l)

  module _ (r : RunRecord) (found : LaterTests) (h : found ≡ later_refusal r p (length work) (length cone) (length log)) (is : found ≡ Taken) where
    passed : (refusal p (length work) (length cone) ≡ Accepted) × (stale_run r (lengths_with p work cone log) (read_problem p) ≡ false)
    passed = passes _ _ (sym (later_is r p (length work) (length cone) (length log)) ∙ sym h ∙ is)

    pub later_handed : (read : SolverParam) → read ≡ as_read par → Handed (whole_shape m n storage c a b words par work cone) c (slices a []) b words read work cone
    later_handed read e = handed m n storage c a b words par work cone Accepted (sym passed.0) refl read e

    pub later_fresh : (read : SolverParam) → read ≡ as_read par → Fresh r (lent read)
    later_fresh read e = rw (← as_lent read e) (fresh r p work cone log passed.1)

    pub later_went : (read : SolverParam) → read ≡ as_read par → {answer : PieceAnswer} {work' cone' log' : List Float} → PieceAs (taken_by (Later r) given (lengths_lent (whole_shape m n storage c a b words par work cone) words work cone log) (lent read) work cone log) answer work' cone' log' → PieceAs (later_piece p given work cone log r) answer work' cone' log'
    later_went read e l = piece_by (later_accepted p given work cone log r found h is) (rw (as_lent read e) l)

module _ (m n n1 : ℕ) (c factory lesson b : List Float) (words : List ℕ) (par : SolverParam) (given : ℕ) (work cone log : List Float) where
  abbrev sp : SplitProblem
  sp = split_of m n n1 c factory lesson b words par

  abbrev split_lent : SolverParam → Problem
  split_lent read = problem_in (split_shape m n n1 c factory lesson b words par work cone) c (slices factory lesson) b (plain_words words) read

  split_as_lent : (read : SolverParam) → read ≡ as_read par → read_problem (joined_problem sp) ≡ split_lent read
  split_as_lent read e = rw (read_is m n Dense c (factory ++ lesson) b words par, e)

  pub first_split_went : (found : Refusal) → found ≡ split_refusal sp (length work) (length cone) → found ≡ Accepted → (read : SolverParam) → read ≡ as_read par → {answer : PieceAnswer} {work' cone' log' : List Float} → PieceAs (taken_by First given (lengths_lent (split_shape m n n1 c factory lesson b words par work cone) words work cone log) (split_lent read) work cone log) answer work' cone' log' → PieceAs (first_split_piece sp given work cone log) answer work' cone' log'
  first_split_went found h is read e l = piece_by (first_split_accepted sp given work cone log found h is) (rw (split_as_lent read e) l)

  module _ (r : RunRecord) (found : LaterTests) (h : found ≡ later_split_refusal r sp (length work) (length cone) (length log)) (is : found ≡ Taken) where
    split_passed : (split_refusal sp (length work) (length cone) ≡ Accepted) × (stale_run r (lengths_with (joined_problem sp) work cone log) (read_problem (joined_problem sp)) ≡ false)
    split_passed = passes _ _ (sym (split_later_is r sp (length work) (length cone) (length log)) ∙ sym h ∙ is)

    pub later_split_handed : (read : SolverParam) → read ≡ as_read par → Handed (split_shape m n n1 c factory lesson b words par work cone) c (slices factory lesson) b words read work cone
    later_split_handed read e = split_handed m n n1 c factory lesson b words par work cone Accepted (sym split_passed.0) refl read e

    pub later_split_fresh : (read : SolverParam) → read ≡ as_read par → Fresh r (split_lent read)
    later_split_fresh read e = rw (← split_as_lent read e) (fresh r (joined_problem sp) work cone log split_passed.1)

    pub later_split_went : (read : SolverParam) → read ≡ as_read par → {answer : PieceAnswer} {work' cone' log' : List Float} → PieceAs (taken_by (Later r) given (lengths_lent (split_shape m n n1 c factory lesson b words par work cone) words work cone log) (split_lent read) work cone log) answer work' cone' log' → PieceAs (later_split_piece sp given work cone log r) answer work' cone' log'
    later_split_went read e l = piece_by (later_split_accepted sp given work cone log r found h is) (rw (split_as_lent read e) l)
