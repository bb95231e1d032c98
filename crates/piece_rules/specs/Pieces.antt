-- Document 02, request (xii): "Stop in the evening, go on in the morning. Add a run that halts after a given number of steps without an ending and is taken up
-- later from its buffers and a small record".
use Rattle.std.specs.Prelude.{ℕ, zero, suc, ◌+◌, ◌-◌, ◌*◌, ◌≡◌, Bool, true, false, not, ◌&&◌, ◌||◌, List, [], ◌∷◌, ◌++◌, leb, ltb, eqb, Float, length, take, drop, set, Result, Ok, Err}
use Rattle.std.specs.Float.{binary64}
use Rattle.std.specs.Float.Ieee.{to_bits}
use Rattle.rules.specs.declared.Cone.{Cone}
use Rattle.rules.specs.declared.Ending.{Ending}
use Rattle.piece_rules.specs.declared.LaterRefusal.{LaterRefusal}
use Rattle.piece_rules.specs.declared.LaterRefusal.TheVariants.{Refused as ByTest, StaleRun}
use Rattle.piece_rules.specs.declared.RunLengths.{RunLengths}
use Rattle.rules.specs.declared.Norms.{Norms}
use Rattle.piece_rules.specs.declared.PieceAnswer.{PieceAnswer}
use Rattle.piece_rules.specs.declared.PieceAnswer.TheVariants.{Refused, StaleRun as Stale, Halted, Ended}
use Rattle.piece_rules.specs.declared.RunRecord.{RunRecord}
use Rattle.rules.specs.declared.SolverParam.{SolverParam}
use Rattle.rules.specs.Arithmetic.{at}
use Rattle.rules.specs.Product.{cone_work}
use Rattle.rules.specs.Problem.{Problem, blocks, as_read, length_x, length_y, work_length}
use Rattle.rules.specs.Step.{State, part}
use Rattle.rules.specs.Prepare.{prepared, prepared_norms}
use Rattle.rules.specs.Run.{Verdict, GoesOn, Ends, Piece, piece_from, allowance, ended_by, left_by}
use Rattle.rules.specs.Refusals.{Refusal, Accepted, Refused as TurnedAway, Fact, ◌when◌, First, none_applies, applies, first_of, facts, refusal, read_problem, number_of}
use Rattle.rules.specs.Split.{SplitProblem, joined_problem, split_facts, split_refusal}
use Rattle.rules.specs.Progress.{Log, untouched, log_from, with_log}
use Rattle.rules.specs.Demands.{all_pairs_twice}

-- ---- what a piece answers and leaves

pub record PieceLeft : Type 0 where
  pub answer : PieceAnswer
  pub work : List Float
  pub cone : List Float
  pub log : List Float

-- "lengths (n, m, number of cone words, the three buffers)"
abbrev pub lengths_of : Problem → ℕ → ℕ → ℕ → RunLengths
lengths_of p work cone log =
    record { cols = p.n; rows = p.m; words = length p.words; work = work; cone_work = cone; log = log }

-- .. of buffers as they are lent
abbrev pub lengths_with : Problem → List Float → List Float → List Float → RunLengths
lengths_with p work cone log = lengths_of p (length work) (length cone) (length log)

-- ".., parameters, norms, tau, k, q, rows written and dropped, and whether it has ended": tau is the one that stands in work
abbrev pub record_of : RunLengths → Problem → Norms → List Float → Piece → Log → Bool → RunRecord
record_of lengths p ns work c log ended =
    record {
      lengths = lengths;
      par = p.par;
      norms = ns;
      tau = at work (p.n + p.m + p.m);
      steps = c.steps;
      rotations = c.rotations;
      written = log.written;
      dropped = log.dropped;
      ended = ended;
    }

-- the six vectors of a state, one after another
abbrev pub in_work : State → List Float
in_work s = s.x ++ s.y ++ s.dp_tau ++ s.dp_sigma ++ s.rx ++ s.tx

-- "a piece that halts leaves all buffers as after its last step, unscaled"
abbrev pub left_halted : RunLengths → Problem → Norms → List Float → List Float → Piece → Log → PieceLeft
left_halted lengths p ns work cone c log =
    let work' = in_work c.state ++ drop (work_length p.m p.n) work in
    record {
      answer = Halted (record_of lengths p ns work' c log false);
      work = work';
      cone = c.state.cone ++ drop (cone_work (blocks p)) cone;
      log = log.places;
    }

-- one that ends leaves them as a run does, and answers as it does
abbrev pub left_ended : RunLengths → Problem → Norms → List Float → List Float → Piece → Log → PieceLeft
left_ended lengths p ns work cone c log =
    let left = with_log (left_by p work cone (ended_by c)) log in
    record {
      answer = Ended left.answer (record_of lengths p ns left.work c log true);
      work = left.work;
      cone = left.cone;
      log = left.log;
    }

abbrev pub left_by_piece : Verdict → RunLengths → Problem → Norms → List Float → List Float → Piece → Log → PieceLeft
left_by_piece GoesOn = left_halted
left_by_piece (Ends e) = left_ended

-- At most so many steps from s, of the problem as it is read, when k steps, q rotations and a progress record are behind.
unfoldable pub steps_taken : ℕ → RunLengths → Problem → Norms → ℕ → ℕ → State → Log → List Float → List Float → PieceLeft
unfolding piece_from log_from left_by cone_work
steps_taken given lengths p ns k q s log work cone =
    let c = piece_from given p ns k q s in
    left_by_piece c.said lengths p ns work cone c (log_from p ns k s log (c.steps - k))

-- ---- the first piece

-- "A first piece of 0 steps zeroes and prepares as a run does before its first step": what is prepared, and then the steps, none or more
abbrev pub first_taken : ℕ → RunLengths → Problem → List Float → List Float → List Float → PieceLeft
first_taken given lengths p work cone log =
    steps_taken given lengths p (prepared_norms p) 0 0 (prepared p) (untouched log) work cone

-- ---- a later piece

-- what the buffers hold, as the six vectors of a state and its cone work
unfoldable pub from_work : Problem → List Float → List Float → State
unfolding cone_work
from_work p work cone =
    let lx = length_x p.m p.n in
    let ly = length_y p.m p.n in
    record {
      x = part 0 lx work;
      y = part lx ly work;
      dp_tau = part (lx + ly) lx work;
      dp_sigma = part (lx + ly + lx) ly work;
      rx = part (lx + ly + lx + ly) lx work;
      tx = part (lx + ly + lx + ly + lx) lx work;
      cone = take (cone_work (blocks p)) cone;
    }

-- the same state with another tau
abbrev pub with_tau : Problem → Float → State → State
with_tau p tau s =
    record {
      x = set s.x (p.n + p.m + p.m) tau;
      y = s.y;
      dp_tau = s.dp_tau;
      dp_sigma = s.dp_sigma;
      rx = s.rx;
      tx = s.tx;
      cone = s.cone;
    }

-- the progress record as a run record and its buffer hold it
abbrev pub log_kept : RunRecord → List Float → Log
log_kept r log = record { places = log; written = r.written; dropped = r.dropped }

-- "01's steps taken from what record and buffers hold when it is called, altered or not": tau from the record, all else of the state from the buffers. A later piece of 0 steps "changes nothing".
abbrev pub later_taken : ℕ → RunRecord → RunLengths → Problem → List Float → List Float → List Float → PieceLeft
later_taken zero r lengths p work cone log = record { answer = Halted r; work = work; cone = cone; log = log }
later_taken (suc more) r lengths p work cone log =
    steps_taken (suc more) lengths p r.norms r.steps r.rotations (with_tau p r.tau (from_work p work cone)) (log_kept r log) work cone

-- ---- when a later piece is turned away

-- "as bits"; a NaN has the bits of no tolerance that is taken
abbrev pub same_bits : Float → Float → Bool
same_bits a b = eqb (to_bits binary64 a) (to_bits binary64 b)

unfoldable pub same_lengths : RunLengths → RunLengths → Bool
same_lengths one other =
    eqb one.cols other.cols && eqb one.rows other.rows && eqb one.words other.words
    && eqb one.work other.work && eqb one.cone_work other.cone_work && eqb one.log other.log

-- of parameters as they are read: "eps_zero −0 as +0"
unfoldable pub same_param : SolverParam → SolverParam → Bool
unfolding to_bits
same_param one other =
    eqb one.max_iter other.max_iter && same_bits one.eps_acc other.eps_acc
    && same_bits one.eps_inf other.eps_inf && same_bits one.eps_zero other.eps_zero
    && eqb one.sweep_limit other.sweep_limit && eqb one.log_period other.log_period
    && eqb one.«edition» other.«edition»

-- "demand 3's bound for that k"
abbrev pub most_rotations : SolverParam → List Cone → ℕ → ℕ
most_rotations par bs k = k * (par.sweep_limit * all_pairs_twice bs)

-- 7: "lengths or parameters (as bits, eps_zero −0 as +0) differ from the record, its k is not below the allowance, its q is above demand 3's bound for that k, its rows written
-- and dropped together exceed k, or the run has ended"; of the problem as it is read
unfoldable pub stale_run : RunRecord → RunLengths → Problem → Bool
unfolding same_lengths same_param as_read all_pairs_twice
stale_run r lengths p =
    not (same_lengths r.lengths lengths) || not (same_param (as_read r.par) p.par)
    || leb (allowance p.par) r.steps || ltb (most_rotations p.par (blocks p) r.steps) r.rotations
    || ltb r.steps (r.written + r.dropped) || r.ended

-- "a new refusal 7, StaleRun, after check 6": a table of the refusals of a run, and then that one
unfoldable pub by_tests : List (Fact Ending) → List (Fact LaterRefusal)
by_tests [] = []
by_tests ((e when holds) ∷ rows) = (ByTest e when holds) ∷ by_tests rows

abbrev pub then_stale : List (Fact Ending) → Bool → List (Fact LaterRefusal)
then_stale rows stale = by_tests rows ++ (StaleRun when stale) ∷ []

-- what the seven tests say of a later piece: nothing against it, or why it is turned away
abbrev pub Later : Type 0
Later = Result (Unit {0}) LaterRefusal

pattern abbrev pub Taken : Later
Taken = Ok tt

abbrev pub as_later : First LaterRefusal → Later
as_later none_applies = Taken
as_later (applies r) = Err r

-- of buffers of these lengths
module _ (r : RunRecord) (p : Problem) (work cone log : ℕ) where
  abbrev pub later_facts : List (Fact LaterRefusal)
  later_facts = then_stale (facts p work cone) (stale_run r (lengths_of p work cone log) (read_problem p))

  unfoldable pub later_refusal : Later
  unfolding first_of by_tests refusal stale_run read_problem
  later_refusal = as_later (first_of later_facts)

module _ (r : RunRecord) (p : SplitProblem) (work cone log : ℕ) where
  abbrev pub later_split_facts : List (Fact LaterRefusal)
  later_split_facts =
      then_stale (split_facts p work cone) (stale_run r (lengths_of (joined_problem p) work cone log) (read_problem (joined_problem p)))

  unfoldable pub later_split_refusal : Later
  unfolding first_of by_tests split_refusal stale_run read_problem
  later_split_refusal = as_later (first_of later_split_facts)

-- the number of what a piece answers where it is turned away, and 0 where it is not
abbrev pub piece_number : PieceAnswer → ℕ
piece_number (Refused e) = number_of e
piece_number Stale = 7
piece_number (Halted r) = 0
piece_number (Ended answer r) = 0

-- what a piece counts: steps k, rotations q, rows written and dropped. Turned away it counts nothing: "k = q = 0", and (x)'s "answers 0 for both counts".
pub record PieceCounts : Type 0 where
  pub steps : ℕ
  pub rotations : ℕ
  pub written : ℕ
  pub dropped : ℕ

abbrev pub no_counts : PieceCounts
no_counts = record { steps = 0; rotations = 0; written = 0; dropped = 0 }

abbrev pub piece_counts : PieceAnswer → PieceCounts
piece_counts (Refused e) = no_counts
piece_counts Stale = no_counts
piece_counts (Halted r) = record { steps = r.steps; rotations = r.rotations; written = r.written; dropped = r.dropped }
piece_counts (Ended answer r) =
    record { steps = answer.answer.steps; rotations = answer.answer.rotations; written = answer.written; dropped = answer.dropped }

abbrev pub later_number : LaterRefusal → ℕ
later_number (ByTest e) = number_of e
later_number StaleRun = 7

-- ---- the whole outcome

abbrev pub kept_with : PieceAnswer → List Float → List Float → List Float → PieceLeft
kept_with answer work cone log = record { answer = answer; work = work; cone = cone; log = log }

abbrev pub first_after : Refusal → PieceLeft → List Float → List Float → List Float → PieceLeft
first_after Accepted taken work cone log = taken
first_after (TurnedAway e) taken work cone log = kept_with (Refused e) work cone log

-- "the answer is a new refusal 7, StaleRun, .. with all kept"
abbrev pub later_after : Later → PieceLeft → List Float → List Float → List Float → PieceLeft
later_after Taken taken work cone log = taken
later_after (Err (ByTest e)) taken work cone log = kept_with (Refused e) work cone log
later_after (Err StaleRun) taken work cone log = kept_with Stale work cone log

module _ (p : Problem) (given : ℕ) (work cone log : List Float) where
  unfoldable pub first_piece : PieceLeft
  unfolding refusal read_problem steps_taken prepared
  first_piece =
      first_after (refusal p (length work) (length cone))
      (first_taken given (lengths_with p work cone log) (read_problem p) work cone log) work cone log

  unfoldable pub later_piece : RunRecord → PieceLeft
  unfolding later_refusal read_problem steps_taken from_work
  later_piece r =
      later_after (later_refusal r p (length work) (length cone) (length log))
      (later_taken given r (lengths_with p work cone log) (read_problem p) work cone log) work cone log

-- the same of a problem whose A stands in two slices
module _ (p : SplitProblem) (given : ℕ) (work cone log : List Float) where
  unfoldable pub first_split_piece : PieceLeft
  unfolding split_refusal read_problem steps_taken prepared
  first_split_piece =
      first_after (split_refusal p (length work) (length cone))
      (first_taken given (lengths_with (joined_problem p) work cone log) (read_problem (joined_problem p)) work cone log) work cone log

  unfoldable pub later_split_piece : RunRecord → PieceLeft
  unfolding later_split_refusal read_problem steps_taken from_work
  later_split_piece r =
      later_after (later_split_refusal r p (length work) (length cone) (length log))
      (later_taken given r (lengths_with (joined_problem p) work cone log) (read_problem (joined_problem p)) work cone log) work cone log

-- It answers by the rule, and all three buffers hold what the rule says, place by place, on refusal too.
pub record PieceAs (left : PieceLeft) (answer : PieceAnswer) (work cone log : List Float) : Type 0 where
  pub answered : answer ≡ left.answer
  pub work_left : work ≡ left.work
  pub cone_left : cone ≡ left.cone
  pub log_left : log ≡ left.log
