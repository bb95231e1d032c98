-- Request (xii) of document 02, cases worked by hand, as rows of one table. `proofs/Worked.antt` proves the one claim that every row holds.
use Rattle.std.specs.Prelude.{ℕ, Bool, true, false, List, [], ◌∷◌, pos, replicate, take, Float, Err}
use Rattle.std.specs.Float.{nan, inf, fin, binary64}
use Rattle.std.specs.Float.Ieee.{of_bits, of_int}
use Rattle.rules.specs.declared.Ending.{Ending}
use Rattle.rules.specs.declared.Ending.TheVariants.{Converged, ExcessIterUnscaled, WorkShortage}
use Rattle.rules.specs.declared.Logged.{Logged}
use Rattle.rules.specs.declared.SolverParam.{SolverParam}
use Rattle.rules.specs.declared.Storage.TheVariants.{Dense}
use Rattle.rules.specs.Arithmetic.{+0}
use Rattle.rules.specs.Parameters.{param_of, with_eps_zero, defaults}
use Rattle.rules.specs.Problem.{Problem}
use Rattle.rules.specs.Demands.{with_period}
use Rattle.rules.specs.WorkedByHand.{Row, ◌comes-to◌}
use Rattle.piece_rules.specs.declared.LaterRefusal.TheVariants.{StaleRun}
use Rattle.piece_rules.specs.declared.PieceAnswer.TheVariants.{Refused, StaleRun as Stale, Halted, Ended}
use Rattle.piece_rules.specs.declared.RunRecord.{RunRecord}
use Rattle.piece_rules.specs.Pieces.{Later, Taken, PieceLeft, lengths_of, later_refusal, kept_with, first_piece, later_piece}
use Rattle.piece_rules.specs.InPieces.{in_pieces}

abbrev f64 : ℕ → Float
f64 bits = of_bits binary64 bits

abbrev whole : ℕ → Float
whole n = of_int binary64 (pos n)

-- n = m = 0
abbrev empty : SolverParam → Problem
empty par = record { m = 0; n = 0; storage = Dense; c = []; a = []; b = []; words = []; par = par }

-- the defaults by their bits, with at most so many steps
abbrev patterns : ℕ → SolverParam
patterns max_iter = param_of max_iter (f64 0x3eb0_c6f7_a0b5_ed8d) (f64 0x3eb0_c6f7_a0b5_ed8d) (f64 0x3d71_9799_812d_ea11) 64

abbrev by_default : Problem
by_default = empty (patterns 1_000_000)

-- places that held 5 before
abbrev held : ℕ → List Float
held k = replicate k (whole 5)

-- −0, and 1,000,000,000,000, which is 1 divided by the eps_zero of the defaults
abbrev −0 : Float
−0 = f64 0x8000_0000_0000_0000

abbrev 10^12 : Float
10^12 = fin false 244_140_625 (pos 12)

-- eps_zero 0, so that tau is not above it, at most so many steps
abbrev unscaled : ℕ → SolverParam
unscaled max_iter = with_eps_zero (patterns max_iter) +0

-- .. with rows at steps 1, 4 and 7
abbrev recorded : Problem
recorded = with_period 3 (empty (unscaled 7))

-- one semidefinite block of order 2, m = 3, by default
abbrev semidefinite : Problem
semidefinite = record { m = 3; n = 0; storage = Dense; c = []; a = []; b = replicate 3 +0; words = 0x8003 ∷ []; par = patterns 1_000_000 }

-- the record of a problem in buffers of three lengths, after k steps, q rotations and so many rows
abbrev record_at : Problem → ℕ → ℕ → ℕ → Float → ℕ → ℕ → ℕ → ℕ → Bool → RunRecord
record_at p work cone log tau k q written dropped ended =
    record {
      lengths = lengths_of p work cone log;
      par = p.par;
      norms = record { b = +0; c = +0 };
      tau = tau;
      steps = k;
      rotations = q;
      written = written;
      dropped = dropped;
      ended = ended;
    }

-- n = 1, m = 0 and c = 1, by default; a record of it before its first step, with tau 2, and work with x = 3, tau = 5 and all else +0, so that no step moves anything
abbrev one_column : Problem
one_column = record { m = 0; n = 1; storage = Dense; c = whole 1 ∷ []; a = []; b = []; words = []; par = patterns 1_000_000 }

abbrev one_step : PieceLeft
one_step = later_piece one_column 1 (whole 3 ∷ whole 5 ∷ replicate 10 +0) [] [] (record_at one_column 12 0 0 (whole 2) 0 0 0 0 false)

-- the same with other parameters
abbrev with_par : SolverParam → RunRecord → RunRecord
with_par par r =
    record {
      lengths = r.lengths;
      par = par;
      norms = r.norms;
      tau = r.tau;
      steps = r.steps;
      rotations = r.rotations;
      written = r.written;
      dropped = r.dropped;
      ended = r.ended;
    }

-- the empty problem by default before its first step, in seven places, and what stands in these
abbrev started : RunRecord
started = record_at by_default 7 0 0 (whole 1) 0 0 0 0 false

abbrev ready : List Float
ready = whole 1 ∷ +0 ∷ 10^12 ∷ 10^12 ∷ +0 ∷ +0 ∷ held 1

-- what turns away a later piece of the problem, with this record and buffers of the lengths that it has
abbrev again : Problem → RunRecord → Later
again p r = later_refusal r p r.lengths.work r.lengths.cone_work r.lengths.log

-- .. of seven steps with no row due, after k steps, q rotations and so many rows; and of the semidefinite block after one step
abbrev after : ℕ → ℕ → ℕ → ℕ → Later
after k q written dropped = again (empty (unscaled 7)) (record_at (empty (unscaled 7)) 6 0 9 +0 k q written dropped false)

abbrev rotated : ℕ → Later
rotated q = again semidefinite (record_at semidefinite 36 16 0 (whole 1) 1 q 0 0 false)

abbrev answered : Ending → ℕ → ℕ → ℕ → Logged
answered e k written dropped = record { answer = record { ending = e; steps = k; rotations = 0 }; written = written; dropped = dropped }

abbrev pub table : List Row
table =
    (defaults 1_000_000 64 comes-to patterns 1_000_000)
    -- a first piece of 0 steps zeroes and prepares, and leaves the places beyond; one that is turned away has no record
    ∷ (first_piece by_default 0 (held 7) [] [] comes-to kept_with (Halted started) ready [] [])
    ∷ (first_piece by_default 0 (held 5) [] [] comes-to kept_with (Refused WorkShortage) (held 5) [] [])
    -- taken up by 0 steps nothing changes; by 1 step it ends; and then it is stale, unless an earlier test applies
    ∷ (later_piece by_default 0 ready [] [] started comes-to kept_with (Halted started) ready [] [])
    ∷ ((in_pieces by_default 0 (0 ∷ 1 ∷ []) (held 7) [] []).answer comes-to Ended (answered (Converged +0 +0 +0) 1 0 0) (record_at by_default 7 0 0 (whole 1) 1 0 0 0 true))
    ∷ (later_piece by_default 1 (held 7) [] [] (record_at by_default 7 0 0 (whole 1) 1 0 0 0 true) comes-to kept_with Stale (held 7) [] [])
    ∷ (later_piece by_default 1 (held 5) [] [] (record_at by_default 7 0 0 (whole 1) 1 0 0 0 true) comes-to kept_with (Refused WorkShortage) (held 5) [] [])
    -- tau is the record's
    ∷ (take 1 (later_piece by_default 1 ready [] [] (record_at by_default 7 0 0 (whole 2) 0 0 0 0 false)).work comes-to (whole 2 ∷ []))
    -- a piece that halts leaves x as it is, though tau is 2
    ∷ (take 2 one_step.work comes-to (whole 3 ∷ whole 2 ∷ []))
    ∷ (one_step.answer comes-to Halted (record_at one_column 12 0 0 (whole 2) 1 0 0 0 false))
    -- stale by another length of a buffer; by an eps_acc of NaN, a max_iter of 0 for 1 or another period, but not by an eps_zero of −0 for +0
    ∷ (again by_default started comes-to Taken)
    ∷ (later_refusal started by_default 7 0 1 comes-to Err StaleRun)
    ∷ (again by_default (with_par (param_of 1_000_000 nan (f64 0x3eb0_c6f7_a0b5_ed8d) (f64 0x3d71_9799_812d_ea11) 64) started) comes-to Err StaleRun)
    ∷ (again (empty (patterns 1)) (record_at (empty (patterns 0)) 7 0 0 (whole 1) 0 0 0 0 false) comes-to Err StaleRun)
    ∷ (again (with_period 1 by_default) started comes-to Err StaleRun)
    ∷ (again (empty (unscaled 7)) (record_at (empty (with_eps_zero (patterns 7) −0)) 6 0 0 (whole 1) 0 0 0 0 false) comes-to Taken)
    ∷ (again (empty (with_eps_zero (patterns 7) −0)) (record_at (empty (unscaled 7)) 6 0 0 (whole 1) 0 0 0 0 false) comes-to Taken)
    -- by k at the allowance; by q above k × sweep limit × d(d−1), which is 128; by rows written and dropped above k, the last two together 2^64
    ∷ (after 6 0 0 0 comes-to Taken)
    ∷ (after 7 0 0 0 comes-to Err StaleRun)
    ∷ (after 6 1 0 0 comes-to Err StaleRun)
    ∷ (rotated 128 comes-to Taken)
    ∷ (rotated 129 comes-to Err StaleRun)
    ∷ (after 3 0 2 1 comes-to Taken)
    ∷ (after 3 0 2 2 comes-to Err StaleRun)
    ∷ (after 3 0 0xffff_ffff_ffff_ffff 1 comes-to Err StaleRun)
    -- a run of seven steps with rows at 1, 4 and 7 in nine places, cut into 2, 0, 3 and 9: after three pieces, and at its end, as uncut
    ∷ ((in_pieces recorded 2 (0 ∷ 3 ∷ []) (held 6) [] (held 9)).answer comes-to Halted (record_at recorded 6 0 9 +0 5 0 2 0 false))
    ∷ ((in_pieces recorded 2 (0 ∷ 3 ∷ 9 ∷ []) (held 6) [] (held 9)).answer comes-to Ended (answered (ExcessIterUnscaled (inf false) (inf false)) 7 2 1) (record_at recorded 6 0 9 +0 7 0 2 1 true))
    ∷ ((in_pieces recorded 2 (0 ∷ 3 ∷ 9 ∷ []) (held 6) [] (held 9)).log comes-to (+0 ∷ inf false ∷ inf false ∷ +0 ∷ +0 ∷ inf false ∷ inf false ∷ +0 ∷ held 1))
    ∷ []
