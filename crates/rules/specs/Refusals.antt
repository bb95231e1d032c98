-- Document 01, "When the hub is turned away": "Tests run in this order; the first that applies answers, and none is given otherwise. k = q = 0, and both
-- buffers keep their contents."
use Rattle.std.specs.Prelude.{ℕ, ◌≡◌, Bool, true, false, not, cond, ◌&&◌, ◌||◌, List, [], ◌∷◌, ltb, eqb, Float, length, Result, Ok, Err}
use Rattle.std.specs.Float.Ieee.{lt}
use Rattle.rules.specs.declared.Answer.{Answer}
use Rattle.rules.specs.declared.Ending.{Ending}
use Rattle.rules.specs.declared.Ending.TheVariants.{BadParam, TooLarge, InvalidOp, BadCone, NotFinite, WorkShortage}
use Rattle.rules.specs.declared.SolverParam.{SolverParam}
use Rattle.rules.specs.declared.Storage.{Storage}
use Rattle.rules.specs.declared.Storage.TheVariants.{Dense, Packed}
use Rattle.rules.specs.Limits.{limit, most_words, most_steps}
use Rattle.rules.specs.Helpers.{is_finite, all_finite}
use Rattle.rules.specs.Arithmetic.{+0}
use Rattle.rules.specs.Matrices.{stored_length}
use Rattle.rules.specs.Blocks.{is_bad_cone, blocks_of}
use Rattle.rules.specs.Groups.{plain_words}
use Rattle.rules.specs.Projections.{sweeps_fit}
use Rattle.rules.specs.Product.{cone_work}
use Rattle.rules.specs.Problem.{Problem, with_words, matrix_of, work_length, as_read}
use Rattle.rules.specs.Outcome.{OnPaper, turned_away, ends, on_paper}
use Rattle.rules.specs.Run.{Left, run, left_by}

-- the problem as the run reads it; by request (viii) of document 02 "an accepted grouped list runs as its plain blocks in order, so demands 2 and 3 read the
-- flattened list"
unfoldable pub read_problem : Problem → Problem
unfolding as_read plain_words
read_problem p =
    record { m = p.m; n = p.n; storage = p.storage; c = p.c; a = p.a; b = p.b; words = plain_words p.words; par = as_read p.par }

-- the problem with the plain words of its list
abbrev pub plain_problem : Problem → Problem
plain_problem p = with_words (plain_words p.words) p

-- an eps that is not finite or is below zero
abbrev pub bad_eps : Float → Bool
bad_eps eps = not (is_finite eps) || lt eps +0

abbrev pub bad_tolerance : SolverParam → Bool
bad_tolerance par = bad_eps par.eps_acc || bad_eps par.eps_inf || bad_eps par.eps_zero

-- the editions of sums
abbrev pub is_edition : ℕ → Bool
is_edition edition = eqb edition 1 || eqb edition 2

-- 1: "an eps is not finite, eps_zero < 0, max_iter or sweep limit outside its range"; by request (ii) of document 02 "also given when eps_acc or
-- eps_inf is below zero; −0 is still taken", and by (xi) "Any other edition number is BadParam."
unfoldable pub bad_param : SolverParam → Bool
unfolding lt
bad_param par = bad_tolerance par || ltb most_steps par.max_iter || not (sweeps_fit par) || not (is_edition par.«edition»)

-- 2: "n or m above 256, or more than 32 cone words"; by request (vii) of document 02 "TooLarge moves to 1,025 and 129", and by
-- (viii) "Group words count toward the list's limit"
abbrev pub large_sizes : ℕ → ℕ → List ℕ → Bool
large_sizes m n words = ltb limit n || ltb limit m || ltb most_words (length words)

unfoldable pub too_large : Problem → Bool
too_large p = large_sizes p.m p.n p.words

-- 3: "c, A or b of the wrong length, or packed with m ≠ n"
abbrev pub is_packed : Storage → Bool
is_packed Dense = false
is_packed Packed = true

abbrev pub wrong_lengths : ℕ → ℕ → Storage → List Float → List Float → List Float → Bool
wrong_lengths m n storage c a b =
    not (eqb (length c) n) || (is_packed storage && not (eqb m n))
    || not (eqb (length a) (stored_length (matrix_of storage m n))) || not (eqb (length b) m)

unfoldable pub invalid_op : Problem → Bool
invalid_op p = wrong_lengths p.m p.n p.storage p.c p.a p.b

-- 4: "a reserved kind, a kind 4 size not triangular, or sizes not summing to m": of the plain list that is read, in which a group that is too deep or runs past
-- its list counts as a word of a reserved kind
unfoldable pub bad_cone : Problem → Bool
unfolding is_bad_cone read_problem
bad_cone p = is_bad_cone (read_problem p).words (read_problem p).m

-- 5: "a number of c, A or b is infinite or NaN"
abbrev pub some_not_finite : List Float → List Float → List Float → Bool
some_not_finite c a b = not (all_finite c) || not (all_finite a) || not (all_finite b)

unfoldable pub not_finite : Problem → Bool
unfolding all_finite
not_finite p = some_not_finite p.c p.a p.b

-- 6: "either buffer too short", for the problem as it is read
abbrev pub short_buffers : ℕ → ℕ → List ℕ → ℕ → ℕ → Bool
short_buffers m n words work cone = ltb work (work_length m n) || ltb cone (cone_work (blocks_of words))

unfoldable pub work_shortage : Problem → ℕ → ℕ → Bool
unfolding cone_work blocks_of read_problem
work_shortage p work cone = short_buffers (read_problem p).m (read_problem p).n (read_problem p).words work cone

-- ---- the table

-- A row of a table of refusals: the refusal, and whether its fact holds.
pub data Fact (R : Type 0) : Type 0 where
  ◌when◌ : R → Bool → Fact R

infix 75 ◌when◌
-- "the first that applies answers, and none is given otherwise": of any such table
pub data First (R : Type 0) : Type 0 where
  none_applies : First R
  applies : R → First R

unfoldable pub first_of : {R : Type 0} → List (Fact R) → First R
first_of [] = none_applies
first_of ((r when holds) ∷ rows) = cond holds (applies r) (first_of rows)

-- "Tests run in this order"
abbrev pub facts : Problem → ℕ → ℕ → List (Fact Ending)
facts p work cone =
    (BadParam when bad_param p.par)
    ∷ (TooLarge when too_large p)
    ∷ (InvalidOp when invalid_op p)
    ∷ (BadCone when bad_cone p)
    ∷ (NotFinite when not_finite p)
    ∷ (WorkShortage when work_shortage p work cone)
    ∷ []

-- what the six tests say of a problem: nothing against it, or the ending with which it is turned away
abbrev pub Refusal : Type 0
Refusal = Result (Unit {0}) Ending

pattern abbrev pub Accepted : Refusal
Accepted = Ok tt

pattern abbrev pub Refused : Ending → Refusal
Refused e = Err e

abbrev pub as_refusal : First Ending → Refusal
as_refusal none_applies = Accepted
as_refusal (applies e) = Refused e

unfoldable pub refusal : Problem → ℕ → ℕ → Refusal
unfolding first_of bad_param too_large invalid_op bad_cone not_finite work_shortage
refusal p work cone = as_refusal (first_of (facts p work cone))

-- the number of a refusal on paper; an ending of a run has none
abbrev pub refusal_on : OnPaper → ℕ
refusal_on (turned_away i) = i
refusal_on (ends row criteria failure solution) = 0

abbrev pub number_of : Ending → ℕ
number_of e = refusal_on (on_paper e)

-- ---- the whole outcome

abbrev pub left_turned_away : Ending → List Float → List Float → Left
left_turned_away e work cone = record { answer = record { ending = e; steps = 0; rotations = 0 }; work = work; cone = cone }

abbrev pub left_after : Refusal → Left → List Float → List Float → Left
left_after Accepted ran work cone = ran
left_after (Refused e) ran work cone = left_turned_away e work cone

unfoldable pub solved : Problem → List Float → List Float → Left
unfolding refusal read_problem run left_by
solved p work cone =
    let q = read_problem p in
    let ran = left_by q work cone (run q) in
    left_after (refusal p (length work) (length cone)) ran work cone

-- The solver's complete outcome: it answers by the rule, and both buffers hold what the rule says, place by place, on refusal too.
pub record SolveOutcome (p : Problem) (work cone : List Float) (answer : Answer) (work' cone' : List Float) : Type 0 where
  pub answered : answer ≡ (solved p work cone).answer
  pub work_left : work' ≡ (solved p work cone).work
  pub cone_left : cone' ≡ (solved p work cone).cone
