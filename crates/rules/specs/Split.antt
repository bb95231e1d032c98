-- Document 02, request (v): "Calibration columns sit in read-only memory, the lesson's in another buffer. Accept dense A as two slices, the first n1 columns in
-- one, the rest in the other."
use Rattle.std.specs.Prelude.{ℕ, ◌-◌, ◌*◌, ◌≤◌, ◌≡◌, Bool, not, cond, ◌&&◌, ◌||◌, List, [], ◌∷◌, ◌++◌, leb, ltb, eqb, Float, length}
use Rattle.rules.specs.declared.Answer.{Answer}
use Rattle.rules.specs.declared.Ending.{Ending}
use Rattle.rules.specs.declared.Ending.TheVariants.{BadParam, TooLarge, InvalidOp, BadCone, NotFinite, WorkShortage}
use Rattle.rules.specs.declared.SolverParam.{SolverParam}
use Rattle.rules.specs.declared.Storage.TheVariants.{Dense}
use Rattle.rules.specs.Limits.{limit}
use Rattle.rules.specs.Groups.{plain_words}
use Rattle.rules.specs.Problem.{Problem, problem_of}
use Rattle.rules.specs.Step.{part}
use Rattle.rules.specs.Run.{Left, run, left_by}
use Rattle.rules.specs.Refusals.{Refusal, Fact, ◌when◌, first_of, as_refusal, bad_param, too_large, bad_cone, not_finite, work_shortage, read_problem, left_after}

-- m rows and n columns by columns: the factory slice holds the first n1 of them, the lesson slice the rest
abbrev pub split_lengths : ℕ → ℕ → ℕ → List Float → List Float → Bool
split_lengths m n n1 factory lesson = leb n1 n && eqb (length factory) (m * n1) && eqb (length lesson) (m * (n - n1))

-- the same of sizes within the limits
abbrev pub split_fits : ℕ → ℕ → ℕ → List Float → List Float → Bool
split_fits m n n1 factory lesson = leb m limit && leb n limit && split_lengths m n n1 factory lesson

-- the same, part by part
pub record SplitStored (m n n1 : ℕ) (factory lesson : List Float) : Type 0 where
  pub m_within : m ≤ limit
  pub n_within : n ≤ limit
  pub cut : n1 ≤ n
  pub first_long : length factory ≡ m * n1
  pub rest_long : length lesson ≡ m * (n - n1)

-- .. and x and y have the lengths that the sizes say, or those of the matrix transposed
abbrev pub split_transform_fits : Bool → ℕ → ℕ → ℕ → List Float → List Float → List Float → List Float → Bool
split_transform_fits transpose m n n1 factory lesson x y =
    split_fits m n n1 factory lesson && eqb (length x) (cond transpose m n) && eqb (length y) (cond transpose n m)

-- "A column asked for is shown as a part of whichever slice holds it, without a copy. The part is empty if a slice's length is wrong or there is no such column.":
-- also where n1 is above n, and, by 01's plain no, above the limits
unfoldable pub column_shown : ℕ → ℕ → ℕ → List Float → List Float → ℕ → List Float
column_shown m n n1 factory lesson k =
    cond (split_fits m n n1 factory lesson && ltb k n)
    (cond (ltb k n1) (part (k * m) m factory) (part ((k - n1) * m) m lesson))
    []

-- ---- a problem whose dense A stands in two slices

pub record SplitProblem : Type 0 where
  pub m : ℕ
  pub n : ℕ
  pub n1 : ℕ
  pub c : List Float
  pub factory : List Float
  pub lesson : List Float
  pub b : List Float
  pub words : List ℕ
  pub par : SolverParam

-- the problem of these parts
abbrev pub split_of : ℕ → ℕ → ℕ → List Float → List Float → List Float → List Float → List ℕ → SolverParam → SplitProblem
split_of m n n1 c factory lesson b words par =
    record {
      m = m;
      n = n;
      n1 = n1;
      c = c;
      factory = factory;
      lesson = lesson;
      b = b;
      words = words;
      par = par;
    }

-- its slices have the lengths that its sizes say
abbrev pub slices_fit : SplitProblem → Bool
slices_fit p = split_lengths p.m p.n p.n1 p.factory p.lesson

-- the problem over the joined matrix
abbrev pub joined_problem : SplitProblem → Problem
joined_problem p = problem_of p.m p.n Dense p.c (p.factory ++ p.lesson) p.b p.words p.par

-- the same with the plain words of its list
abbrev pub plain_split : SplitProblem → SplitProblem
plain_split p = split_of p.m p.n p.n1 p.c p.factory p.lesson p.b (plain_words p.words) p.par

-- ---- when it is turned away

-- 3: "InvalidOp covers each slice's length and n1 above n", and c and b of the wrong length as ever
unfoldable pub invalid_split : SplitProblem → Bool
invalid_split p = not (eqb (length p.c) p.n) || not (slices_fit p) || not (eqb (length p.b) p.m)

-- the table, in 01's order: all other facts are those of the problem over the joined matrix; "NotFinite reads both"
abbrev pub split_facts : SplitProblem → ℕ → ℕ → List (Fact Ending)
split_facts p work cone =
    (BadParam when bad_param p.par)
    ∷ (TooLarge when too_large (joined_problem p))
    ∷ (InvalidOp when invalid_split p)
    ∷ (BadCone when bad_cone (joined_problem p))
    ∷ (NotFinite when not_finite (joined_problem p))
    ∷ (WorkShortage when work_shortage (joined_problem p) work cone)
    ∷ []

unfoldable pub split_refusal : SplitProblem → ℕ → ℕ → Refusal
unfolding first_of bad_param too_large invalid_split bad_cone not_finite work_shortage
split_refusal p work cone = as_refusal (first_of (split_facts p work cone))

-- ---- the whole outcome: "the run equal to the run over the joined matrix"

unfoldable pub split_solved : SplitProblem → List Float → List Float → Left
unfolding split_refusal read_problem run left_by
split_solved p work cone =
    let q = read_problem (joined_problem p) in
    let ran = left_by q work cone (run q) in
    left_after (split_refusal p (length work) (length cone)) ran work cone

-- It answers by the rule, and both buffers hold what the rule says, place by place, on refusal too.
pub record SplitOutcome (p : SplitProblem) (work cone : List Float) (answer : Answer) (work' cone' : List Float) : Type 0 where
  pub answered : answer ≡ (split_solved p work cone).answer
  pub work_left : work' ≡ (split_solved p work cone).work
  pub cone_left : cone' ≡ (split_solved p work cone).cone
