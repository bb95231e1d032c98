-- What a piece that halts leaves in its buffers is read back from them by the next, and what turns a later piece away is what turns a run away, or the stale record.
use Prim.Native.Nat.{ℕ, ◌+◌, ◌<◌}
use native.Mathlib.Omega.{arith}
use mathlib.Core.Path.{◌≡◌, refl, ◌∙◌, ap}
use mathlib.Core.Bool.{Bool, true, false}
use mathlib.Core.List.{List, [], ◌∷◌, ◌++◌, append_assoc}
use Rattle.std.specs.Prelude.{Err}
use lib.Ieee.{Float, nan}
use lib.ListN.{length, length-append, get_or-append}
use lib.Seq.{take_at, drop_at, set-get_or}
use Rattle.rules.specs.declared.Ending.{Ending}
use Rattle.piece_rules.specs.declared.LaterRefusal.TheVariants.{Refused as ByTest, StaleRun}
use Rattle.piece_rules.specs.declared.RunRecord.{RunRecord}
use Rattle.rules.specs.Arithmetic.{at}
use Rattle.rules.specs.Product.{cone_work}
use Rattle.rules.specs.Problem.{Problem, blocks, length_x, length_y}
use Rattle.rules.specs.Step.{State, part}
use Rattle.rules.specs.Refusals.{Refusal, Accepted, Refused, Fact, ◌when◌, first_of, facts, as_refusal, refusal, read_problem}
use Rattle.rules.specs.Split.{SplitProblem, joined_problem, split_facts, split_refusal}
use Rattle.rules.proofs.Lengths.{Sized}
use Rattle.piece_rules.specs.Pieces.{Later, Taken, lengths_of, in_work, from_work, with_tau, stale_run, by_tests, then_stale, as_later, later_refusal, later_split_refusal}

-- ---- six vectors, one after another

-- what stands after a front
part_at : (i k : ℕ) (front own rest : List Float) → length front ≡ i → length own ≡ k → part i k (front ++ own ++ rest) ≡ own
part_at i k front own rest e f = rw (append_assoc front own rest, drop_at front (own ++ rest) i e) (take_at own rest k f)

module _ (lx ly : ℕ) (x y a b c d rest : List Float) (hx : length x ≡ lx) (hy : length y ≡ ly) (ha : length a ≡ lx) (hb : length b ≡ ly) (hc : length c ≡ lx) (hd : length d ≡ lx) where
  abbrev laid : List Float
  laid = x ++ y ++ a ++ b ++ c ++ d ++ rest

  -- cut after five of them, after four, and so on
  cut_5 : laid ≡ x ++ y ++ a ++ b ++ c ++ (d ++ rest)
  cut_5 = append_assoc (x ++ y ++ a ++ b ++ c) d rest

  cut_4 : laid ≡ x ++ y ++ a ++ b ++ (c ++ (d ++ rest))
  cut_4 = cut_5 ∙ append_assoc (x ++ y ++ a ++ b) c (d ++ rest)

  cut_3 : laid ≡ x ++ y ++ a ++ (b ++ (c ++ (d ++ rest)))
  cut_3 = cut_4 ∙ append_assoc (x ++ y ++ a) b (c ++ (d ++ rest))

  cut_2 : laid ≡ x ++ y ++ (a ++ (b ++ (c ++ (d ++ rest))))
  cut_2 = cut_3 ∙ append_assoc (x ++ y) a (b ++ (c ++ (d ++ rest)))

  cut_1 : laid ≡ x ++ (y ++ (a ++ (b ++ (c ++ (d ++ rest)))))
  cut_1 = cut_2 ∙ append_assoc x y (a ++ (b ++ (c ++ (d ++ rest))))

  long_2 : length (x ++ y) ≡ lx + ly
  long_2 = length-append x y ∙ omega arith

  long_3 : length (x ++ y ++ a) ≡ lx + ly + lx
  long_3 = length-append (x ++ y) a ∙ omega (arith, long_2)

  long_4 : length (x ++ y ++ a ++ b) ≡ lx + ly + lx + ly
  long_4 = length-append (x ++ y ++ a) b ∙ omega (arith, long_3)

  long_5 : length (x ++ y ++ a ++ b ++ c) ≡ lx + ly + lx + ly + lx
  long_5 = length-append (x ++ y ++ a ++ b) c ∙ omega (arith, long_4)

  part_1 : part 0 lx laid ≡ x
  part_1 = ap (part 0 lx) cut_1 ∙ take_at x (y ++ (a ++ (b ++ (c ++ (d ++ rest))))) lx hx

  part_2 : part lx ly laid ≡ y
  part_2 = ap (part lx ly) cut_2 ∙ part_at lx ly x y (a ++ (b ++ (c ++ (d ++ rest)))) hx hy

  part_3 : part (lx + ly) lx laid ≡ a
  part_3 = ap (part (lx + ly) lx) cut_3 ∙ part_at (lx + ly) lx (x ++ y) a (b ++ (c ++ (d ++ rest))) long_2 ha

  part_4 : part (lx + ly + lx) ly laid ≡ b
  part_4 = ap (part (lx + ly + lx) ly) cut_4 ∙ part_at (lx + ly + lx) ly (x ++ y ++ a) b (c ++ (d ++ rest)) long_3 hb

  part_5 : part (lx + ly + lx + ly) lx laid ≡ c
  part_5 = ap (part (lx + ly + lx + ly) lx) cut_5 ∙ part_at (lx + ly + lx + ly) lx (x ++ y ++ a ++ b) c (d ++ rest) long_4 hc

  part_6 : part (lx + ly + lx + ly + lx) lx laid ≡ d
  part_6 = part_at (lx + ly + lx + ly + lx) lx (x ++ y ++ a ++ b ++ c) d rest long_5 hd

  first_place : (i : ℕ) → i < lx → at laid i ≡ at x i
  first_place i h = ap (λ (w : List Float). at w i) cut_1 ∙ get_or-append x (y ++ (a ++ (b ++ (c ++ (d ++ rest))))) nan i (omega arith)

-- ---- a state

module _ (p : Problem) (s : State) (h : Sized p s) (rest : List Float) where
  abbrev lx : ℕ
  lx = length_x p.m p.n

  abbrev ly : ℕ
  ly = length_y p.m p.n

  -- What the buffers hold after a state was put there is that state.
  pub back_from_work : (rest' : List Float) → from_work p (in_work s ++ rest) (s.cone ++ rest') ≡ s
  unfolding from_work
  back_from_work rest' =
      λ i.
      record {
        x = part_1 lx ly s.x s.y s.dp_tau s.dp_sigma s.rx s.tx rest h.x h.y h.dp_tau h.dp_sigma h.rx h.tx i;
        y = part_2 lx ly s.x s.y s.dp_tau s.dp_sigma s.rx s.tx rest h.x h.y h.dp_tau h.dp_sigma h.rx h.tx i;
        dp_tau = part_3 lx ly s.x s.y s.dp_tau s.dp_sigma s.rx s.tx rest h.x h.y h.dp_tau h.dp_sigma h.rx h.tx i;
        dp_sigma = part_4 lx ly s.x s.y s.dp_tau s.dp_sigma s.rx s.tx rest h.x h.y h.dp_tau h.dp_sigma h.rx h.tx i;
        rx = part_5 lx ly s.x s.y s.dp_tau s.dp_sigma s.rx s.tx rest h.x h.y h.dp_tau h.dp_sigma h.rx h.tx i;
        tx = part_6 lx ly s.x s.y s.dp_tau s.dp_sigma s.rx s.tx rest h.x h.y h.dp_tau h.dp_sigma h.rx h.tx i;
        cone = take_at s.cone rest' (cone_work (blocks p)) h.cone i;
      }

  pub tau_there : at (in_work s ++ rest) (p.n + p.m + p.m) ≡ at s.x (p.n + p.m + p.m)
  tau_there = first_place lx ly s.x s.y s.dp_tau s.dp_sigma s.rx s.tx rest h.x h.y h.dp_tau h.dp_sigma h.rx h.tx (p.n + p.m + p.m) (omega arith)

  -- .. and the tau that stands in work is its own.
  pub tau_back : with_tau p (at (in_work s ++ rest) (p.n + p.m + p.m)) s ≡ s
  tau_back = ap (λ (tau : Float). with_tau p tau s) tau_there ∙ (λ i. record { x = set-get_or s.x (p.n + p.m + p.m) nan i; y = s.y; dp_tau = s.dp_tau; dp_sigma = s.dp_sigma; rx = s.rx; tx = s.tx; cone = s.cone })

-- ---- what turns a later piece away

-- what the table of a run says, and then whether the record is stale
abbrev pub later_by : Refusal → Bool → Later
later_by (Refused e) stale = Err (ByTest e)
later_by Accepted true = Err StaleRun
later_by Accepted false = Taken

-- of any table
pub stale_last : (rows : List (Fact Ending)) (stale : Bool) → as_later (first_of (then_stale rows stale)) ≡ later_by (as_refusal (first_of rows)) stale
unfolding first_of by_tests
stale_last [] true = refl
stale_last [] false = refl
stale_last ((e when true) ∷ rows) stale = refl
stale_last ((e when false) ∷ rows) stale = stale_last rows stale

module _ (r : RunRecord) (p : Problem) (work cone log : ℕ) where
  abbrev pub stale : Bool
  stale = stale_run r (lengths_of p work cone log) (read_problem p)

  pub later_is : later_refusal r p work cone log ≡ later_by (refusal p work cone) stale
  unfolding later_refusal refusal
  later_is = stale_last (facts p work cone) stale

  pub later_refused : (e : Ending) → refusal p work cone ≡ Refused e → later_refusal r p work cone log ≡ Err (ByTest e)
  later_refused e is = rw (later_is, is)

  pub later_stale : refusal p work cone ≡ Accepted → stale ≡ true → later_refusal r p work cone log ≡ Err StaleRun
  later_stale is so = rw (later_is, is, so)

  pub later_taken : refusal p work cone ≡ Accepted → stale ≡ false → later_refusal r p work cone log ≡ Taken
  later_taken is so = rw (later_is, is, so)

module _ (r : RunRecord) (p : SplitProblem) (work cone log : ℕ) where
  abbrev pub split_stale : Bool
  split_stale = stale_run r (lengths_of (joined_problem p) work cone log) (read_problem (joined_problem p))

  pub split_later_is : later_split_refusal r p work cone log ≡ later_by (split_refusal p work cone) split_stale
  unfolding later_split_refusal split_refusal
  split_later_is = stale_last (split_facts p work cone) split_stale

  pub split_later_refused : (e : Ending) → split_refusal p work cone ≡ Refused e → later_split_refusal r p work cone log ≡ Err (ByTest e)
  split_later_refused e is = rw (split_later_is, is)

  pub split_later_stale : split_refusal p work cone ≡ Accepted → split_stale ≡ true → later_split_refusal r p work cone log ≡ Err StaleRun
  split_later_stale is so = rw (split_later_is, is, so)

  pub split_later_taken : split_refusal p work cone ≡ Accepted → split_stale ≡ false → later_split_refusal r p work cone log ≡ Taken
  split_later_taken is so = rw (split_later_is, is, so)
