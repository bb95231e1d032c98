-- What the six tests establish, as facts about numbers: an accepted problem's sizes.
use Prim.Native.Nat.{ℕ, ◌≤◌}
use native.Mathlib.Omega.{arith}
use mathlib.Core.Path.{◌≡◌, refl}
use mathlib.Core.Bool.{Bool, true, false, not, ◌&&◌, ◌||◌, false≢true}
use borrow.Author.Tests.{ltb-false, leb-true, eqb-true, not-false}
use lib.Dec.{leb, ltb, eqb}
use lib.ListN.{length}
use Rattle.rules.specs.declared.SolverParam.{SolverParam}
use Rattle.rules.specs.Limits.{limit, most_words, most_steps, most_sweeps}
use Rattle.rules.specs.Matrices.{stored_length}
use Rattle.rules.specs.Blocks.{has_bad_word, total_places, is_bad_cone}
use Rattle.rules.specs.Groups.{plain_words}
use Rattle.rules.specs.Projections.{sweeps_fit}
use Rattle.rules.specs.Product.{cone_work}
use Rattle.rules.specs.Problem.{Problem, matrix, blocks, work_length}
use Rattle.rules.specs.Refusals.{Accepted, is_packed, is_edition, bad_tolerance, bad_param, too_large, invalid_op, bad_cone, work_shortage, refusal, read_problem, plain_problem}
use Rattle.rules.proofs.Matrices.{neither}
use Rattle.rules.proofs.Groups.{no_longer}
use Rattle.rules.proofs.Refusals.{none_holds}
use Rattle.rules.proofs.Lengths.{Fitting}

both : (a b : Bool) → a && b ≡ true → (a ≡ true) × (b ≡ true)
both true b e = (refl, e)
both false b e = absurd (false≢true e)

not_both : (a b : Bool) → a && not b ≡ false → a ≡ true → b ≡ true
not_both true b e h = not-false b e
not_both false b e h = absurd (false≢true h)

-- ---- each test

record ParamFits (par : SolverParam) : Type 0 where
  steps : par.max_iter ≤ most_steps
  some_sweep : 1 ≤ par.sweep_limit
  sweeps : par.sweep_limit ≤ most_sweeps

param_fits : (par : SolverParam) → bad_param par ≡ false → ParamFits par
unfolding bad_param
param_fits par e =
    let h = neither (bad_tolerance par || ltb most_steps par.max_iter || not (sweeps_fit par)) (not (is_edition par.«edition»)) e in
    let f = neither (bad_tolerance par || ltb most_steps par.max_iter) (not (sweeps_fit par)) h.0 in
    let g = neither (bad_tolerance par) (ltb most_steps par.max_iter) f.0 in
    let s = both (leb 1 par.sweep_limit) (leb par.sweep_limit most_sweeps) (not-false (sweeps_fit par) f.1) in
    record {
      steps = ltb-false most_steps par.max_iter g.1;
      some_sweep = leb-true 1 par.sweep_limit s.0;
      sweeps = leb-true par.sweep_limit most_sweeps s.1;
    }

pub record SizesFit (p : Problem) : Type 0 where
  pub n : p.n ≤ limit
  pub m : p.m ≤ limit
  pub words : length p.words ≤ most_words

pub sizes_fit : (p : Problem) → too_large p ≡ false → SizesFit p
unfolding too_large
sizes_fit p e =
    let f = neither _ _ e in
    let g = neither _ _ f.0 in
    record { n = ltb-false limit p.n g.0; m = ltb-false limit p.m g.1; words = ltb-false most_words (length p.words) f.1 }

record LengthsFit (p : Problem) : Type 0 where
  c : length p.c ≡ p.n
  a : length p.a ≡ stored_length (matrix p)
  b : length p.b ≡ p.m
  square : is_packed p.storage ≡ true → p.m ≡ p.n

lengths_fit : (p : Problem) → invalid_op p ≡ false → LengthsFit p
unfolding invalid_op
lengths_fit p e =
    let c = eqb (length p.c) p.n in
    let s = is_packed p.storage && not (eqb p.m p.n) in
    let a = eqb (length p.a) (stored_length (matrix p)) in
    let b = eqb (length p.b) p.m in
    let f = neither (not c || s || not a) (not b) e in
    let g = neither (not c || s) (not a) f.0 in
    let h = neither (not c) s g.0 in
    record {
      c = eqb-true (length p.c) p.n (not-false c h.0);
      a = eqb-true (length p.a) (stored_length (matrix p)) (not-false a g.1);
      b = eqb-true (length p.b) p.m (not-false b f.1);
      square = λ k. eqb-true p.m p.n (not_both (is_packed p.storage) (eqb p.m p.n) h.1 k);
    }

pub record ConeFits (p : Problem) : Type 0 where
  pub no_bad_word : has_bad_word p.words ≡ false
  pub sum : total_places (blocks p) ≡ p.m

-- of the plain list
pub cone_fits : (p : Problem) → bad_cone p ≡ false → ConeFits (plain_problem p)
unfolding bad_cone is_bad_cone
cone_fits p e =
    let total = total_places (blocks (plain_problem p)) in
    let f = neither (has_bad_word (plain_words p.words)) (not (eqb total p.m)) e in
    record { no_bad_word = f.0; sum = eqb-true total p.m (not-false (eqb total p.m) f.1) }

record BuffersFit (p : Problem) (work cone : ℕ) : Type 0 where
  long_work : work_length p.m p.n ≤ work
  long_cone : cone_work (blocks p) ≤ cone

buffers_fit : (p : Problem) (work cone : ℕ) → work_shortage p work cone ≡ false → BuffersFit (plain_problem p) work cone
unfolding work_shortage
buffers_fit p work cone e =
    let needed = cone_work (blocks (plain_problem p)) in
    let f = neither (ltb work (work_length p.m p.n)) (ltb cone needed) e in
    record { long_work = ltb-false work (work_length p.m p.n) f.0; long_cone = ltb-false cone needed f.1 }

-- ---- all of them

pub record AllFits (p : Problem) (work cone : ℕ) : Type 0 where
  pub fitting : Fitting p
  pub square : is_packed p.storage ≡ true → p.m ≡ p.n
  pub no_bad_word : has_bad_word p.words ≡ false
  pub n_within : p.n ≤ limit
  pub m_within : p.m ≤ limit
  pub words_within : length p.words ≤ most_words
  pub steps_within : p.par.max_iter ≤ most_steps
  pub some_sweep : 1 ≤ p.par.sweep_limit
  pub sweeps_within : p.par.sweep_limit ≤ most_sweeps
  pub long_work : work_length p.m p.n ≤ work
  pub long_cone : cone_work (blocks p) ≤ cone

-- of an accepted problem with the plain words of its list
pub accepted_fits : (p : Problem) (work cone : ℕ) → refusal p work cone ≡ Accepted → AllFits (plain_problem p) work cone
accepted_fits p work cone e =
    let none = none_holds p work cone e in
    let par = param_fits p.par (none 1) in
    let sizes = sizes_fit p (none 2) in
    let lengths = lengths_fit p (none 3) in
    let blocks = cone_fits p (none 4) in
    let buffers = buffers_fit p work cone (none 6) in
    record {
      fitting = record { c = lengths.c; a = lengths.a; b = lengths.b; blocks = blocks.sum };
      square = lengths.square;
      no_bad_word = blocks.no_bad_word;
      n_within = sizes.n;
      m_within = sizes.m;
      words_within = omega (arith, sizes.words, no_longer p.words);
      steps_within = par.steps;
      some_sweep = par.some_sweep;
      sweeps_within = par.sweeps;
      long_work = buffers.long_work;
      long_cone = buffers.long_cone;
    }

-- the problem as the run reads it has the same sizes
pub accepted_as_read : (p : Problem) (work cone : ℕ) → refusal p work cone ≡ Accepted → AllFits (read_problem p) work cone
unfolding read_problem
accepted_as_read p work cone e =
    let f = accepted_fits p work cone e in
    record {
      fitting = record { c = f.fitting.c; a = f.fitting.a; b = f.fitting.b; blocks = f.fitting.blocks };
      square = f.square;
      no_bad_word = f.no_bad_word;
      n_within = f.n_within;
      m_within = f.m_within;
      words_within = f.words_within;
      steps_within = f.steps_within;
      some_sweep = f.some_sweep;
      sweeps_within = f.sweeps_within;
      long_work = f.long_work;
      long_cone = f.long_cone;
    }
