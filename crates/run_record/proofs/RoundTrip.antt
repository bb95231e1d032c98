-- A record that is written is read back; words that are read are written back; and where the reader says no, no record is written so.
use Prim.Native.Nat.{ℕ, zero, suc, ◌^◌, ◌≤◌, ◌<◌}
use native.Mathlib.Omega.{arith}
use borrow.Author.Tests.{le-leb, lt-ltb, eqb-true}
use mathlib.Core.Path.{◌≡◌, refl, sym, ap, ◌∙◌}
use mathlib.Core.Bool.{Bool, true, false, cond, not, ◌||◌}
use mathlib.Core.List.{List, [], ◌∷◌, ◌++◌}
use lib.Dec.{eqb}
use lib.Ieee.{Float, nan, binary64, of_bits, to_bits, is_nan}
use lib.Ieee.Bits.{of_bits-to_bits, of_bits-fits, to_bits-of_bits}
use lib.ListN.{length, take, length-append}
use Rattle.rules.proofs.Helpers.{only_nan}
use Rattle.piece_rules.specs.declared.RunRecord.{RunRecord}
use Rattle.std.specs.Prelude.{Some, None}
use Rattle.run_record.specs.Record.{pattern, record_words, word, parameters_in, record_of, is_pattern, are_patterns, is_record, record_in}
use Rattle.run_record.specs.RoundTrip.{AreWords, IsF64, Representable}
use Rattle.run_record.proofs.Tests.{Passed, passed}
use Rattle.run_record.proofs.Writing.{record_length}

-- ---- one number

-- a number's pattern is its number's
pub number_back : (x : Float) → IsF64 x → of_bits binary64 (pattern x) ≡ x
number_back x fit = of_bits-to_bits binary64 x fit

nan_pattern : pattern nan ≡ 0x7ff8000000000000
unfolding to_bits
nan_pattern = refl

pub is_a_pattern : (x : Float) → IsF64 x → is_pattern (pattern x) ≡ true
unfolding is_pattern
is_a_pattern x fit = rw (number_back x fit) (go (is_nan x) refl)
  where
    go : (t : Bool) → is_nan x ≡ t → (not (is_nan x) || eqb (pattern x) 0x7ff8000000000000) ≡ true
    go false e = rw e
    go true e = rw (e, only_nan x e, nan_pattern)

-- a word that is a pattern is its number's
pub pattern_back : (w : ℕ) → w < 2 ^ 64 → is_pattern w ≡ true → pattern (of_bits binary64 w) ≡ w
unfolding is_pattern
pattern_back w below is = go (is_nan (of_bits binary64 w)) refl
  where
    go : (t : Bool) → is_nan (of_bits binary64 w) ≡ t → pattern (of_bits binary64 w) ≡ w
    go false e = to_bits-of_bits binary64 w below (rw e tt)
    go true e = rw (only_nan (of_bits binary64 w) e) (nan_pattern ∙ sym (eqb-true w 0x7ff8000000000000 (rw e at is)))

-- ---- a record that is written is read back

flag_back : (b : Bool) → eqb (cond b 1 0) 1 ≡ b
flag_back true = refl
flag_back false = refl

small_flag : (b : Bool) → cond b 1 0 < 2
small_flag true = omega arith
small_flag false = omega arith

module _ (r : RunRecord) (rest : List ℕ) (fit : Representable r) where
  abbrev all : List ℕ
  all = record_words r ++ rest

  patterns_pass : are_patterns all ≡ true
  unfolding are_patterns record_words
  patterns_pass =
      rw (is_a_pattern _ fit.eps_acc_fits, is_a_pattern _ fit.eps_inf_fits, is_a_pattern _ fit.eps_zero_fits, is_a_pattern _ fit.norm_b_fits, is_a_pattern _ fit.norm_c_fits, is_a_pattern _ fit.tau_fits)

  long : 21 ≤ length (record_words r ++ rest)
  long = rw (length-append (record_words r) rest, record_length r) (omega arith)

  passes : is_record all ≡ true
  unfolding is_record record_words
  passes =
      rw (le-leb 21 (length all) long, lt-ltb r.par.log_period (2 ^ 32) fit.log_period_fits, lt-ltb r.par.«edition» (2 ^ 32) fit.edition_fits, lt-ltb (cond r.ended 1 0) 2 (small_flag r.ended), patterns_pass)

  same_parameters : parameters_in all ≡ r.par
  unfolding parameters_in record_words
  same_parameters =
      λ i. record {
        max_iter = r.par.max_iter;
        eps_acc = number_back r.par.eps_acc fit.eps_acc_fits i;
        eps_inf = number_back r.par.eps_inf fit.eps_inf_fits i;
        eps_zero = number_back r.par.eps_zero fit.eps_zero_fits i;
        sweep_limit = r.par.sweep_limit;
        log_period = r.par.log_period;
        «edition» = r.par.«edition»;
      }

  same_record : record_of all ≡ r
  unfolding record_of record_words
  same_record =
      λ i. record {
        lengths = r.lengths;
        par = same_parameters i;
        norms = record { b = number_back r.norms.b fit.norm_b_fits i; c = number_back r.norms.c fit.norm_c_fits i };
        tau = number_back r.tau fit.tau_fits i;
        steps = r.steps;
        rotations = r.rotations;
        written = r.written;
        dropped = r.dropped;
        ended = flag_back r.ended i;
      }

  pub written_then_read : record_in (record_words r ++ rest) ≡ Some r
  unfolding record_in
  written_then_read = rw (passes, same_record)

-- ---- words that are read are written back

-- the first n words, one by one
abbrev places : ℕ → (ℕ → ℕ) → List ℕ
places zero f = []
places (suc n) f = f 0 ∷ places n (λ k. f (suc k))

taken : (n : ℕ) (words : List ℕ) → n ≤ length words → places n (word words) ≡ take n words
taken zero words h = refl
taken (suc n) [] h = absurd (omega arith)
taken (suc n) (w ∷ words) h = ap (λ (l : List ℕ). w ∷ l) (taken n words (omega arith))

flag_of : (w : ℕ) → w < 2 → cond (eqb w 1) 1 0 ≡ w
flag_of zero h = refl
flag_of (suc zero) h = refl
flag_of (suc (suc w)) h = absurd (omega arith)

module _ (words : List ℕ) (below : AreWords words) (p : Passed words) where
  words_back : record_words (record_of words) ≡ take 21 words
  unfolding record_words record_of
  words_back =
      rw
      (pattern_back (word words 7) (below 7) p.patterns.eps_acc, pattern_back (word words 8) (below 8) p.patterns.eps_inf, pattern_back (word words 9) (below 9) p.patterns.eps_zero, pattern_back (word words 13) (below 13) p.patterns.norm_b, pattern_back (word words 14) (below 14) p.patterns.norm_c, pattern_back (word words 15) (below 15) p.patterns.tau, flag_of (word words 20) p.ended)
      (taken 21 words p.long)

  representable : Representable (record_of words)
  unfolding record_of
  representable =
      record {
        cols_fits = below 0;
        rows_fits = below 1;
        words_fits = below 2;
        work_fits = below 3;
        cone_work_fits = below 4;
        log_fits = below 5;
        max_iter_fits = below 6;
        eps_acc_fits = of_bits-fits binary64 (word words 7);
        eps_inf_fits = of_bits-fits binary64 (word words 8);
        eps_zero_fits = of_bits-fits binary64 (word words 9);
        sweep_limit_fits = below 10;
        log_period_fits = p.log_period;
        edition_fits = p.edition;
        norm_b_fits = of_bits-fits binary64 (word words 13);
        norm_c_fits = of_bits-fits binary64 (word words 14);
        tau_fits = of_bits-fits binary64 (word words 15);
        steps_fits = below 16;
        rotations_fits = below 17;
        written_fits = below 18;
        dropped_fits = below 19;
      }

-- what is read passed the tests, and is what the words say
record Reading (words : List ℕ) (r : RunRecord) : Type 0 where
  through : Passed words
  said : record_of words ≡ r

read_so : (words : List ℕ) (r : RunRecord) → record_in words ≡ Some r → Reading words r
unfolding record_in
read_so words r e = go (is_record words) refl
  where
    go : (t : Bool) → is_record words ≡ t → Reading words r
    go true t = let is : Some (record_of words) ≡ Some r = rw t at e in record { through = passed words t; said = cc }
    go false f = let is : None ≡ Some r = rw f at e in let z : ◌≡◌ {A = ℕ} 0 1 = cc in absurd (omega arith)

pub read_then_written : (words : List ℕ) (r : RunRecord) → AreWords words → record_in words ≡ Some r → record_words r ≡ take 21 words
read_then_written words r below e =
    let s = read_so words r e in
    ap record_words (sym s.said) ∙ words_back words below s.through

-- what is read is a record that can be written
pub read_is_representable : (words : List ℕ) (r : RunRecord) → AreWords words → record_in words ≡ Some r → Representable r
read_is_representable words r below e =
    let s = read_so words r e in
    rw s.said at (representable words below s.through)

-- ---- where the reader says no, no record is written so

pub no_is_no_record : (words : List ℕ) → record_in words ≡ None → (r : RunRecord) (rest : List ℕ) → Representable r → words ≡ record_words r ++ rest → ⊥
no_is_no_record words none r rest fit is =
    let said : record_in words ≡ Some r = rw is (written_then_read r rest fit) in
    let z : ◌≡◌ {A = ℕ} 0 1 = cc in
    omega arith
