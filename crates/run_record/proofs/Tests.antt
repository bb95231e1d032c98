-- Laws of the tests of a record: what each of them decides, and what is known of words that pass them all.
use Prim.Native.Nat.{ℕ, ◌^◌, ◌≤◌, ◌<◌}
use borrow.Author.Tests.{leb-true, ltb-true}
use mathlib.Core.Path.{◌≡◌}
use mathlib.Core.Bool.{Bool, true, ◌&&◌}
use mathlib.Core.List.{List}
use lib.Dec.{leb, ltb}
use lib.ListN.{length}
use Rattle.rules.proofs.Matrices.{both_true}
use Rattle.run_record.specs.Record.{word, is_pattern, are_patterns, is_record}

-- the six patterns
pub record Patterns (words : List ℕ) : Type 0 where
  pub eps_acc : is_pattern (word words 7) ≡ true
  pub eps_inf : is_pattern (word words 8) ≡ true
  pub eps_zero : is_pattern (word words 9) ≡ true
  pub norm_b : is_pattern (word words 13) ≡ true
  pub norm_c : is_pattern (word words 14) ≡ true
  pub tau : is_pattern (word words 15) ≡ true

pub record Passed (words : List ℕ) : Type 0 where
  pub long : 21 ≤ length words
  pub log_period : word words 11 < 2 ^ 32
  pub edition : word words 12 < 2 ^ 32
  pub ended : word words 20 < 2
  pub patterns : Patterns words

six : (a b c d e f : Bool) → (a && b && c && d && e && f) ≡ true → (a ≡ true) × (b ≡ true) × (c ≡ true) × (d ≡ true) × (e ≡ true) × (f ≡ true)
six a b c d e f t =
    let t5 = both_true (a && b && c && d && e) f t in
    let t4 = both_true (a && b && c && d) e t5.0 in
    let t3 = both_true (a && b && c) d t4.0 in
    let t2 = both_true (a && b) c t3.0 in
    let t1 = both_true a b t2.0 in
    (t1.0, t1.1, t2.1, t3.1, t4.1, t5.1)

five : (a b c d e : Bool) → (a && b && c && d && e) ≡ true → (a ≡ true) × (b ≡ true) × (c ≡ true) × (d ≡ true) × (e ≡ true)
five a b c d e t =
    let t4 = both_true (a && b && c && d) e t in
    let t3 = both_true (a && b && c) d t4.0 in
    let t2 = both_true (a && b) c t3.0 in
    let t1 = both_true a b t2.0 in
    (t1.0, t1.1, t2.1, t3.1, t4.1)

pub are_patterns_lem : (words : List ℕ) → are_patterns words ≡ true → Patterns words
unfolding are_patterns
are_patterns_lem words t =
    let s = six _ _ _ _ _ _ t in
    record { eps_acc = s.0; eps_inf = s.1; eps_zero = s.2; norm_b = s.3; norm_c = s.4; tau = s.5 }

pub passed : (words : List ℕ) → is_record words ≡ true → Passed words
unfolding is_record
passed words t =
    let s = five (leb 21 (length words)) (ltb (word words 11) (2 ^ 32)) (ltb (word words 12) (2 ^ 32)) (ltb (word words 20) 2) (are_patterns words) t in
    record {
      long = leb-true _ _ s.0;
      log_period = ltb-true _ _ s.1;
      edition = ltb-true _ _ s.2;
      ended = ltb-true _ _ s.3;
      patterns = are_patterns_lem words s.4;
    }
