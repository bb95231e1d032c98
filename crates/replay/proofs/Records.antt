-- Laws of a record's words and of comparing, in the order in which a loop's proof uses them.
use Prim.Native.Nat.{ℕ, suc, ◌+◌, ◌*◌, ◌/◌, ◌<◌, ◌≤◌}
use native.Mathlib.Numerals.{add-one}
use native.Mathlib.Omega.{arith}
use mathlib.Core.Path.{◌≡◌, refl, ◌∙◌}
use mathlib.Core.Bool.{Bool, true, false, ◌&&◌}
use mathlib.Core.List.{List}
use lib.Dec.{eqb, leb}
use lib.Ieee.{Float, nan}
use lib.ListN.{length, get_or, drop, set, length-set, drop_of_length-le}
use lib.Seq.{drop-cons, get_or-set_same, get_or-set_other}
use borrow.Author.Tests.{lt-ltb, le-ltb, lt-leb, leb-true, eqb-true, eqb-false}
use Rattle.rules.specs.Arithmetic.{at}
use Rattle.patterns.specs.Words.{word_at}
use Rattle.replay.specs.Records.{word_of, stands, stand_from, stand_before, cone_word, ConeWords}

pub word_there : (bytes : List ℕ) (i : ℕ) → i < length bytes / 8 → word_of bytes i ≡ word_at bytes (i * 8)
unfolding word_of
word_there bytes i h = rw (lt-ltb i (length bytes / 8) h)

pub word_past : (bytes : List ℕ) (i : ℕ) → length bytes / 8 ≤ i → word_of bytes i ≡ 0
unfolding word_of
word_past bytes i h = rw (le-ltb i (length bytes / 8) h)

-- the numbers from place i on
pub stand_more : (bytes : List ℕ) (from : ℕ) (xs : List Float) (i : ℕ) → i < length xs → stand_from bytes (from + i) (drop i xs) ≡ stands bytes (from + i) (at xs i) && stand_from bytes (from + (i + 1)) (drop (i + 1) xs)
unfolding stand_from
stand_more bytes from xs i h =
    let next : from + suc i ≡ suc (from + i) = omega arith in
    rw (add-one i, next, drop-cons xs i nan h)

pub stand_end : (bytes : List ℕ) (from : ℕ) (xs : List Float) (i : ℕ) → length xs ≤ i → stand_from bytes (from + i) (drop i xs) ≡ true
unfolding stand_from
stand_end bytes from xs i h = rw (drop_of_length-le xs h)

-- the first n numbers and the others
pub before_short : (bytes : List ℕ) (from : ℕ) (xs : List Float) (n pattern : ℕ) → length xs < n → false ≡ stand_before bytes from xs n pattern
unfolding stand_before
before_short bytes from xs n pattern h = rw (lt-leb n (length xs) h)

-- as many numbers as are compared are there
pub before_fits : (bytes : List ℕ) (from : ℕ) (xs : List Float) (n pattern : ℕ) → stand_before bytes from xs n pattern ≡ true → n ≤ length xs
unfolding stand_before
before_fits bytes from xs n pattern e = go (leb n (length xs)) refl
  where
    go : (t : Bool) → leb n (length xs) ≡ t → n ≤ length xs
    go true l = leb-true n (length xs) l
    go false l = let z : false ≡ true = rw l at e in let y : ◌≡◌ {A = ℕ} 0 1 = cc in absurd (omega arith)

-- cone words: before the first turn, at a turn
pub cone_none : (bytes : List ℕ) (from : ℕ) (ws : List ℕ) → ConeWords bytes from 0 ws ws
cone_none bytes from ws = record { same = refl; each = λ k h. absurd (omega arith) }

pub cone_more : {bytes : List ℕ} {from n : ℕ} {ws vs : List ℕ} (w : ℕ) → ConeWords bytes from n ws vs → n < length ws → w ≡ cone_word (word_of bytes (from + n)) → ConeWords bytes from (n + 1) ws (set vs n w)
cone_more {bytes} {from} {n} {ws} {vs} w r h e = record { same = length-set vs n w ∙ r.same; each = λ k l. go k l (eqb k n) refl }
  where
    go : (k : ℕ) → k < n + 1 → (t : Bool) → eqb k n ≡ t → get_or (set vs n w) k 0 ≡ cone_word (word_of bytes (from + k))
    go k l true t = rw (eqb-true k n t) (get_or-set_same vs n w 0 (omega (arith, r.same)) ∙ e)
    go k l false t = get_or-set_other vs n k w 0 (eqb-false k n t) ∙ r.each k (omega (arith, eqb-false k n t))
