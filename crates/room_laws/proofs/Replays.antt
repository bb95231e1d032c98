-- A record held against numbers, and an array that is filled from a record.
use Prim.Native.Nat.{ℕ, suc, ◌+◌, ◌<◌, ◌≤◌, zero, ◌-◌}
use native.Mathlib.Numerals.{add-one}
use native.Mathlib.Omega.{arith}
use mathlib.Core.Path.{◌≡◌, refl, ◌∙◌, sym, ap}
use mathlib.Core.Bool.{Bool, true, false, ◌&&◌, cond}
use mathlib.Core.List.{List, ◌++◌}
use lib.Dec.{eqb, ltb}
use lib.Ieee.{Float, nan, binary64, to_bits}
use lib.ListN.{length, get_or, take, drop, drop_of_length-le, replicate, length-append, length-replicate, replicate-append-replicate}
use lib.Seq.{drop-cons, take_at, drop_at, get_or-take, get_or-append-add}
use borrow.Author.Tests.{lt-leb, le-leb, ltb-true, ltb-false}
use Rattle.rules.specs.Arithmetic.{at, +0, each}
use Rattle.replay.specs.Records.{word_of, stand_from, all_have, stand_before, cone_word, ConeWords, number_of, numbers_in, ConeWordsIn}
use Rattle.rules.specs.Prepare.{zeros}

pub have_more : (pattern : ℕ) (xs : List Float) (i : ℕ) → i < length xs → all_have pattern (drop i xs) ≡ eqb (to_bits binary64 (at xs i)) pattern && all_have pattern (drop (i + 1) xs)
have_more pattern xs i h = rw (add-one i, drop-cons xs i nan h)

pub have_end : (pattern : ℕ) (xs : List Float) (i : ℕ) → length xs ≤ i → all_have pattern (drop i xs) ≡ true
have_end pattern xs i h = rw (drop_of_length-le xs h)

pub before_not : (bytes : List ℕ) (from : ℕ) (xs : List Float) (n pattern : ℕ) → n ≤ length xs → stand_from bytes from (take n xs) ≡ false → false ≡ stand_before bytes from xs n pattern
unfolding stand_before
before_not bytes from xs n pattern h e = rw (le-leb n (length xs) h, e)

pub before_then : (bytes : List ℕ) (from : ℕ) (xs : List Float) (n pattern : ℕ) → n ≤ length xs → stand_from bytes from (take n xs) ≡ true → all_have pattern (drop n xs) ≡ stand_before bytes from xs n pattern
unfolding stand_before
before_then bytes from xs n pattern h e = rw (le-leb n (length xs) h, e)

cut : {A : Type 0} (room n : ℕ) (a : A) → n ≤ room → replicate room a ≡ replicate n a ++ replicate (room - n) a
cut room n a h =
    let all : n + (room - n) ≡ room = omega arith in
    sym (replicate-append-replicate n (room - n) a ∙ ap (λ k. replicate k a) all)

front : {A : Type 0} (room n : ℕ) (a : A) → n ≤ room → take (n - 0) (replicate room a) ≡ replicate n a
front room n a h =
    let z : n - 0 ≡ n = omega arith in
    rw (z, cut room n a h) (take_at (replicate n a) (replicate (room - n) a) n (length-replicate n a))

back : {A : Type 0} (room n : ℕ) (a : A) → n ≤ room → drop (n - 0) (replicate room a) ≡ replicate (room - n) a
back room n a h =
    let z : n - 0 ≡ n = omega arith in
    rw (z, cut room n a h) (drop_at (replicate n a) (replicate (room - n) a) n (length-replicate n a))

-- numbers
pub numbers_had : (room : ℕ) (bytes : List ℕ) (from n : ℕ) (ys : List Float) → n ≤ room → ys ≡ each (λ k v. number_of bytes (from + k)) (take (n - 0) (zeros room)) → ys ++ drop (n - 0) (zeros room) ≡ numbers_in room bytes from n
unfolding numbers_in
numbers_had room bytes from n ys h e = rw (le-leb n room h, e, front room n +0 h, back room n +0 h)

-- cone words
abbrev noughts : ℕ → List ℕ
noughts m = replicate m 0

zero_there : (m k : ℕ) → get_or (noughts m) k 0 ≡ 0
zero_there zero k = refl
zero_there (suc m) zero = refl
zero_there (suc m) (suc k) = zero_there m k

pub words_had : (room : ℕ) (bytes : List ℕ) (from n : ℕ) (ys : List ℕ) → n ≤ room → ConeWords bytes from (length (take (n - 0) (noughts room))) (take (n - 0) (noughts room)) ys → ConeWordsIn room bytes from n (ys ++ drop (n - 0) (noughts room))
words_had room bytes from n ys h e =
    rw (back {A = ℕ} room n 0 h) (record { places = rw (length-append, many, length-replicate) (omega arith); each_is = λ k. rw (le-leb n room h) (go k (ltb k n) refl) })
  where
    as_many : length (take (n - 0) (noughts room)) ≡ n
    as_many = ap length (front {A = ℕ} room n 0 h) ∙ length-replicate {A = ℕ} n 0

    many : length ys ≡ n
    many = e.same ∙ as_many

    go : (k : ℕ) (t : Bool) → ltb k n ≡ t → get_or (ys ++ noughts (room - n)) k 0 ≡ cond t (cone_word (word_of bytes (from + k))) 0
    go k true l =
        let i : k < n = ltb-true k n l in
        sym (get_or-take n (ys ++ noughts (room - n)) k 0 i) ∙ ap (λ v. get_or v k 0) (take_at ys (noughts (room - n)) n many) ∙ e.each k (rw as_many i)
    go k false l =
        let past : n ≤ k = ltb-false k n l in
        let i : length ys + (k - n) ≡ k = omega (arith, many) in
        ap (λ j. get_or (ys ++ noughts (room - n)) j 0) (sym i) ∙ get_or-append-add ys (noughts (room - n)) (k - n) 0 ∙ zero_there (room - n) (k - n)

pub words_none : (room : ℕ) (bytes : List ℕ) (from n : ℕ) → room < n → ConeWordsIn room bytes from n (noughts room)
words_none room bytes from n h = record { places = length-replicate {A = ℕ} room 0; each_is = λ k. rw (lt-leb n room h) (zero_there room k) }
