-- Laws of an array whose first places are filled from a record.
use Prim.Native.Nat.{ℕ, ◌+◌, ◌-◌, ◌<◌, ◌≤◌}
use native.Mathlib.Omega.{arith}
use mathlib.Core.Path.{◌≡◌, sym, ap, ◌∙◌}
use mathlib.Core.List.{List, ◌++◌}
use lib.Ieee.{Float}
use lib.ListN.{take, drop, replicate, length-replicate, replicate-append-replicate}
use lib.Seq.{take_at, drop_at}
use borrow.Author.Tests.{lt-leb, le-leb}
use Rattle.rules.specs.Arithmetic.{+0, each}
use Rattle.rules.specs.Prepare.{zeros}
use Rattle.replay.specs.Records.{number_of, numbers_in}

cut : {A : Type 0} (room n : ℕ) (a : A) → n ≤ room → replicate room a ≡ replicate n a ++ replicate (room - n) a
cut room n a h =
    let all : n + (room - n) ≡ room = omega arith in
    sym (replicate-append-replicate n (room - n) a ∙ ap (λ k. replicate k a) all)

front : {A : Type 0} (room n : ℕ) (a : A) → n ≤ room → take n (replicate room a) ≡ replicate n a
front room n a h = rw (cut room n a h) (take_at (replicate n a) (replicate (room - n) a) n (length-replicate n a))

back : {A : Type 0} (room n : ℕ) (a : A) → n ≤ room → drop n (replicate room a) ≡ replicate (room - n) a
back room n a h = rw (cut room n a h) (drop_at (replicate n a) (replicate (room - n) a) n (length-replicate n a))

-- numbers
pub numbers_had : (room : ℕ) (bytes : List ℕ) (from n : ℕ) (ys : List Float) → n ≤ room → ys ≡ each (λ k v. number_of bytes (from + k)) (take n (zeros room)) → ys ++ drop n (zeros room) ≡ numbers_in room bytes from n
unfolding numbers_in
numbers_had room bytes from n ys h e = rw (le-leb n room h, e, front room n +0 h, back room n +0 h)

pub numbers_none : (room : ℕ) (bytes : List ℕ) (from n : ℕ) → room < n → zeros room ≡ numbers_in room bytes from n
unfolding numbers_in
numbers_none room bytes from n h = rw (lt-leb n room h)
