-- The fields that a card's reader leaves make the card's problem.
use Prim.Native.Nat.{ℕ, zero, suc, ◌+◌, ◌≤◌}
use native.Mathlib.Omega.{arith}
use mathlib.Core.Path.{◌≡◌, refl, sym, ap, ◌∙◌}
use mathlib.Core.Bool.{true}
use mathlib.Core.List.{List, [], ◌∷◌, ◌++◌}
use lib.Ieee.{Float}
use lib.ListN.{length, take, drop, get_or, replicate}
use lib.Seq.{take_at, get_or-drop}
use borrow.Author.Tests.{le-leb}
use Rattle.std.specs.Prelude.{Result, Ok, Err}
use Rattle.rules.specs.Refusals.{is_packed}
use Rattle.rules.specs.declared.SolverParam.{SolverParam}
use Rattle.rules.specs.Problem.{Problem, problem_of}
use Rattle.card.specs.Card.{Card, Reading, fault, read, numbers_of_a, read_card}
use Rattle.card.specs.Outcome.{head_of, answer_of, words_after, numbers_after, holds_any, ReadOutcome}
use Rattle.card.specs.declared.CardHead.{CardHead}
use Rattle.card.specs.declared.Fault.{Fault}
use Rattle.card_problem.specs.Problem.{numbers_at, parameters_of, problem_from, problem_of_card}
use Rattle.card_problem.proofs.Numbers.{front_of, numbers_same}

-- ---- the problem of a card's fields

of_fronts : (head : CardHead) (count : ℕ) (words : List ℕ) (numbers : List ℕ) (c a b : List Float) (par : SolverParam)
    → count ≡ numbers_of_a (is_packed head.storage) head.cols.0 head.rows.0
    → take head.cols.0 c ≡ numbers_at numbers 3 head.cols.0
    → take count a ≡ numbers_at numbers (3 + head.cols.0) count
    → take head.rows.0 b ≡ numbers_at numbers (3 + head.cols.0 + count) head.rows.0
    → par ≡ parameters_of head.max_iter head.sweep_limit numbers
    → problem_of head.rows.0 head.cols.0 head.storage (take head.cols.0 c) (take count a) (take head.rows.0 b) words par ≡ problem_from head words numbers
unfolding problem_from
of_fronts head count words numbers c a b par ek ec ea eb ep = rw (ec, ea, eb, ep, ek)

front_is : (numbers : List ℕ) (from count most : ℕ) (l : List Float) → count ≤ most → l ≡ numbers_at numbers from most → take count l ≡ numbers_at numbers from count
front_is numbers from count most l h e = ap (take count) e ∙ front_of numbers from count most h

-- its vectors are the first places of what is read at once
pub same_problem : (head : CardHead) (count : ℕ) (words : List ℕ) (numbers : List ℕ) (c a b : List Float) (par : SolverParam)
    → head.cols.0 ≤ 32
    → count ≤ 1024
    → head.rows.0 ≤ 32
    → count ≡ numbers_of_a (is_packed head.storage) head.cols.0 head.rows.0
    → c ≡ numbers_at numbers 3 32
    → a ≡ numbers_at numbers (3 + head.cols.0) 1024
    → b ≡ numbers_at numbers (3 + head.cols.0 + count) 32
    → par ≡ parameters_of head.max_iter head.sweep_limit numbers
    → problem_of head.rows.0 head.cols.0 head.storage (take head.cols.0 c) (take count a) (take head.rows.0 b) words par ≡ problem_from head words numbers
same_problem head count words numbers c a b par hn hc hm ek ec ea eb ep =
    of_fronts head count words numbers c a b par ek
    (front_is numbers 3 head.cols.0 32 c hn ec) (front_is numbers (3 + head.cols.0) count 1024 a hc ea) (front_is numbers (3 + head.cols.0 + count) head.rows.0 32 b hm eb) ep

-- ---- zeros after a card's numbers are never read

abbrev pub zero_list : ℕ → List ℕ
zero_list n = replicate n 0

zero-at : (n i : ℕ) → get_or (zero_list n) i 0 ≡ 0
zero-at zero i = refl
zero-at (suc n) zero = refl
zero-at (suc n) (suc i) = zero-at n i

before_zeros : (xs zs : List ℕ) (i : ℕ) → ((j : ℕ) → get_or zs j 0 ≡ 0) → get_or (xs ++ zs) i 0 ≡ get_or xs i 0
before_zeros [] zs i z = z i
before_zeros (x ∷ xs) zs zero z = refl
before_zeros (x ∷ xs) zs (suc i) z = before_zeros xs zs i z

module _ (xs ys : List ℕ) (same : (i : ℕ) → get_or xs i 0 ≡ get_or ys i 0) where
  same_numbers : (from count : ℕ) → numbers_at xs from count ≡ numbers_at ys from count
  same_numbers from count = numbers_same xs ys from from count (λ k. same (from + k))

  parameters_same : (max_iter sweep_limit : ℕ) → parameters_of max_iter sweep_limit xs ≡ parameters_of max_iter sweep_limit ys
  unfolding parameters_of
  parameters_same max_iter sweep_limit = rw (same 0, same 1, same 2)

  problem_same : (head : CardHead) (words : List ℕ) → problem_from head words xs ≡ problem_from head words ys
  unfolding problem_from
  problem_same head words =
      let stored = numbers_of_a (is_packed head.storage) head.cols.0 head.rows.0 in
      rw (same_numbers 3 head.cols.0, same_numbers (3 + head.cols.0) stored, same_numbers (3 + head.cols.0 + stored) head.rows.0, parameters_same head.max_iter head.sweep_limit)

-- ---- what was read

module _ (bytes words numbers : List ℕ) (answer : Result CardHead Fault) (left_words left_numbers : List ℕ) (enough_words : 63 ≤ length words) (enough_numbers : 1091 ≤ length numbers)
    (o : ReadOutcome bytes words numbers answer left_words left_numbers) where
  enough : holds_any words numbers ≡ true
  enough = rw (le-leb 63 (length words) enough_words, le-leb 1091 (length numbers) enough_numbers)

  pub reading : answer_of (read_card bytes) ≡ answer
  reading = sym (rw enough at o.answered)

  pub words_read : left_words ≡ words_after (read_card bytes) words
  words_read = rw enough at o.words_left

  pub numbers_read : left_numbers ≡ numbers_after (read_card bytes) numbers
  numbers_read = rw enough at o.numbers_left

pub reads_fault : (r : Reading) (f : Fault) → answer_of r ≡ Err f → r ≡ fault f
reads_fault (fault g) f e = let same : g ≡ f = cc in ap fault same
reads_fault (read k) f e = let z : ◌≡◌ {A = ℕ} 0 1 = cc in absurd (omega arith)

-- the card that was read, and that its head and lists make its problem
pub record ReadsAs (r : Reading) (head : CardHead) (p : Problem) : Type 0 where
  pub card : Card
  pub is : r ≡ read card
  pub head_is : head ≡ head_of card
  pub problem_is : p ≡ problem_of_card card

pub reads_as : (r : Reading) (head : CardHead) (zero_words : List ℕ) (places : ℕ)
    → answer_of r ≡ Ok head
    → ReadsAs r head (problem_from head (take head.words (words_after r zero_words)) (numbers_after r (zero_list places)))
reads_as (fault g) head zero_words places e = let z : ◌≡◌ {A = ℕ} 0 1 = cc in absurd (omega arith)
reads_as (read k) head zero_words places e =
    let is : head ≡ head_of k = cc in
    let front : take (length k.words) (k.words ++ drop (length k.words) zero_words) ≡ k.words = take_at k.words (drop (length k.words) zero_words) (length k.words) refl in
    let rest : (j : ℕ) → get_or (drop (length k.numbers) (zero_list places)) j 0 ≡ 0 = λ j. get_or-drop (length k.numbers) (zero_list places) j 0 ∙ zero-at places (length k.numbers + j) in
    let same = problem_same (k.numbers ++ drop (length k.numbers) (zero_list places)) k.numbers (λ i. before_zeros k.numbers (drop (length k.numbers) (zero_list places)) i rest) in
    record {
      card = k;
      is = refl;
      head_is = is;
      problem_is = rw (is, front) (same (head_of k) k.words);
    }
