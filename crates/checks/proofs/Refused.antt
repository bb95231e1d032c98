-- The refusal of a problem given by its parts: the first test that applies.
use Prim.Native.Nat.{ℕ, ◌-◌, ◌*◌, ◌≤◌}
use native.Mathlib.Nat.{mul-zero, sub_self}
use native.Mathlib.Omega.{arith}
use mathlib.Core.Path.{◌≡◌, refl, ap}
use mathlib.Core.Bool.{Bool, true, false, not, ◌&&◌, ◌||◌}
use mathlib.Core.List.{List, [], ◌∷◌, ◌++◌, append-nil}
use lib.Dec.{ltb, eqb}
use lib.Ieee.{Float}
use lib.ListN.{length}
use borrow.Author.Tests.{ltb-false, le-leb}
use Rattle.rules.specs.declared.Ending.{Ending}
use Rattle.rules.specs.declared.Ending.TheVariants.{BadParam, TooLarge, InvalidOp}
use Rattle.rules.specs.declared.SolverParam.{SolverParam}
use Rattle.rules.specs.declared.Shape.{Shape}
use Rattle.rules.specs.declared.Storage.{Storage}
use Rattle.rules.specs.declared.Storage.TheVariants.{Dense, Packed}
use Rattle.rules.specs.Limits.{limit, most_words}
use Rattle.rules.specs.Matrices.{triangle}
use Rattle.rules.specs.Groups.{plain_words}
use Rattle.rules.specs.Refusals.{Refusal, Accepted, Refused, Fact, ◌when◌, first_of, as_refusal, bad_param, large_sizes, wrong_lengths, refusal}
use Rattle.rules.specs.Problem.{Slices, slices, problem_of}
use Rattle.rules.specs.Split.{split_lengths, split_of, split_refusal}
use Rattle.rules.proofs.Matrices.{neither}
use Rattle.shape.specs.Fitting.{operators_fit}
use Rattle.checks.specs.Parts.{plain_table, plain_refusal, parts_table, parts_refusal}

pub sizes_within : (m n : ℕ) (words : List ℕ) → large_sizes m n words ≡ false → (m ≤ limit) × (n ≤ limit)
sizes_within m n words e =
    let f = neither (ltb limit n || ltb limit m) (ltb most_words (length words)) e in
    let g = neither (ltb limit n) (ltb limit m) f.0 in
    (ltb-false limit m g.1, ltb-false limit n g.0)

pub words_within : (m n : ℕ) (words : List ℕ) → large_sizes m n words ≡ false → length words ≤ most_words
words_within m n words e = ltb-false most_words (length words) (neither (ltb limit n || ltb limit m) (ltb most_words (length words)) e).1

-- ---- a row that holds answers, and one that does not leaves it to the others

pub record Answers (rows : List (Fact Ending)) (r : Refusal) : Type 0 where
  pub is : r ≡ as_refusal (first_of rows)

pub here : {e : Ending} {t : Bool} {rows : List (Fact Ending)} → t ≡ true → Answers ((e when t) ∷ rows) (Refused e)
unfolding first_of
here h = record { is = rw h }

pub past : {e : Ending} {t : Bool} {rows : List (Fact Ending)} {r : Refusal} → t ≡ false → Answers rows r → Answers ((e when t) ∷ rows) r
unfolding first_of
past h rest = record { is = rw h rest.is }

pub none_left : Answers [] Accepted
unfolding first_of
none_left = record { is = refl }

-- ---- the table of a problem whose A stands in two slices

-- where sizes are too large fact 3 is not asked
third_unasked : (first second : Bool) {third third' : Bool} (rest : List (Fact Ending)) → (second ≡ false → third ≡ third')
    → first_of ((BadParam when first) ∷ (TooLarge when second) ∷ (InvalidOp when third) ∷ rest) ≡ first_of ((BadParam when first) ∷ (TooLarge when second) ∷ (InvalidOp when third') ∷ rest)
unfolding first_of
third_unasked true second rest same = refl
third_unasked false true rest same = refl
third_unasked false false rest same = rw (same refl)

-- not all of three, in the order of the table
any_wrong : (s c b : Bool) → not (s && c && b) ≡ (not c || not s || not b)
any_wrong true true b = refl
any_wrong true false b = refl
any_wrong false true b = refl
any_wrong false false b = refl

module _ (par : SolverParam) (m n : ℕ) (words : List ℕ) (work cone : ℕ) where
  abbrev others : List Float → List Float → List Float → List (Fact Ending)
  others c a b = plain_table m n c a b (plain_words words) work cone

  -- dense A in two slices
  module _ (n1 : ℕ) (c factory lesson b : List Float) where
    abbrev split_shape : Shape
    split_shape = record { rows = record { 0 = m }; cols = record { 0 = n }; storage = Dense; first = record { 0 = n1 } }

    split_third : large_sizes m n words ≡ false → not (operators_fit split_shape c (slices factory lesson) b) ≡ (not (eqb (length c) n) || not (split_lengths m n n1 factory lesson) || not (eqb (length b) m))
    split_third e =
        let w = sizes_within m n words e in
        rw (le-leb m limit w.0, le-leb n limit w.1) (any_wrong (split_lengths m n n1 factory lesson) (eqb (length c) n) (eqb (length b) m))

    pub parts_of_split : parts_refusal par split_shape c (slices factory lesson) b words work cone ≡ split_refusal (split_of m n n1 c factory lesson b words par) work cone
    unfolding parts_refusal split_refusal
    parts_of_split = ap as_refusal (third_unasked (bad_param par) (large_sizes m n words) (others c (factory ++ lesson) b) split_third)

  -- A in one slice, and nothing in the second
  module _ (c a b : List Float) where
    abbrev whole_shape : Storage → Shape
    whole_shape storage = record { rows = record { 0 = m }; cols = record { 0 = n }; storage = storage; first = record { 0 = n } }

    whole_third : (storage : Storage) → large_sizes m n words ≡ false → not (operators_fit (whole_shape storage) c (slices a []) b) ≡ wrong_lengths m n storage c a b
    whole_third Dense e =
        let w = sizes_within m n words e in
        let none : m * (n - n) ≡ 0 = rw (sub_self n) (mul-zero m) in
        rw (le-leb m limit w.0, le-leb n limit w.1, le-leb n n (omega arith), none) (go (eqb (length a) (m * n)) (eqb (length c) n) (eqb (length b) m))
      where
        go : (a c b : Bool) → not ((a && true) && c && b) ≡ (not c || false || not a || not b)
        go true true b = refl
        go true false b = refl
        go false true b = refl
        go false false b = refl
    whole_third Packed e =
        let w = sizes_within m n words e in
        rw (le-leb m limit w.0) (go (eqb m n) (eqb (length a) (triangle m)) (eqb (length c) n) (eqb (length b) m))
      where
        go : (q a c b : Bool) → not (((q && true) && a) && c && b) ≡ (not c || not q || not a || not b)
        go true true true b = refl
        go true true false b = refl
        go true false true b = refl
        go true false false b = refl
        go false a true b = refl
        go false a false b = refl

    pub parts_of_whole : (storage : Storage) → parts_refusal par (whole_shape storage) c (slices a []) b words work cone ≡ refusal (problem_of m n storage c a b words par) work cone
    unfolding parts_refusal refusal
    parts_of_whole storage = rw (append-nil a) (ap as_refusal (third_unasked (bad_param par) (large_sizes m n words) (others c a b) (whole_third storage)))

-- the first of it that applies
module _ (par : SolverParam) (shape : Shape) (c : List Float) (a : Slices) (b : List Float) (words : List ℕ) (work cone : ℕ) where
  pub answers : {r : Refusal} → Answers (parts_table par shape c a b words work cone) r → r ≡ parts_refusal par shape c a b words work cone
  unfolding parts_refusal
  answers first = first.is

-- the first of the last three that applies, and what that is for all
module _ (m n : ℕ) (c a b : List Float) (words : List ℕ) (work cone : ℕ) where
  pub plain_answers : {r : Refusal} → Answers (plain_table m n c a b words work cone) r → r ≡ plain_refusal m n c a b words work cone
  unfolding plain_refusal
  plain_answers first = first.is

  pub plain-answered : {r : Refusal} (list : List ℕ) → list ≡ words → r ≡ plain_refusal m n c a b list work cone → Answers (plain_table m n c a b words work cone) r
  unfolding plain_refusal
  plain-answered list same e = record { is = rw same at e }
