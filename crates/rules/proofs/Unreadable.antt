-- Every list says something or can't be read, and none does both.
use Prim.Native.Nat.{ℕ, zero, suc, ◌<◌, ◌≤◌}
use native.Mathlib.Omega.{arith}
use mathlib.Core.Path.{◌≡◌, refl, sym, ap, subst, ◌∙◌}
use mathlib.Core.Bool.{Bool, true, false, cond, true≢false}
use mathlib.Core.List.{List, [], ◌∷◌, ◌++◌}
use lib.Dec.{leb}
use lib.ListN.{length, take, drop, length-append, take-append-drop}
use lib.Seq.{take_at, drop_at, length-take-le}
use borrow.Author.Tests.{leb-true, leb-false}
use Rattle.rules.specs.Limits.{most_deep}
use Rattle.rules.specs.Blocks.{size_of}
use Rattle.rules.specs.Groups.{is_group, Says, nothing, plain, group, Unreadable, too_deep, runs_past, inside, after_group, after-plain, Reading, says, fails, without_groups}
use Rattle.rules.proofs.Groups.{take_short, drop_short}

-- ---- what can't be read says nothing

-- what a list says whose first word is a group, and one whose first is not
record OpenedSays (levels word : ℕ) (words : List ℕ) : Type 0 where
  in_said : List ℕ
  out_said : List ℕ
  inner : Says levels (take (size_of word) words) in_said
  outer : Says (suc levels) (drop (size_of word) words) out_said

opened_says : (levels word : ℕ) (words said : List ℕ) → is_group word ≡ true → Says (suc levels) (word ∷ words) said → OpenedSays levels word words
opened_says levels word words said is (plain l w rest after free s) = absurd (true≢false (sym is ∙ free))
opened_says levels word words said is (group l w own within rest after is2 size inner outer) =
    record { in_said = within; out_said = after; inner = rw (size, take_at own rest (length own) refl) inner; outer = rw (size, drop_at own rest (length own) refl) outer }

record PlainSays (levels : ℕ) (words : List ℕ) : Type 0 where
  rest_said : List ℕ
  rest : Says levels words rest_said

plain_says : (levels word : ℕ) (words said : List ℕ) → is_group word ≡ false → Says levels (word ∷ words) said → PlainSays levels words
plain_says levels word words said free (plain l w rest after free2 s) = record { rest_said = after; rest = s }
plain_says levels word words said free (group l w own within rest after is size inner outer) = absurd (true≢false (sym is ∙ free))

too_deep_says_nothing : (word : ℕ) (words said : List ℕ) → is_group word ≡ true → Says 0 (word ∷ words) said → ⊥
too_deep_says_nothing word words said is (plain l w rest after free s) = true≢false (sym is ∙ free)

past_says_nothing : (levels word : ℕ) (words said : List ℕ) → is_group word ≡ true → length words < size_of word → Says levels (word ∷ words) said → ⊥
past_says_nothing levels word words said is past (plain l w rest after free s) = true≢false (sym is ∙ free)
past_says_nothing levels word words said is past (group l w own within rest after is2 size inner outer) = omega (arith, past, size, length-append own rest)

pub unreadable_says_nothing : (levels : ℕ) (words : List ℕ) → Unreadable levels words → (said : List ℕ) → Says levels words said → ⊥
unreadable_says_nothing levels words (too_deep word rest is) said s = too_deep_says_nothing word rest said is s
unreadable_says_nothing levels words (runs_past l word rest is past) said s = past_says_nothing l word rest said is past s
unreadable_says_nothing levels words (inside l word own rest is size u) said s =
    let p = opened_says l word (own ++ rest) said is s in
    unreadable_says_nothing l own u p.in_said (rw (size, take_at own rest (length own) refl) at p.inner)
unreadable_says_nothing levels words (after_group l word own rest is size u) said s =
    let p = opened_says l word (own ++ rest) said is s in
    unreadable_says_nothing (suc l) rest u p.out_said (rw (size, drop_at own rest (length own) refl) at p.outer)
unreadable_says_nothing levels words (after-plain l word rest free u) said s =
    let p = plain_says l word rest said free s in
    unreadable_says_nothing l rest u p.rest_said p.rest

-- ---- what can be read says something

past_plain : (levels word : ℕ) (words : List ℕ) → is_group word ≡ false → Reading levels words → Reading levels (word ∷ words)
past_plain levels word words free (says said s) = says (word ∷ said) (plain levels word words said free s)
past_plain levels word words free (fails u) = fails (after-plain levels word words free u)

past_group : (levels word : ℕ) (own words : List ℕ) → is_group word ≡ true → size_of word ≡ length own → Reading levels own → Reading (suc levels) words → Reading (suc levels) (word ∷ own ++ words)
past_group levels word own words is size (fails u) r = fails (inside levels word own words is size u)
past_group levels word own words is size (says within s) (fails u) = fails (after_group levels word own words is size u)
past_group levels word own words is size (says within s) (says said t) = says (within ++ said) (group levels word own within words said is size s t)

reading_of : (k levels : ℕ) (words : List ℕ) → length words ≤ k → Reading levels words
reading_of zero levels [] h = says [] (nothing levels)
reading_of (suc k) levels [] h = says [] (nothing levels)
reading_of zero levels (word ∷ words) h = absurd (omega (arith, h))
reading_of (suc k) levels (word ∷ words) h =
    let size = size_of word in
    let t : length (take size words) ≤ k = omega (arith, h, take_short size words) in
    let d : length (drop size words) ≤ k = omega (arith, h, drop_short size words) in
    by_kind levels (is_group word) refl (λ l. reading_of k l words (omega (arith, h))) (λ l. reading_of k l (take size words) t) (λ l. reading_of k l (drop size words) d)
  where
    by_size : (l : ℕ) → is_group word ≡ true → (fits : Bool) → leb (size_of word) (length words) ≡ fits → Reading l (take (size_of word) words) → Reading (suc l) (drop (size_of word) words) → Reading (suc l) (word ∷ words)
    by_size l is false e inner outer = fails (runs_past (suc l) word words is (leb-false (size_of word) (length words) e))
    by_size l is true e inner outer =
        subst (λ (v : List ℕ). Reading (suc l) (word ∷ v)) (take-append-drop (size_of word) words)
        (past_group l word (take (size_of word) words) (drop (size_of word) words) is (sym (length-take-le (size_of word) words (leb-true (size_of word) (length words) e))) inner outer)

    by_kind : (l : ℕ) (t : Bool) → is_group word ≡ t → ((l : ℕ) → Reading l words) → ((l : ℕ) → Reading l (take (size_of word) words)) → ((l : ℕ) → Reading l (drop (size_of word) words)) → Reading l (word ∷ words)
    by_kind l false e all inner outer = past_plain l word words e (all l)
    by_kind zero true e all inner outer = fails (too_deep word words e)
    by_kind (suc l) true e all inner outer = by_size l e (leb (size_of word) (length words)) refl (inner l) (outer (suc l))

pub reading : (words : List ℕ) → Reading most_deep words
reading words = reading_of (length words) most_deep words (omega arith)

-- ---- what it says are its own words but for the groups, in order

without_both : (words others : List ℕ) → without_groups (words ++ others) ≡ without_groups words ++ without_groups others
unfolding without_groups
without_both [] others = refl
without_both (word ∷ words) others = go (is_group word) (without_both words others)
  where
    go : (t : Bool) → without_groups (words ++ others) ≡ without_groups words ++ without_groups others
        → cond t (without_groups (words ++ others)) (word ∷ without_groups (words ++ others)) ≡ cond t (without_groups words) (word ∷ without_groups words) ++ without_groups others
    go true e = e
    go false e = ap (λ (v : List ℕ). word ∷ v) e

pub says_without_groups : (levels : ℕ) (words said : List ℕ) → Says levels words said → said ≡ without_groups words
unfolding without_groups
says_without_groups levels words said (nothing l) = refl
says_without_groups levels words said (plain l word rest after free s) = rw free (ap (λ (v : List ℕ). word ∷ v) (says_without_groups l rest after s))
says_without_groups levels words said (group l word own within rest after is size inner outer) =
    rw (is, says_without_groups l own within inner, says_without_groups (suc l) rest after outer) (sym (without_both own rest))
