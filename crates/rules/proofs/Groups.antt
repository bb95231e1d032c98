-- Laws of a cone list with groups, and of the plain list that it says.
use Prim.Native.Nat.{ℕ, zero, suc, ◌+◌, ◌-◌, ◌≤◌, ◌<◌}
use native.Mathlib.Omega.{arith}
use mathlib.Core.Path.{◌≡◌, refl, sym, ap, subst, ◌∙◌}
use mathlib.Core.Logic.{◌↔◌}
use mathlib.Core.Bool.{Bool, true, false, not, ◌&&◌, ◌||◌, true≢false}
use mathlib.Core.List.{List, [], ◌∷◌, ◌++◌}
use lib.Dec.{leb, ltb, eqb}
use lib.ListN.{length, take, drop, get_or, length-append, length-take, length-drop, take-append-drop}
use lib.Seq.{take_at, drop_at, drop-cons, drop-drop, length-take-le}
use borrow.Author.Tests.{leb-true, ltb-true, eqb-true, le-leb, lt-ltb}
use Rattle.rules.specs.Limits.{most_deep}
use Rattle.rules.specs.Blocks.{Bad, kind_of, size_of, read_word, is_bad, has_bad_word, blocks_of, total_places, is_bad_cone}
use Rattle.rules.specs.Groups.{is_group, opens, own_of, item_of, plain_up_to, plain_at, plain_words, Says, nothing, plain, group, has_group}
use Rattle.rules.proofs.Matrices.{both_true, neither}
use Rattle.rules.proofs.Blocks.{reserved}

-- ---- an item's own words, and those after it

pub take_short : (n : ℕ) (words : List ℕ) → length (take n words) ≤ length words
take_short n words = rw (length-take n words) (omega arith)

pub drop_short : (n : ℕ) (words : List ℕ) → length (drop n words) ≤ length words
drop_short n words = rw (length-drop n words) (omega arith)

parts_long : (n : ℕ) (words : List ℕ) → length (take n words) + length (drop n words) ≡ length words
parts_long n words = sym (length-append (take n words) (drop n words)) ∙ ap length (take-append-drop n words)

-- ---- reading more words than a list has changes nothing

same_read : (k l levels : ℕ) (words : List ℕ) → length words ≤ k → length words ≤ l → plain_up_to k levels words ≡ plain_up_to l levels words
unfolding plain_up_to
same_read zero zero levels words h i = refl
same_read zero (suc l) levels [] h i = refl
same_read zero (suc l) levels (word ∷ words) h i = absurd (omega (arith, h))
same_read (suc k) zero levels [] h i = refl
same_read (suc k) zero levels (word ∷ words) h i = absurd (omega (arith, i))
same_read (suc k) (suc l) levels [] h i = refl
same_read (suc k) (suc l) levels (word ∷ words) h i =
    let own = own_of (opens levels word (length words)) word in
    let t = take_short own words in
    let d = drop_short own words in
    rw (same_read k l (levels - 1) (take own words) (omega arith) (omega arith), same_read k l levels (drop own words) (omega arith) (omega arith))

-- ---- a list, item by item

pub plain_none : (levels : ℕ) → plain_at levels [] ≡ []
unfolding plain_at plain_up_to
plain_none levels = refl

plain_step : (levels word : ℕ) (words : List ℕ)
    → (let opened = opens levels word (length words) in plain_at levels (word ∷ words) ≡ item_of opened word (plain_at (levels - 1) (take (own_of opened word) words)) ++ plain_at levels (drop (own_of opened word) words))
unfolding plain_at plain_up_to
plain_step levels word words =
    let own = own_of (opens levels word (length words)) word in
    rw (same_read (length words) (length (take own words)) (levels - 1) (take own words) (take_short own words) (omega arith), same_read (length words) (length (drop own words)) levels (drop own words) (drop_short own words) (omega arith))

-- from place i on: the item there, and the words after it
pub plain_item : (levels : ℕ) (words : List ℕ) (i : ℕ) → i < length words → (opened : Bool) → opened ≡ opens levels (get_or words i 0) (length words - i - 1) → (own : ℕ) → own ≡ own_of opened (get_or words i 0)
    → plain_at levels (drop i words) ≡ item_of opened (get_or words i 0) (plain_at (levels - 1) (take own (drop (i + 1) words))) ++ plain_at levels (drop (i + 1 + own) words)
plain_item levels words i there opened is own so =
    let word = get_or words i 0 in
    let next : i + 1 ≡ suc i = omega arith in
    let following : length words - i - 1 ≡ length (drop (suc i) words) = omega (arith, length-drop (suc i) words) in
    let same : opens levels word (length (drop (suc i) words)) ≡ opened = rw (← following) (sym is) in
    let as_many : own_of (opens levels word (length (drop (suc i) words))) word ≡ own = ap (λ t. own_of t word) same ∙ sym so in
    let step = plain_step levels word (drop (suc i) words) in
    rw (drop-cons words i 0 there, next) (rw (as_many, same, drop-drop own (suc i) words) at step)

-- ---- a plain list is no longer than what says it

short_item : (opened : Bool) (word : ℕ) (words within rest : List ℕ) → length within ≤ length (take (own_of opened word) words) → length rest ≤ length (drop (own_of opened word) words)
    → length (item_of opened word within ++ rest) ≤ suc (length words)
short_item true word words within rest h i = rw (length-append within rest) (omega (arith, parts_long (size_of word) words))
short_item false word words within rest h i = omega arith

no_longer_read : (k levels : ℕ) (words : List ℕ) → length (plain_up_to k levels words) ≤ length words
unfolding plain_up_to
no_longer_read zero levels words = omega arith
no_longer_read (suc k) levels [] = omega arith
no_longer_read (suc k) levels (word ∷ words) =
    let opened = opens levels word (length words) in
    let own = own_of opened word in
    short_item opened word words (plain_up_to k (levels - 1) (take own words)) (plain_up_to k levels (drop own words)) (no_longer_read k (levels - 1) (take own words)) (no_longer_read k levels (drop own words))

pub no_longer_at : (levels : ℕ) (words : List ℕ) → length (plain_at levels words) ≤ length words
unfolding plain_at
no_longer_at levels words = no_longer_read (length words) levels words

-- of an item, its own word counted
pub item_no_longer : (opened : Bool) (levels word : ℕ) (own : List ℕ) → length (item_of opened word (plain_at levels own)) ≤ 1 + length own
item_no_longer true levels word own = omega (arith, no_longer_at levels own)
item_no_longer false levels word own = omega arith

pub no_longer : (words : List ℕ) → length (plain_words words) ≤ length words
unfolding plain_words
no_longer words = no_longer_at most_deep words

-- ---- a list without groups is its own plain list

closed : (levels word following : ℕ) → is_group word ≡ false → opens levels word following ≡ false
unfolding opens
closed levels word following free = rw free

itself_read : (k levels : ℕ) (words : List ℕ) → length words ≤ k → has_group words ≡ false → plain_up_to k levels words ≡ words
unfolding plain_up_to has_group
itself_read zero levels [] h free = refl
itself_read zero levels (word ∷ words) h free = absurd (omega (arith, h))
itself_read (suc k) levels [] h free = refl
itself_read (suc k) levels (word ∷ words) h free =
    let f = neither (is_group word) (has_group words) free in
    rw (closed levels word (length words) f.0) (ap (λ rest. word ∷ rest) (itself_read k levels words (omega (arith, h)) f.1))

pub plain_is_itself : (words : List ℕ) → has_group words ≡ false → plain_words words ≡ words
unfolding plain_words plain_at
plain_is_itself words free = itself_read (length words) most_deep words (omega arith) free

-- ---- what a list says, without a reader

no_group_in_both : (words others : List ℕ) → has_group words ≡ false → has_group others ≡ false → has_group (words ++ others) ≡ false
unfolding has_group
no_group_in_both [] others h i = i
no_group_in_both (word ∷ words) others h i =
    let f = neither (is_group word) (has_group words) h in
    rw f.0 (no_group_in_both words others f.1 i)

says_plain : (levels : ℕ) (words said : List ℕ) → Says levels words said → has_group said ≡ false
unfolding has_group
says_plain levels words said (nothing l) = refl
says_plain levels words said (plain l word rest after free s) = rw free (says_plain levels rest after s)
says_plain levels words said (group l word own inside rest after is size inner outer) =
    no_group_in_both inside after (says_plain l own inside inner) (says_plain levels rest after outer)

opened_by : (levels word following : ℕ) → is_group word ≡ true → size_of word ≤ following → opens (suc levels) word following ≡ true
unfolding opens
opened_by levels word following is h =
    let some : ltb 0 (suc levels) ≡ true = lt-ltb 0 (suc levels) (omega arith) in
    rw (is, some, le-leb (size_of word) following h)

says_read : (levels : ℕ) (words said : List ℕ) → Says levels words said → plain_at levels words ≡ said
says_read levels words said (nothing l) = plain_none l
says_read levels words said (plain l word rest after free s) =
    let shut = closed l word (length rest) free in
    plain_step l word rest ∙ rw shut (ap (λ v. word ∷ v) (says_read l rest after s))
says_read levels words said (group l word own inside rest after is size inner outer) =
    let read : opens (suc l) word (length (own ++ rest)) ≡ true = opened_by l word (length (own ++ rest)) is (rw (length-append own rest) (omega arith)) in
    let less : suc l - 1 ≡ l = omega arith in
    plain_step (suc l) word (own ++ rest)
    ∙ rw (read, less, size, take_at own rest (length own) refl, drop_at own rest (length own) refl, says_read l own inside inner, says_read (suc l) rest after outer)

-- a group that is read: it is one, a level is left, and its words all follow
pub record Opened (levels word following : ℕ) : Type 0 where
  pub is_group_lem : is_group word ≡ true
  pub some_level : 1 ≤ levels
  pub inside : size_of word ≤ following

pub opened_is : (levels word following : ℕ) → opens levels word following ≡ true → Opened levels word following
unfolding opens
opened_is levels word following e =
    let f = both_true (is_group word && ltb 0 levels) (leb (size_of word) following) e in
    let g = both_true (is_group word) (ltb 0 levels) f.0 in
    record { is_group_lem = g.0; some_level = ltb-true 0 levels g.1; inside = leb-true (size_of word) following f.1 }

no_group_in_either : (words others : List ℕ) → has_group (words ++ others) ≡ false → (has_group words ≡ false) × (has_group others ≡ false)
unfolding has_group
no_group_in_either [] others h = (refl, h)
no_group_in_either (word ∷ words) others h =
    let f = neither (is_group word) (has_group (words ++ others)) h in
    let g = no_group_in_either words others f.1 in
    (rw f.0 g.0, g.1)

-- a list that is read with no group left says what was read
module _ (word : ℕ) (words : List ℕ) where
  open_item : (levels : ℕ) (inside after : List ℕ) → Opened levels word (length words) → Says (levels - 1) (take (size_of word) words) inside → Says levels (drop (size_of word) words) after → Says levels (word ∷ words) (inside ++ after)
  open_item zero inside after o inner outer = absurd (omega (arith, o.some_level))
  open_item (suc levels) inside after o inner outer =
      let less : suc levels - 1 ≡ levels = omega arith in
      let long = length-take-le (size_of word) words o.inside in
      let whole : Says (suc levels) (word ∷ take (size_of word) words ++ drop (size_of word) words) (inside ++ after) =
      group levels word (take (size_of word) words) inside (drop (size_of word) words) after o.is_group_lem (sym long) (rw less at inner) outer in
      rw (take-append-drop (size_of word) words) at whole

  -- the item by whether it is read as a group
  either_item : (levels : ℕ) (opened : Bool) → opens levels word (length words) ≡ opened → (within rest : List ℕ) → has_group (item_of opened word within ++ rest) ≡ false
      → (has_group within ≡ false → Says (levels - 1) (take (own_of opened word) words) within) → (has_group rest ≡ false → Says levels (drop (own_of opened word) words) rest)
      → Says levels (word ∷ words) (item_of opened word within ++ rest)
  unfolding has_group
  either_item levels true e within rest free inner outer =
      let f = no_group_in_either within rest free in
      open_item levels within rest (opened_is levels word (length words) e) (inner f.0) (outer f.1)
  either_item levels false e within rest free inner outer =
      let f = neither (is_group word) (has_group rest) free in
      plain levels word words rest f.0 (outer f.1)

read_says : (k levels : ℕ) (words : List ℕ) → length words ≤ k → has_group (plain_up_to k levels words) ≡ false → Says levels words (plain_up_to k levels words)
unfolding plain_up_to
read_says zero levels [] h free = nothing levels
read_says zero levels (word ∷ words) h free = absurd (omega (arith, h))
read_says (suc k) levels [] h free = nothing levels
read_says (suc k) levels (word ∷ words) h free =
    let opened = opens levels word (length words) in
    let own = own_of opened word in
    let t : length (take own words) ≤ k = omega (arith, h, take_short own words) in
    let d : length (drop own words) ≤ k = omega (arith, h, drop_short own words) in
    either_item word words levels opened refl (plain_up_to k (levels - 1) (take own words)) (plain_up_to k levels (drop own words)) free
    (λ e. read_says k (levels - 1) (take own words) t e)
    (λ e. read_says k levels (drop own words) d e)

pub read_exactly : (words said : List ℕ) → Says most_deep words said ↔ ((plain_words words ≡ said) × (has_group said ≡ false))
unfolding plain_words plain_at
read_exactly words said =
    (λ s. (says_read most_deep words said s, says_plain most_deep words said s), λ f. subst (λ (v : List ℕ). Says most_deep words v) f.0 (read_says (length words) most_deep words (omega arith) (rw f.0 f.1)))

-- ---- in a plain list a group is a bad word, and no block

pub group_is_no_block : (word : ℕ) → is_group word ≡ true → read_word word ≡ Bad
unfolding read_word
group_is_no_block word is =
    let seven : kind_of word ≡ 7 = eqb-true (kind_of word) 7 is in
    reserved (kind_of word) (size_of word) (omega (arith, seven))

pub no_bad_word_no_group : (words : List ℕ) → has_bad_word words ≡ false → has_group words ≡ false
unfolding has_bad_word has_group
no_bad_word_no_group [] free = refl
no_bad_word_no_group (word ∷ words) free =
    let f = neither (is_bad (read_word word)) (has_bad_word words) free in
    rw (no_group (is_group word) refl f.0) (no_bad_word_no_group words f.1)
  where
    no_group : (t : Bool) → is_group word ≡ t → is_bad (read_word word) ≡ false → is_group word ≡ false
    no_group true e good = absurd (true≢false (sym (ap is_bad (group_is_no_block word e)) ∙ good))
    no_group false e good = e

pub group_is_bad_cone : (words : List ℕ) (m : ℕ) → has_group words ≡ true → is_bad_cone words m ≡ true
unfolding is_bad_cone
group_is_bad_cone words m some = go (has_bad_word words) refl
  where
    go : (t : Bool) → has_bad_word words ≡ t → (has_bad_word words || not (eqb (total_places (blocks_of words)) m)) ≡ true
    go true e = rw e
    go false e = absurd (true≢false (sym some ∙ no_bad_word_no_group words e))
