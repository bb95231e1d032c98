-- Document 02, request (viii): a cone list with groups, and the plain list that it says. All of document 01 is over the plain list, but for the limit of
-- words, which counts every word.
use Rattle.std.specs.Prelude.{ℕ, zero, suc, ◌-◌, ◌<◌, ◌≡◌, Bool, true, false, cond, ◌&&◌, ◌||◌, List, [], ◌∷◌, ◌++◌, leb, ltb, eqb, length, take, drop}
use Rattle.rules.specs.Limits.{most_deep}
use Rattle.rules.specs.Blocks.{kind_of, size_of}

-- "Kind 7 becomes a group"
abbrev pub is_group : ℕ → Bool
is_group word = eqb (kind_of word) 7

-- "At most 8 groups deep; deeper, or running past the enclosing list, is BadCone.": whether a word is a group that can be read, where so many levels
-- are left and so many words follow it in its list
unfoldable pub opens : ℕ → ℕ → ℕ → Bool
opens levels word following = is_group word && ltb 0 levels && leb (size_of word) following

-- ".. whose 13 bits give the number of following words that belong to it, inner groups included.": how many of the following words belong to an item
abbrev pub own_of : Bool → ℕ → ℕ
own_of true word = size_of word
own_of false word = 0

-- What an item says: a group, what its words say, and nothing of itself: "Groups have no places of their own; block numbers count plain blocks only."; any
-- other word, itself. A group that can't be read stays where it stands, and makes the list a BadCone: in a plain list kind 7 is no kind of block.
abbrev pub item_of : Bool → ℕ → List ℕ → List ℕ
item_of true word within = within
item_of false word within = word ∷ []

-- "A list is read item by item, and an item that is a group is read as a list.": of a list of at most so many words
unfoldable pub plain_up_to : ℕ → ℕ → List ℕ → List ℕ
unfolding opens
plain_up_to zero levels words = []
plain_up_to (suc more) levels [] = []
plain_up_to (suc more) levels (word ∷ words) =
    let opened = opens levels word (length words) in
    let own = own_of opened word in
    let within = plain_up_to more (levels - 1) (take own words) in
    let rest = plain_up_to more levels (drop own words) in
    item_of opened word within ++ rest

-- of a list in which groups may stand so many levels deep
unfoldable pub plain_at : ℕ → List ℕ → List ℕ
unfolding plain_up_to
plain_at levels words = plain_up_to (length words) levels words

-- the plain words of a list, in its order
unfoldable pub plain_words : List ℕ → List ℕ
unfolding plain_at
plain_words words = plain_at most_deep words

-- ---- the same without a reader

-- A list with groups up to so many levels deep says these plain words.
pub data Says : ℕ → List ℕ → List ℕ → Type 0 where
  nothing : (levels : ℕ) → Says levels [] []
  plain : (levels word : ℕ) (words said : List ℕ) → is_group word ≡ false
      → Says levels words said
      → Says levels (word ∷ words) (word ∷ said)
  group : (levels word : ℕ) (own inside words said : List ℕ) → is_group word ≡ true → size_of word ≡ length own
      → Says levels own inside
      → Says (suc levels) words said
      → Says (suc levels) (word ∷ own ++ words) (inside ++ said)

-- "deeper, or running past the enclosing list": somewhere in the list a group stands too deep, or runs past the list that it stands in
pub data Unreadable : ℕ → List ℕ → Type 0 where
  too_deep : (word : ℕ) (words : List ℕ) → is_group word ≡ true → Unreadable 0 (word ∷ words)
  runs_past : (levels word : ℕ) (words : List ℕ) → is_group word ≡ true → length words < size_of word → Unreadable levels (word ∷ words)
  inside : (levels word : ℕ) (own words : List ℕ) → is_group word ≡ true → size_of word ≡ length own
      → Unreadable levels own
      → Unreadable (suc levels) (word ∷ own ++ words)
  after_group : (levels word : ℕ) (own words : List ℕ) → is_group word ≡ true → size_of word ≡ length own
      → Unreadable (suc levels) words
      → Unreadable (suc levels) (word ∷ own ++ words)
  after-plain : (levels word : ℕ) (words : List ℕ) → is_group word ≡ false → Unreadable levels words → Unreadable levels (word ∷ words)

-- a list that says something, or can't be read
pub data Reading (levels : ℕ) (words : List ℕ) : Type 0 where
  says : (said : List ℕ) → Says levels words said → Reading levels words
  fails : Unreadable levels words → Reading levels words

unfoldable pub has_group : List ℕ → Bool
has_group [] = false
has_group (word ∷ words) = is_group word || has_group words

-- its words but for the groups, in order
unfoldable pub without_groups : List ℕ → List ℕ
without_groups [] = []
without_groups (word ∷ words) = cond (is_group word) (without_groups words) (word ∷ without_groups words)
