-- A list of cone words, read up to an item: the place of the item is counted.
use Prim.Native.Nat.{ℕ, ◌+◌, ◌-◌, ◌≤◌, ◌<◌}
use native.Mathlib.Omega.{arith}
use mathlib.Core.Path.{◌≡◌, refl, sym, ◌∙◌}
use mathlib.Core.Bool.{Bool}
use mathlib.Core.List.{List, [], ◌++◌, append_assoc, append-nil}
use lib.ListN.{length, take, drop, get_or, length-append, length-take, length-drop, drop_of_length-le}
use lib.Seq.{length-take-le}
use Rattle.rules.specs.Groups.{opens, own_of, item_of, plain_at}
use Rattle.rules.proofs.Groups.{plain_none, plain_item, item_no_longer}
use Rattle.groups.specs.Flatten.{Put}
use Rattle.groups.proofs.Reading.{own_follow, put_none, put_on}

-- The words before place i are read: what they say stands in the buffer, and the words from there on say the rest.
pub record ReadTo (levels at : ℕ) (words t₀ : List ℕ) (i end : ℕ) (t : List ℕ) : Type 0 where
  pub within : i ≤ length words
  pub said : List ℕ
  pub put : Put at t₀ said end t
  pub few : length said ≤ i
  pub rest : plain_at levels words ≡ said ++ plain_at levels (drop i words)

pub read_none : (levels at : ℕ) (words t : List ℕ) → ReadTo levels at words t 0 at t
read_none levels at words t = record { within = omega arith; said = []; put = put_none at t; few = omega arith; rest = refl }

pub read_more : (levels : ℕ) {at i end r : ℕ} {words t₀ t t' : List ℕ} → ReadTo levels at words t₀ i end t → i < length words → (opened : Bool) → opened ≡ opens levels (get_or words i 0) (length words - i - 1) → (own : ℕ) → own ≡ own_of opened (get_or words i 0)
    → Put end t (item_of opened (get_or words i 0) (plain_at (levels - 1) (take own (drop (i + 1) words)))) r t' → ReadTo levels at words t₀ (i + 1 + own) r t'
read_more levels {at} {i} {end} {r} {words} f there opened is own so item =
    let word = get_or words i 0 in
    let inner = take own (drop (i + 1) words) in
    let follow = own_follow levels word (length words - i - 1) opened is own so in
    let short : length inner ≤ own = rw (length-take own (drop (i + 1) words)) (omega arith) in
    let more = item_of opened word (plain_at (levels - 1) inner) in
    record {
      within = omega (arith, follow);
      said = f.said ++ more;
      put = put_on f.put item;
      few = rw (length-append f.said more) (omega (arith, f.few, short, item_no_longer opened (levels - 1) word inner));
      rest = f.rest ∙ rw (plain_item levels words i there opened is own so) (sym (append_assoc f.said more (plain_at levels (drop (i + 1 + own) words))));
    }

pub read_all : (levels at : ℕ) (words t₀ : List ℕ) (i end : ℕ) (t : List ℕ) → ReadTo levels at words t₀ i end t → length words ≤ i → Put at t₀ (plain_at levels words) end t
read_all levels at words t₀ i end t f all =
    let none : plain_at levels (drop i words) ≡ [] = rw (drop_of_length-le words all) (plain_none levels) in
    rw (f.rest, none, append-nil f.said) f.put

-- the part that is lent: an item's own words
pub own_part : (own i : ℕ) (words : List ℕ) → i + 1 + own ≤ length words → (take (i + 1 + own - (i + 1)) (drop (i + 1) words) ≡ take own (drop (i + 1) words)) × (length (take (i + 1 + own - (i + 1)) (drop (i + 1) words)) ≡ own)
own_part own i words h =
    let as_many : i + 1 + own - (i + 1) ≡ own = omega arith in
    (rw as_many, rw as_many (length-take-le own (drop (i + 1) words) (rw (length-drop (i + 1) words) (omega arith))))
