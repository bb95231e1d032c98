-- Laws of the two readers: an item's own words, words put one after another, and a list up to an item.
use Prim.Native.Nat.{ℕ, suc, ◌+◌, ◌-◌, ◌≤◌, ◌<◌}
use native.Mathlib.Omega.{arith}
use mathlib.Core.Path.{◌≡◌, refl, sym, ap, ◌∙◌}
use mathlib.Core.Bool.{Bool, true, false}
use mathlib.Core.List.{List, [], ◌∷◌, ◌++◌, append_assoc, append-nil}
use lib.ListN.{length, take, drop, set, length-append, length-take, length-drop}
use Rattle.rules.specs.Groups.{opens, own_of, item_of, plain_at}
use Rattle.rules.proofs.Growing.{grown_none, grown_one, grown_on}
use Rattle.rules.proofs.Groups.{opened_is, plain_none, plain_item, item_no_longer}
use Rattle.groups.specs.Flatten.{Put}

-- ---- an item's own words are among those that follow it, and a group that is read has a level left

module _ (levels word following : ℕ) where
  pub own_follow : (opened : Bool) → opened ≡ opens levels word following → (own : ℕ) → own ≡ own_of opened word → own ≤ following
  own_follow true e own so = omega (arith, so, (opened_is levels word following (sym e)).inside)
  own_follow false e own so = omega (arith, so)

  pub level_left : (opened : Bool) → opened ≡ opens levels word following → opened ≡ true → 1 ≤ levels
  level_left opened e is = (opened_is levels word following (sym e ∙ is)).some_level

-- ---- words put one after another

pub put_none : (at : ℕ) (t : List ℕ) → Put at t [] at t
put_none at t = record { ends = omega arith; grown = grown_none at t }

pub put_one : (at v : ℕ) (t : List ℕ) → at < length t → Put at t (v ∷ []) (at + 1) (set t at v)
put_one at v t h = record { ends = refl; grown = grown_one at v t h }

pub put_on : {at r s : ℕ} {t₀ t₁ t₂ first second : List ℕ} → Put at t₀ first r t₁ → Put r t₁ second s t₂ → Put at t₀ (first ++ second) s t₂
put_on {at} {r} {s} {t₀} {t₁} {t₂} {first} {second} f g =
    record {
      ends = rw (length-append first second) (omega (arith, f.ends, g.ends));
      grown = grown_on at r s t₀ t₁ t₂ first second (omega (arith, g.ends)) f.grown g.grown;
    }

-- ---- a list, up to an item

-- The words before the rest are read: what they say stands in the buffer, and the rest says what is left.
pub record ReadTo (levels at : ℕ) (words t₀ rest : List ℕ) (end : ℕ) (t : List ℕ) : Type 0 where
  pub said : List ℕ
  pub put : Put at t₀ said end t
  pub few : length said + length rest ≤ length words
  pub whole : plain_at levels words ≡ said ++ plain_at levels rest

pub read_none : (levels at : ℕ) (words t : List ℕ) → ReadTo levels at words t words at t
read_none levels at words t = record { said = []; put = put_none at t; few = omega arith; whole = refl }

-- one item more, of the word before the others in the rest and as many of those as are its own
module _ (levels word : ℕ) (following : List ℕ) {opened : Bool} {own : ℕ} (is : opened ≡ opens levels word (length following)) (so : own ≡ own_of opened word) where
  within : List ℕ
  within = plain_at (levels - 1) (take own following)

  one_item : plain_at levels (word ∷ following) ≡ item_of opened word within ++ plain_at levels (drop own following)
  unfolding within
  one_item =
      let places : 0 + 1 + own ≡ suc own = omega arith in
      let left : length (word ∷ following) - 0 - 1 ≡ length following = omega arith in
      rw places at (plain_item levels (word ∷ following) 0 (omega arith) opened (rw left is) own so)

  pub read_more : {at end r : ℕ} {words t₀ t t' rest inner after : List ℕ} → ReadTo levels at words t₀ rest end t
      → rest ≡ word ∷ following → inner ≡ take own following → after ≡ drop own following
      → Put end t (item_of opened word (plain_at (levels - 1) inner)) r t'
      → ReadTo levels at words t₀ after r t'
  unfolding within
  read_more {after} f is_rest is_inner is_after item =
      let more = item_of opened word within in
      let all : plain_at levels (word ∷ following) ≡ more ++ plain_at levels after = rw is_after one_item in
      let item' : Put _ _ more _ _ = rw is_inner at item in
      record {
        said = f.said ++ more;
        put = put_on f.put item';
        few = rw (length-append f.said more) (omega (arith, f.few, ap length is_rest, ap length is_after, own_follow levels word (length following) opened is own so, length-take own following, length-drop own following, item_no_longer opened (levels - 1) word (take own following)));
        whole = f.whole ∙ rw (is_rest, all) (sym (append_assoc f.said more (plain_at levels after)));
      }

empty : (xs : List ℕ) → length xs ≡ 0 → xs ≡ []
empty [] h = refl
empty (x ∷ xs) h = absurd (omega (arith, h))

pub read_all : {levels at : ℕ} {words t₀ rest : List ℕ} {end : ℕ} {t : List ℕ} → ReadTo levels at words t₀ rest end t → length rest ≡ 0 → Put at t₀ (plain_at levels words) end t
read_all {levels} {rest} f none = rw (f.whole, empty rest none, plain_none levels, append-nil f.said) f.put
