-- Laws of a field, bit by bit, and of fields one after another.
use Prim.Native.Nat.{ℕ, zero, suc, ◌+◌, ◌*◌, ◌^◌, ◌<◌}
use native.Mathlib.Nat.{mul-zero, mul-suc, pow-suc, pow-le-pow_right}
use native.Mathlib.Numerals.{add-one}
use native.Mathlib.Omega.{arith}
use mathlib.Core.Path.{◌≡◌, refl, sym, ap}
use mathlib.Core.List.{List, [], ◌∷◌, ◌++◌}
use lib.ListN.{length, take, drop, get_or, set, length-drop}
use Rattle.std.proofs.Common.{append-nil}
use lib.Seq.{drop-length, take-suc, drop-cons, get_or-drop, append_snoc, set_at}
use Rattle.card.specs.Card.{value_from}
use Rattle.card.specs.Fields.{field_at, fields_at}

-- ---- a field, bit by bit

pub value_snoc : (v : ℕ) (xs : List ℕ) (b : ℕ) → value_from v (xs ++ b ∷ []) ≡ 2 * value_from v xs + b
unfolding value_from
value_snoc v [] b = refl
value_snoc v (x ∷ xs) b = value_snoc (2 * v + x) xs b

pub field_none : (at : ℕ) (bits : List ℕ) → field_at at 0 bits ≡ 0
unfolding field_at
field_none at bits = refl

pub field_more : (at k : ℕ) (bits : List ℕ) → at + k < length bits → field_at at (suc k) bits ≡ 2 * field_at at k bits + get_or bits (at + k) 0
unfolding field_at
field_more at k bits h =
    let l : k < length (drop at bits) = rw (length-drop at bits) (omega arith) in
    rw (take-suc (drop at bits) k 0 l, value_snoc 0 (take k (drop at bits)) (get_or (drop at bits) k 0), get_or-drop at bits k 0)

-- before the last bit there is room for one more
pub bit_room : (v k : ℕ) → v < 2 ^ k → k < 64 → v < 9223372036854775808
bit_room v k below h = omega (arith, pow-le-pow_right {n = 2} (omega arith) {i = k} {j = 63} (omega arith))

pub bit_below : (v b k : ℕ) → v < 2 ^ k → b < 2 → v * 2 + b < 2 ^ (k + 1)
bit_below v b k below h = rw (add-one k, pow-suc 2 k) (omega arith)

-- ---- fields, one after another

pub fields_length : (k at w : ℕ) (bits : List ℕ) → length (fields_at k at w bits) ≡ k
unfolding fields_at
fields_length zero at w bits = refl
fields_length (suc k) at w bits = ap suc (fields_length k (at + w) w bits)

pub fields_more : (k at w : ℕ) (bits : List ℕ) → fields_at (suc k) at w bits ≡ fields_at k at w bits ++ field_at (at + w * k) w bits ∷ []
unfolding fields_at
fields_more zero at w bits =
    let e : at + w * 0 ≡ at = omega (arith, mul-zero w) in
    rw e
fields_more (suc k) at w bits =
    let e : at + w * suc k ≡ at + w + w * k = rw (mul-suc w k) (omega arith) in
    rw e (ap (λ (l : List ℕ). field_at at w bits ∷ l) (fields_more k (at + w) w bits))

-- ---- a front that grows by one place

pub stored : (xs l : List ℕ) (i v : ℕ) → length xs ≡ i → i < length l → set (xs ++ drop i l) i v ≡ (xs ++ v ∷ []) ++ drop (suc i) l
stored xs l i v e h =
    rw (drop-cons l i 0 h, set_at xs (get_or l i 0) (drop (suc i) l) v i e) (sym (append_snoc xs v (drop (suc i) l)))

pub filled : (k at w : ℕ) (bits l ws : List ℕ) (v : ℕ) → ws ≡ fields_at k at w bits ++ drop k l → k < length l → v ≡ field_at (at + w * k) w bits
    → set ws k v ≡ fields_at (k + 1) at w bits ++ drop (k + 1) l
filled k at w bits l ws v e h f =
    rw (e, f, add-one k, fields_more k at w bits) (stored (fields_at k at w bits) l k (field_at (at + w * k) w bits) (fields_length k at w bits) h)

pub all_filled : (k at w : ℕ) (bits l ws : List ℕ) → ws ≡ fields_at k at w bits ++ drop k l → k ≡ length l → ws ≡ fields_at (length l) at w bits
all_filled k at w bits l ws e h = rw (e, h, drop-length l) (append-nil (fields_at (length l) at w bits))
