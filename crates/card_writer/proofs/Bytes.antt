-- Laws of bits as bytes, the last one filled up with zero bits.
use Prim.Native.Nat.{ℕ, zero, suc, ◌+◌, ◌-◌, ◌*◌, ◌≤◌, ◌<◌}
use native.Mathlib.Nat.{zero-add, mul-suc}
use native.Mathlib.Numerals.{add-one}
use native.Mathlib.Omega.{arith}
use mathlib.Core.Path.{◌≡◌, refl, sym, ap, ◌∙◌}
use mathlib.Core.Bool.{Bool, true, false}
use mathlib.Core.List.{List, [], ◌∷◌, ◌++◌}
use lib.Dec.{ltb}
use lib.ListN.{length, drop, get_or, set, replicate, length-append, length-drop, length-replicate, get_or-replicate, get_or-append, get_or-eq_default}
use Rattle.std.proofs.Common.{append-nil}
use lib.Seq.{drop-length, get_or-drop, get_or-append-add, drop-drop}
use borrow.Author.Tests.{ltb-true, ltb-false}
use Rattle.card.specs.Card.{bytes_of}
use Rattle.card.specs.Fields.{field_at}
use Rattle.card_writer.specs.Bytes.{byte_at}
use Rattle.card.proofs.Bits.{field_more, stored}

pub padded_bit : (bits : List ℕ) (a k : ℕ) → k < 8 → get_or (drop a bits ++ replicate 8 0) k 0 ≡ get_or bits (a + k) 0
padded_bit bits a k h = go (ltb k (length (drop a bits))) refl
  where
    go : (t : Bool) → ltb k (length (drop a bits)) ≡ t → get_or (drop a bits ++ replicate 8 0) k 0 ≡ get_or bits (a + k) 0
    go true e = get_or-append (drop a bits) (replicate 8 0) 0 k (ltb-true k (length (drop a bits)) e) ∙ get_or-drop a bits k 0
    go false e =
        let d : length (drop a bits) ≤ k = ltb-false k (length (drop a bits)) e in
        let i : length (drop a bits) + (k - length (drop a bits)) ≡ k = omega arith in
        let out : length bits ≤ a + k = omega (arith, length-drop a bits) in
        ap (λ (j : ℕ). get_or (drop a bits ++ replicate 8 0) j 0) (sym i)
        ∙ get_or-append-add (drop a bits) (replicate 8 0) (k - length (drop a bits)) 0
        ∙ get_or-replicate 8 (k - length (drop a bits)) 0 0 (omega arith)
        ∙ sym (get_or-eq_default bits 0 {n = a + k} out)

pub padded_length : (bits : List ℕ) (a : ℕ) → 8 ≤ length (drop a bits ++ replicate 8 0)
padded_length bits a = rw (length-append (drop a bits) (replicate 8 0), length-replicate {A = ℕ} 8 0) (omega arith)

-- one bit more of a byte
pub byte_more : (bits : List ℕ) (i v b k : ℕ) → k < 8 → v ≡ field_at 0 k (drop (8 * i) bits ++ replicate 8 0) → b ≡ get_or bits (8 * i + k) 0
    → v * 2 + b ≡ field_at 0 (k + 1) (drop (8 * i) bits ++ replicate 8 0)
byte_more bits i v b k h e f =
    let l : 0 + k < length (drop (8 * i) bits ++ replicate 8 0) = omega (arith, padded_length bits (8 * i)) in
    rw (add-one k, field_more 0 k (drop (8 * i) bits ++ replicate 8 0) l, zero-add k, padded_bit bits (8 * i) k h, ← e, ← f) (omega arith)

-- one byte more

pub bytes_of-length : (k : ℕ) (bits : List ℕ) → length (bytes_of k bits) ≡ k
unfolding bytes_of
bytes_of-length zero bits = refl
bytes_of-length (suc k) bits = ap suc (bytes_of-length k (drop 8 bits))

pub bytes_of_more : (k : ℕ) (bits : List ℕ) → bytes_of (suc k) bits ≡ bytes_of k bits ++ byte_at bits k ∷ []
unfolding bytes_of byte_at
bytes_of_more zero bits = refl
bytes_of_more (suc k) bits =
    let e : 8 + 8 * k ≡ 8 * suc k = rw (mul-suc 8 k) (omega arith) in
    let d : drop (8 * k) (drop 8 bits) ≡ drop (8 * suc k) bits = drop-drop (8 * k) 8 bits ∙ ap (λ (n : ℕ). drop n bits) e in
    ap (λ (l : List ℕ). field_at 0 8 (bits ++ replicate 8 0) ∷ l) (bytes_of_more k (drop 8 bits) ∙ ap (λ (l : List ℕ). bytes_of k (drop 8 bits) ++ field_at 0 8 (l ++ replicate 8 0) ∷ []) d)

pub byte_written : (k : ℕ) (bits l bytes : List ℕ) (v : ℕ) → bytes ≡ bytes_of k bits ++ drop k l → k < length l → v ≡ byte_at bits k
    → set bytes k v ≡ bytes_of (k + 1) bits ++ drop (k + 1) l
byte_written k bits l bytes v e h f =
    rw (e, f, add-one k, bytes_of_more k bits) (stored (bytes_of k bits) l k (byte_at bits k) (bytes_of-length k bits) h)

pub all_written : (k : ℕ) (bits l bytes : List ℕ) → bytes ≡ bytes_of k bits ++ drop k l → k ≡ length l → bytes ≡ bytes_of (length l) bits
all_written k bits l bytes e h = rw (e, h, drop-length l) (append-nil (bytes_of (length l) bits))
