-- Laws of a text that grows in a buffer.
use Prim.Native.Nat.{ℕ, ◌+◌, ◌-◌, ◌^◌, ◌≤◌, ◌<◌}
use native.Mathlib.Nat.{pow-le-pow_right}
use native.Mathlib.Numerals.{add-one}
use native.Mathlib.Omega.{arith}
use mathlib.Core.Path.{◌≡◌, refl, sym, ap, ◌∙◌}
use mathlib.Core.Bool.{Bool, true, false}
use mathlib.Core.List.{List, [], ◌∷◌, ◌++◌, append_assoc, append-nil}
use lib.Ieee.{Float, nan, binary64, to_bits}
use lib.Dec.{ltb}
use lib.ListN.{length, take, get_or, length-append}
use borrow.Author.Tests.{ltb-true, ltb-false}
use lib.Seq.{take-suc, take-length, take_at, length-take-le}
use Rattle.io.specs.Digits.{last_digits, IsDigitCount}
use borrow.Rule.Slice.PartMut.{put_mid, post_of, drop_put}
use Rattle.rules.proofs.Growing.{kept_on, grown_on, grown_none}
use Rattle.card_text.specs.Text.{newline, space, number_line, number_lines, Numbered, FirstLine, Ended, Says}
use Rattle.card_text.specs.Growing.{Grown}

-- ---- bytes put one after another

-- a part of a buffer that comes back as the bytes
pub part_put : (at : ℕ) (text bytes part : List ℕ) → at + length bytes ≤ length text → part ≡ bytes → Grown at text bytes (at + length bytes) (put_mid at (at + length bytes - at) text part)
part_put at text bytes part h e =
    let end = at + length bytes in
    let rest = post_of at (end - at) text in
    let long : length (take at text ++ bytes) ≡ end = rw (length-append (take at text) bytes, length-take-le at text (omega arith)) in
    record {
      text = rw e (ap (take end) (sym (append_assoc (take at text) bytes rest)) ∙ take_at (take at text ++ bytes) rest end long);
      kept = rw e (drop_put at end text bytes (omega arith) h (omega arith));
    }

-- ---- a number's digits

pub below : (b least most n k : ℕ) → 1 ≤ b → n < b ^ most → least ≤ most → (least < k → b ^ (k - 1) ≤ n) → k ≤ most
below b least most n k one small l few = go (ltb most k) refl
  where
    go : (longer : Bool) → ltb most k ≡ longer → k ≤ most
    go false e = ltb-false most k e
    go true e =
        let h : most < k = ltb-true most k e in
        let up : b ^ most ≤ b ^ (k - 1) = pow-le-pow_right {n = b} one {i = most} {j = k - 1} (omega arith) in
        let low : b ^ (k - 1) ≤ n = few (omega arith) in
        absurd (omega arith)

pub decimal_places : (n k : ℕ) → n < 18446744073709551616 → IsDigitCount 10 1 n k → k ≤ 20
decimal_places n k small few = below 10 1 20 n k (omega arith) (omega arith) (omega arith) few.2

pub hex_places : (least n k : ℕ) → IsDigitCount 16 least n k → least ≤ 16 → n < 18446744073709551616 → k ≤ 16
hex_places least n k few small below_all = below 16 least 16 n k (omega arith) (omega arith) small few.2

-- ---- a number's decimal digits

pub decimal_put : (n at count r : ℕ) (before after ds : List ℕ) → count ≤ 20 → count ≡ length (take count ds) → IsDigitCount 10 1 n count → take count ds ≡ last_digits 10 count n
    → r ≡ at + length (take count ds)
    → Grown at before (take count ds) r after
    → record { lower_bound : at ≤ r; upper_bound : r ≤ at + 20; digit_count : IsDigitCount 10 1 n (r - at); grown : Grown at before (last_digits 10 (r - at) n) r after }
decimal_put n at count r before after ds within as_many few spelled end grown =
    let e : r - at ≡ count = omega arith in
    record { lower_bound = omega arith; upper_bound = omega arith; digit_count = rw e few; grown = rw (e, ← spelled) grown }

-- ---- a number on a line

pub number_put : (x : Float) (at count middle r : ℕ) (before between after ds : List ℕ) → count ≡ 16 → count ≡ length (take count ds) → take count ds ≡ last_digits 16 count (to_bits binary64 x)
    → middle ≡ at + length (take count ds)
    → Grown at before (take count ds) middle between
    → r ≡ middle + 1
    → Grown middle between newline r after
    → record { value : r ≡ at + 17; grown : Grown at before (number_line x) r after }
number_put x at count middle r before between after ds sixteen as_many spelled end grown last ended =
    let word : take count ds ≡ last_digits 16 16 (to_bits binary64 x) = spelled ∙ ap (λ (k : ℕ). last_digits 16 k (to_bits binary64 x)) sixteen in
    let first : Grown at before (last_digits 16 16 (to_bits binary64 x)) middle between = rw word at grown in
    record { value = omega arith; grown = grown_on at middle r before between after (last_digits 16 16 (to_bits binary64 x)) newline (omega arith) first ended }

-- ---- numbers, each on a line

pub lines_none : (at : ℕ) (text : List ℕ) (numbers : List Float) → Grown at text (number_lines (take 0 numbers)) at text
unfolding number_lines
lines_none at text numbers = grown_none at text

lines_append : (xs ys : List Float) → number_lines (xs ++ ys) ≡ number_lines xs ++ number_lines ys
unfolding number_lines
lines_append [] ys = refl
lines_append (x ∷ xs) ys = rw (lines_append xs ys) (sym (append_assoc (number_line x) (number_lines xs) (number_lines ys)))

lines_one : (x : Float) → number_lines (x ∷ []) ≡ number_line x
unfolding number_lines
lines_one x = append-nil (number_line x)

pub lines_more : (at end r i : ℕ) (before between after : List ℕ) (numbers : List Float) → Grown at before (number_lines (take i numbers)) end between → i < length numbers
    → end ≤ r
    → Grown end between (number_line (get_or numbers i nan)) r after
    → Grown at before (number_lines (take (i + 1) numbers)) r after
lines_more at end r i before between after numbers e h up grown =
    let x = get_or numbers i nan in
    let more : number_lines (take (i + 1) numbers) ≡ number_lines (take i numbers) ++ number_line x = rw (add-one i, take-suc numbers i nan h, lines_append (take i numbers) (x ∷ []), lines_one x) in
    rw more (grown_on at end r before between after (number_lines (take i numbers)) (number_line x) up e grown)

pub lines_all : (at end i : ℕ) (before text : List ℕ) (numbers : List Float) → Grown at before (number_lines (take i numbers)) end text → i ≡ length numbers
    → Grown at before (number_lines numbers) end text
lines_all at end i before text numbers e h = rw (h, take-length numbers) at e

-- ---- a word and a number on a line

pub numbered_put : (n end last r : ℕ) (word t₀ t₁ t₂ t₃ : List ℕ) → end ≤ last → last ≤ r → Grown 0 t₀ word end t₁ → IsDigitCount 10 1 n (last - end) → Grown end t₁ (last_digits 10 (last - end) n) last t₂
    → Grown last t₂ newline r t₃
    → Says (Numbered word n) t₀ r t₃
numbered_put n end last r word t₀ t₁ t₂ t₃ h₁ h₂ first few second third =
    record {
      said =
          record {
            number = last_digits 10 (last - end) n;
            is_number = record { places = last - end; fewest = few; spelled = refl };
            is = third.text ∙ rw (second.text, first.text);
          };
      kept = kept_on last r t₀ t₂ t₃ h₂ (kept_on end last t₀ t₁ t₂ h₁ first.kept second.kept) third.kept;
    }

-- ---- the first line, and x and y after it

pub first_put : (k q e₁ e₂ e₃ e₄ r : ℕ) (name t₀ t₁ t₂ t₃ t₄ t₅ : List ℕ) → e₁ ≤ e₂
    → e₂ ≤ e₃
    → e₃ ≤ e₄
    → e₄ ≤ r
    → Grown 0 t₀ name e₁ t₁
    → IsDigitCount 10 1 k (e₂ - e₁)
    → Grown e₁ t₁ (last_digits 10 (e₂ - e₁) k) e₂ t₂
    → Grown e₂ t₂ space e₃ t₃
    → IsDigitCount 10 1 q (e₄ - e₃)
    → Grown e₃ t₃ (last_digits 10 (e₄ - e₃) q) e₄ t₄
    → Grown e₄ t₄ newline r t₅
    → Says (FirstLine name k q) t₀ r t₅
first_put k q e₁ e₂ e₃ e₄ r name t₀ t₁ t₂ t₃ t₄ t₅ h₁ h₂ h₃ h₄ first few₁ second third few₂ fourth fifth =
    record {
      said =
          record {
            steps = last_digits 10 (e₂ - e₁) k;
            rotations = last_digits 10 (e₄ - e₃) q;
            is_steps = record { places = e₂ - e₁; fewest = few₁; spelled = refl };
            is_rotations = record { places = e₄ - e₃; fewest = few₂; spelled = refl };
            is = fifth.text ∙ rw (fourth.text, third.text, second.text, first.text);
          };
      kept =
          kept_on e₄ r t₀ t₄ t₅ h₄ (kept_on e₃ e₄ t₀ t₃ t₄ h₃ (kept_on e₂ e₃ t₀ t₂ t₃ h₂ (kept_on e₁ e₂ t₀ t₁ t₂ h₁ first.kept second.kept) third.kept) fourth.kept) fifth.kept;
    }

pub ended_put : (k q e₁ e₂ r : ℕ) (name t₀ t₁ t₂ t₃ : List ℕ) (x y : List Float) → e₁ ≤ e₂ → e₂ ≤ r → Says (FirstLine name k q) t₀ e₁ t₁ → Grown e₁ t₁ (number_lines x) e₂ t₂
    → Grown e₂ t₂ (number_lines y) r t₃
    → Says (Ended name k q x y) t₀ r t₃
ended_put k q e₁ e₂ r name t₀ t₁ t₂ t₃ x y h₁ h₂ line first second =
    record {
      said = record { first = take e₁ t₁; is_first = line.said; is = second.text ∙ rw first.text };
      kept = kept_on e₂ r t₀ t₂ t₃ h₂ (kept_on e₁ e₂ t₀ t₁ t₂ h₁ line.kept first.kept) second.kept;
    }
