-- `SmallBuffers` is none of a card's faults: it is answered exactly where the buffers don't hold any card.
use Prim.Native.Nat.{ℕ, ◌%◌}
use native.Mathlib.Omega.{arith}
use mathlib.Core.Path.{◌≡◌, refl, sym, ◌∙◌}
use mathlib.Core.Bool.{Bool, true, false, cond}
use mathlib.Core.List.{List}
use lib.Dec.{leb, eqb}
use lib.ListN.{length, take, drop}
use Rattle.std.specs.Prelude.{Result, Err}
use Rattle.card.specs.Card.{bits_of_bytes, all_zero, Card, Reading, fault, read, read_card}
use Rattle.card.specs.Fields.{field_at, bit_count, card_at, rest_at}
use Rattle.card.specs.Outcome.{holds_any, answer_of, ReadOutcome}
use Rattle.card.specs.declared.CardHead.{CardHead}
use Rattle.card.specs.declared.Fault.{Fault}
use Rattle.card.specs.declared.Fault.TheVariants.{SmallBuffers, Short, Edition, Large, Padding, LeftOver}
use Rattle.card.proofs.Places.{card_by_places}
use Rattle.card.proofs.Found.{rest_opened, closed_opened}

abbrev pub IsSmall : Reading → Type 0
IsSmall r = r ≡ fault SmallBuffers

-- ---- a judgement with another fault is never that, if what comes after is never

judged_never : (test : Bool) (next : Reading) (f : Fault) → (f ≡ SmallBuffers → ⊥) → (IsSmall next → ⊥) → IsSmall (cond test next (fault f)) → ⊥
judged_never true next f other never e = never e
judged_never false next f other never e = other cc

short_is_other : Short ≡ SmallBuffers → ⊥
short_is_other e = let z : ◌≡◌ {A = ℕ} 0 1 = cc in omega arith

edition_is_other : Edition ≡ SmallBuffers → ⊥
edition_is_other e = let z : ◌≡◌ {A = ℕ} 0 1 = cc in omega arith

large_is_other : Large ≡ SmallBuffers → ⊥
large_is_other e = let z : ◌≡◌ {A = ℕ} 0 1 = cc in omega arith

padding_is_other : Padding ≡ SmallBuffers → ⊥
padding_is_other e = let z : ◌≡◌ {A = ℕ} 0 1 = cc in omega arith

left_over_is_other : LeftOver ≡ SmallBuffers → ⊥
left_over_is_other e = let z : ◌≡◌ {A = ℕ} 0 1 = cc in omega arith

read_never : (k : Card) → IsSmall (read k) → ⊥
read_never k e = let z : ◌≡◌ {A = ℕ} 0 1 = cc in omega arith

-- ---- what a card says once n and m are known, and all of it

rest_never : (n m : ℕ) (bits : List ℕ) → IsSmall (rest_at n m bits) → ⊥
rest_never n m bits e =
    let total = bit_count n m bits in
    let k = card_at n m bits in
    let after = drop total bits in
    judged_never (leb total (length bits)) _ Short short_is_other
    (λ e1. judged_never (all_zero (take (length after % 8) after)) _ Padding padding_is_other
    (judged_never (eqb (length after) (length after % 8)) (read k) LeftOver left_over_is_other (read_never k))
    (rw (closed_opened k after) at e1))
    (rw (rest_opened n m bits) at e)

pub never_small : (bytes : List ℕ) → read_card bytes ≡ fault SmallBuffers → ⊥
never_small bytes e =
    let bits = bits_of_bytes bytes in
    let n = field_at 5 6 bits in
    let m = field_at 11 6 bits in
    judged_never (leb 4 (length bits)) _ Short short_is_other
    (judged_never (eqb (field_at 0 4 bits) 1) _ Edition edition_is_other
    (judged_never (leb 11 (length bits)) _ Short short_is_other
    (judged_never (leb n 32) _ Large large_is_other
    (judged_never (leb 17 (length bits)) _ Short short_is_other
    (judged_never (leb m 32) _ Large large_is_other (rest_never n m bits))))))
    (rw (card_by_places bytes) at e)

-- ---- what the reader answers

answered_never : (r : Reading) → (IsSmall r → ⊥) → answer_of r ≡ Err SmallBuffers → ⊥
answered_never (fault f) never e = never (let same : f ≡ SmallBuffers = cc in rw same)
answered_never (read k) never e = let z : ◌≡◌ {A = ℕ} 0 1 = cc in omega arith

small_if : (holds : Bool) (r : Reading) (answer : Result CardHead Fault) → (IsSmall r → ⊥) → answer ≡ cond holds (answer_of r) (Err SmallBuffers)
    → (answer ≡ Err SmallBuffers → holds ≡ false) × (holds ≡ false → answer ≡ Err SmallBuffers)
small_if true r answer never is = (λ e. absurd (answered_never r never (sym is ∙ e)), λ e. let z : ◌≡◌ {A = ℕ} 0 1 = cc in absurd (omega arith))
small_if false r answer never is = (λ e. refl, λ e. is)

-- both ways
pub small_buffers_exactly : {bytes words numbers : List ℕ} {answer : Result CardHead Fault} {left_words left_numbers : List ℕ} → ReadOutcome bytes words numbers answer left_words left_numbers
    → (answer ≡ Err SmallBuffers → holds_any words numbers ≡ false) × (holds_any words numbers ≡ false → answer ≡ Err SmallBuffers)
small_buffers_exactly {bytes = bytes} {words = words} {numbers = numbers} {answer = answer} o =
    small_if (holds_any words numbers) (read_card bytes) answer (never_small bytes) o.answered
