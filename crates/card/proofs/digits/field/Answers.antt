-- `card::digits::field` meets its contract: after k bits it is the field of that width.
use native.Mathlib.Omega.{arith}
use native.Mathlib.Numerals.{add-one}
use Prim.Native.Nat.{ℕ, ◌+◌, ◌*◌, ◌<◌}
use mathlib.Core.Path.{◌≡◌, sym, ap, ◌∙◌}
use mathlib.Core.List.{List}
use lib.ListN.{length, get_or}
use Rattle.card.specs.Card.{bits_of_bytes}
use Rattle.card.specs.Fields.{field_at}
use Rattle.bits.proofs.Bits.{bits_length}
use Rattle.card.proofs.Bits.{field_none, field_more, bit_room, bit_below}
use Rattle.card.proofs.digits.field.Goals as goal

one_more : (bytes : List ℕ) (at v b k : ℕ) → at + k < 8 * length bytes → v ≡ field_at at k (bits_of_bytes bytes) → b ≡ get_or (bits_of_bytes bytes) (at + k) 0
    → v * 2 + b ≡ field_at at (k + 1) (bits_of_bytes bytes)
one_more bytes at v b k h e f =
    rw (add-one k, field_more at k (bits_of_bytes bytes) (rw (bits_length bytes) h), ← e, ← f) (omega arith)

pub loop-k-init : goal.loop-k-init
loop-k-init c = (sym (field_none _ _), omega arith)

pub overflow_mul-v : goal.overflow_mul-v
overflow_mul-v c = omega (arith, bit_room c.loop-k.v c.loop-k.k c.loop-k.invariant.1 (omega arith))

pub overflow_add-v : goal.overflow_add-v
overflow_add-v c = omega (arith, bit_room c.loop-k.v c.loop-k.k c.loop-k.invariant.1 (omega arith), c.bit.ensures.bound)

pub loop-k-preserved : goal.loop-k-preserved
loop-k-preserved c = (one_more c.args.bytes.now c.args.at c.loop-k.v c.bit.result c.loop-k.k (omega arith) c.loop-k.invariant.0 c.bit.ensures.value, bit_below c.loop-k.v c.bit.result c.loop-k.k c.loop-k.invariant.1 c.bit.ensures.bound)

pub returns : goal.returns
returns c = let e : c.loop-k.k ≡ c.args.width = omega arith in record { value = c.loop-k.invariant.0 ∙ ap (λ (k : ℕ). field_at c.args.at k (bits_of_bytes c.args.bytes.now)) e; bound = rw e at c.loop-k.invariant.1 }
