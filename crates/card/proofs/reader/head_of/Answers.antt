-- `card::reader::head_of` meets its contract: the judgements in order.
use native.Mathlib.Omega.{arith}
use mathlib.Core.Path.{◌≡◌, sym, ◌∙◌}
use Rattle.card.specs.Card.{read_card}
use Rattle.card.specs.Outcome.{answer_of}
use Rattle.card.proofs.Found.{bounds_if_read}
use Rattle.card.proofs.Front.{no_edition, wrong_edition, large_n, large_m, sizes_read}
use Rattle.card.proofs.reader.head_of.Goals as goal

pub returns-then-bytes-lt1 : goal.returns-then-bytes-lt1
returns-then-bytes-lt1 c = record { answered = rw (no_edition c.args.bytes.now (omega arith)); bounds = tt }

pub returns-then-field-ne1 : goal.returns-then-field-ne1
returns-then-field-ne1 c = record { answered = rw (wrong_edition c.args.bytes.now (omega arith) (λ e. c.if-field-ne1.true (c.field.ensures.value ∙ e))); bounds = tt }

pub returns-then-n-gt32 : goal.returns-then-n-gt32
returns-then-n-gt32 c = record { answered = rw (large_n c.args.bytes.now (sym c.field.ensures.value ∙ c.if-field-ne1.false) (omega arith) (omega (arith, c.field-n.ensures.value))); bounds = tt }

pub returns-then-m-gt32 : goal.returns-then-m-gt32
returns-then-m-gt32 c = record { answered = rw (large_m c.args.bytes.now (sym c.field.ensures.value ∙ c.if-field-ne1.false) (omega (arith, c.field-n.ensures.value)) (omega arith) (omega (arith, c.field-m.ensures.value))); bounds = tt }

pub returns : goal.returns
returns c =
    let is : c.rest_of.result ≡ answer_of (read_card c.args.bytes.now) =
    rw (sizes_read c.args.bytes.now (sym c.field.ensures.value ∙ c.if-field-ne1.false) (omega (arith, c.field-n.ensures.value)) (omega arith) (omega (arith, c.field-m.ensures.value)), ← c.field-n.ensures.value, ← c.field-m.ensures.value) c.rest_of.ensures in
    record { answered = is; bounds = bounds_if_read c.args.bytes.now c.rest_of.result is }
