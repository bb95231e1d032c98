-- `card::reader::rest_of` meets its contract: all fields whole, then the padding, then bytes left over.
use native.Mathlib.Omega.{arith}
use mathlib.Core.Path.{sym, ◌∙◌}
use lib.ListN.{length}
use Rattle.card.specs.Card.{bits_of_bytes}
use Rattle.bits.proofs.Bits.{bits_length}
use Rattle.card.proofs.Rest.{rest_short, rest_padding, rest_more, rest_whole, total_by_storage, answer_is}
use Rattle.card.proofs.reader.rest_of.Goals as goal

pub returns-then-bytes-needed : goal.returns-then-bytes-needed
returns-then-bytes-needed c = let bits = bits_of_bytes c.args.bytes.now in
    let whole = bits_length c.args.bytes.now in
    let is = total_by_storage c.args.n c.args.m bits c.storage_of-storage.result c.field-flag.result c.field-words.result c.number_count.result c.field-flag.ensures.value c.storage_of-storage.ensures c.field-words.ensures.value c.number_count.ensures.value in
    rw (rest_short c.args.n c.args.m bits (length c.args.bytes.now) _ whole (omega (arith, is)) c.if-bytes-needed.true)

pub returns-then-field-ne0 : goal.returns-then-field-ne0
returns-then-field-ne0 c = let bits = bits_of_bytes c.args.bytes.now in
    let whole = bits_length c.args.bytes.now in
    let is = total_by_storage c.args.n c.args.m bits c.storage_of-storage.result c.field-flag.result c.field-words.result c.number_count.result c.field-flag.ensures.value c.storage_of-storage.ensures c.field-words.ensures.value c.number_count.ensures.value in
    rw (rest_padding c.args.n c.args.m bits (length c.args.bytes.now) _ whole (omega (arith, is)) (omega arith) (λ e. c.if-field-ne0.true (c.field.ensures.value ∙ e)))

pub returns-then-bytes-needed-2 : goal.returns-then-bytes-needed-2
returns-then-bytes-needed-2 c = let bits = bits_of_bytes c.args.bytes.now in
    let whole = bits_length c.args.bytes.now in
    let is = total_by_storage c.args.n c.args.m bits c.storage_of-storage.result c.field-flag.result c.field-words.result c.number_count.result c.field-flag.ensures.value c.storage_of-storage.ensures c.field-words.ensures.value c.number_count.ensures.value in
    rw (rest_more c.args.n c.args.m bits (length c.args.bytes.now) _ whole (omega (arith, is)) (sym c.field.ensures.value ∙ c.if-field-ne0.false) (omega arith))

pub returns : goal.returns
returns c = let bits = bits_of_bytes c.args.bytes.now in
    let whole = bits_length c.args.bytes.now in
    let is = total_by_storage c.args.n c.args.m bits c.storage_of-storage.result c.field-flag.result c.field-words.result c.number_count.result c.field-flag.ensures.value c.storage_of-storage.ensures c.field-words.ensures.value c.number_count.ensures.value in
    rw (rest_whole c.args.n c.args.m bits (length c.args.bytes.now) _ whole (omega (arith, is)) (sym c.field.ensures.value ∙ c.if-field-ne0.false) (omega arith)) (answer_is c.args.n c.args.m bits c.storage_of-storage.result c.field-flag.result c.field-words.result c.field-max_iter.result c.field-sweep_limit.result c.field-flag.ensures.value c.storage_of-storage.ensures c.field-words.ensures.value c.field-max_iter.ensures.value c.field-sweep_limit.ensures.value)
