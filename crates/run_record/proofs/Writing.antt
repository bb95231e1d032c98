-- How many words a record has.
use mathlib.Core.Path.{◌≡◌, refl}
use lib.ListN.{length}
use Rattle.piece_rules.specs.declared.RunRecord.{RunRecord}
use Rattle.run_record.specs.Record.{record_words}

pub record_length : (r : RunRecord) → length (record_words r) ≡ 21
unfolding record_words
record_length r = refl
