-- Any two outcomes that a contract of this crate allows coincide: the answer, and each word.
use Prim.Native.Nat.{ℕ}
use mathlib.Core.Path.{◌≡◌, sym, ◌∙◌}
use mathlib.Core.Bool.{Bool}
use mathlib.Core.List.{List}
use Rattle.rules.proofs.Outcome.{results_coincide}
use Rattle.piece_rules.specs.declared.RunRecord.{RunRecord}
use Rattle.std.specs.Prelude.{Option}
use Rattle.run_record.specs.Record.{record_in, WriteRecordOutcome}

pub any_two_writings_coincide : {r : RunRecord} {words : List ℕ} {a b : Bool} {left left' : List ℕ}
    → WriteRecordOutcome r words a left → WriteRecordOutcome r words b left' → (a ≡ b) × (left ≡ left')
any_two_writings_coincide p q = (p.answered ∙ sym q.answered, p.words_left ∙ sym q.words_left)

pub any_two_readings_coincide : (words : List ℕ) (r r' : Option RunRecord) → r ≡ record_in words → r' ≡ record_in words → r ≡ r'
any_two_readings_coincide words r r' p q = results_coincide p q
