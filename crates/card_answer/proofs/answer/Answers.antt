-- `card_answer::answer` meets its contract: it is the answer with a record that has no place, but for that record.
use Rattle.card_answer.proofs.Outcome.{a_record_changes_no_answer}
use Rattle.card_answer.proofs.answer.Goals as goal

pub returns : goal.returns
returns c = a_record_changes_no_answer c.args.bytes.now _ c.args.work.now _ _ _ _ c.in_ok-told.ensures
