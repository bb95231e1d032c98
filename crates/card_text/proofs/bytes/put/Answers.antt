-- `card_text::bytes::put` meets its contract.
use Rattle.card_text.proofs.Texts.{part_put}
use Rattle.card_text.proofs.bytes.put.Goals as goal

pub returns-clause-grown : goal.returns-clause-grown
returns-clause-grown c = part_put c.args.at c.args.text.now c.args.bytes.now c.copy_from_slice.new.self c.requires c.copy_from_slice.ensures.after
