-- `card_text::put_answer` meets its contract: a refusal has its number, an ending its name.
use mathlib.Core.Path.{sym}
use Rattle.card_text.proofs.Answers.{refusal_text, ending_text}
use Rattle.card_text.proofs.put_answer.Goals as goal

pub returns-in-Some-clause-says : goal.returns-in-Some-clause-says
returns-in-Some-clause-says c = refusal_text c.args.answer.steps c.args.answer.rotations c.args.x.now c.args.y.now c.args.text.now _ _ c.args.answer.ending c.in-Some.number (sym c.in-Some.ensures) c.put_numbered.ensures.says

pub returns-in-None-clause-says : goal.returns-in-None-clause-says
returns-in-None-clause-says c = ending_text c.args.answer.steps c.args.answer.rotations c.args.x.now c.args.y.now c.args.text.now _ _ c.args.answer.ending (sym c.in-None.ensures) c.put_ended.ensures.says
