-- `card_answer::logged_answer` meets its contract: the answer to the card that was read.
use borrow.Author.Rules.{rules}
use Rattle.card_problem.proofs.Fields.{reading, words_read, numbers_read}
use Rattle.card_answer.proofs.Outcome.{card_outcome}
use Rattle.card_answer.proofs.logged_answer.Goals as goal

pub returns : goal.returns
returns c =
    card_outcome c.args.bytes.now c.args.period c.args.work.now c.args.log.now c.in_ok-head.head _ 1091 _ _ _ _ _
    (reading c.args.bytes.now _ _ _ _ _ (search rules) (search rules) c.in_ok-head.ensures.outcome)
    (words_read c.args.bytes.now _ _ _ _ _ (search rules) (search rules) c.in_ok-head.ensures.outcome)
    (numbers_read c.args.bytes.now _ _ _ _ _ (search rules) (search rules) c.in_ok-head.ensures.outcome)
    c.solve_head-logged.ensures
