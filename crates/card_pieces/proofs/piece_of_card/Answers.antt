-- `card_pieces::piece_of_card` meets its contract: the piece of the card that was read.
use borrow.Author.Rules.{rules}
use Rattle.card_problem.proofs.Fields.{reading, words_read, numbers_read}
use Rattle.card_pieces.specs.CardPieces.{piece_by}
use Rattle.card_pieces.proofs.Shown.{card_outcome}
use Rattle.card_pieces.proofs.piece_of_card.Goals as goal

pub returns : goal.returns
returns c =
    card_outcome c.args.bytes.now (piece_by c.args.run c.args.given c.args.work.now c.args.cone_work.now) c.args.work.now c.args.cone_work.now c.in_ok-head.head _ 1091 _ _ _ _ _
    (reading c.args.bytes.now _ _ _ _ _ (search rules) (search rules) c.in_ok-head.ensures.outcome)
    (words_read c.args.bytes.now _ _ _ _ _ (search rules) (search rules) c.in_ok-head.ensures.outcome)
    (numbers_read c.args.bytes.now _ _ _ _ _ (search rules) (search rules) c.in_ok-head.ensures.outcome)
    c.piece_of_head-answer.ensures
