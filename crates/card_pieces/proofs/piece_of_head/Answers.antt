-- `card_pieces::piece_of_head` meets its contract: the head and the lists make the problem.
use Rattle.card_pieces.specs.CardPieces.{piece_by}
use Rattle.card_pieces.proofs.Shown.{head_piece}
use Rattle.card_pieces.proofs.piece_of_head.Goals as goal

pub returns : goal.returns
returns c =
    head_piece (piece_by c.args.run c.args.given c.args.work.now c.args.cone_work.now) c.args.head c.stored-stored.result c.args.words.now c.args.numbers.now _ _ _ _
    c.requires.rows_bound c.requires.cols_bound c.stored-stored.ensures.bound c.stored-stored.ensures.value c.numbers_from-c.ensures c.numbers_from-a.ensures c.numbers_from-b.ensures c.parameters.ensures c.piece_of.ensures
