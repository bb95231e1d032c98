-- How a card's piece is shown.
use Prim.Native.Nat.{ℕ, ◌+◌, ◌≤◌}
use mathlib.Core.Path.{◌≡◌, ◌∙◌}
use mathlib.Core.List.{List}
use lib.Ieee.{Float}
use lib.ListN.{take}
use Rattle.std.specs.Prelude.{Ok}
use Rattle.rules.specs.declared.SolverParam.{SolverParam}
use Rattle.rules.specs.Problem.{Problem, problem_of}
use Rattle.piece_rules.specs.declared.PieceAnswer.{PieceAnswer}
use Rattle.piece_rules.specs.Pieces.{PieceLeft}
use Rattle.card.specs.Card.{read_card}
use Rattle.card.specs.Outcome.{answer_of, words_after, numbers_after, stored_of}
use Rattle.card.specs.declared.CardHead.{CardHead}
use Rattle.card.proofs.Counts.{stored_is}
use Rattle.card_problem.specs.Problem.{numbers_at, parameters_of, problem_from}
use Rattle.card_problem.proofs.Fields.{same_problem, zero_list, ReadsAs, reads_as}
use Rattle.card_pieces.specs.CardPieces.{PieceOutcome, CardPieceOutcome}

-- the head and the lists make the problem
pub head_piece : (piece : Problem → PieceLeft) (head : CardHead) (stored : ℕ) (words numbers : List ℕ) (c a b : List Float) (par : SolverParam) {answer : PieceAnswer} {work cone : List Float}
    → head.rows.0 ≤ 32
    → head.cols.0 ≤ 32
    → stored ≤ 1024
    → stored ≡ stored_of head.storage head.rows head.cols
    → c ≡ numbers_at numbers 3 32
    → a ≡ numbers_at numbers (3 + head.cols.0) 1024
    → b ≡ numbers_at numbers (3 + head.cols.0 + stored) 32
    → par ≡ parameters_of head.max_iter head.sweep_limit numbers
    → PieceOutcome (piece (problem_of head.rows.0 head.cols.0 head.storage (take head.cols.0 c) (take stored a) (take head.rows.0 b) words par)) answer work cone
    → PieceOutcome (piece (problem_from head words numbers)) answer work cone
head_piece piece head stored words numbers c a b par hm hn hs es ec ea eb ep o =
    rw (same_problem head stored words numbers c a b par hn hs hm (es ∙ stored_is head.storage head.rows head.cols hn hm) ec ea eb ep) at o

module _ (bytes : List ℕ) (piece : Problem → PieceLeft) (work cone : List Float) where
  of_card : (head : CardHead) (p : Problem) (answer : PieceAnswer) (work' cone' : List Float)
      → ReadsAs (read_card bytes) head p → PieceOutcome (piece p) answer work' cone'
      → CardPieceOutcome bytes piece work cone (Ok (record { rows = head.rows; cols = head.cols; answer = answer })) work' cone'
  of_card head p answer work' cone' reads o =
      record {
        answered = rw (o.piece_answered, reads.head_is, reads.problem_is, reads.is);
        work_left = o.piece_work ∙ rw (reads.problem_is, reads.is);
        cone_left = o.piece_cone ∙ rw (reads.problem_is, reads.is);
      }

  pub card_outcome : (head : CardHead) (zero_words : List ℕ) (places : ℕ) (left_words left_numbers : List ℕ) (answer : PieceAnswer) (work' cone' : List Float)
      → answer_of (read_card bytes) ≡ Ok head
      → left_words ≡ words_after (read_card bytes) zero_words
      → left_numbers ≡ numbers_after (read_card bytes) (zero_list places)
      → PieceOutcome (piece (problem_from head (take head.words left_words) left_numbers)) answer work' cone'
      → CardPieceOutcome bytes piece work cone (Ok (record { rows = head.rows; cols = head.cols; answer = answer })) work' cone'
  card_outcome head zero_words places left_words left_numbers answer work' cone' e ew en o =
      of_card head _ answer work' cone' (reads_as (read_card bytes) head zero_words places e) (rw (ew, en) at o)
