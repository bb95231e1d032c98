-- Any two outcomes that a contract of this crate allows coincide: what is told, and each place of both buffers.
use Prim.Native.Nat.{ℕ}
use mathlib.Core.Path.{◌≡◌, sym, ◌∙◌}
use mathlib.Core.List.{List}
use lib.Ieee.{Float}
use Rattle.rules.specs.Problem.{Problem}
use Rattle.piece_rules.specs.Pieces.{PieceLeft}
use Rattle.std.specs.Prelude.{Result}
use Rattle.piece_rules.specs.declared.PieceAnswer.{PieceAnswer}
use Rattle.card.specs.declared.Fault.{Fault}
use Rattle.card_problem.specs.declared.Told.{Told}
use Rattle.card_pieces.specs.CardPieces.{CardPieceOutcome}

pub any_two_pieces_coincide : {bytes : List ℕ} {piece : Problem → PieceLeft} {work cone : List Float} {a b : Result (Told PieceAnswer) Fault} {v w c d : List Float}
    → CardPieceOutcome bytes piece work cone a v c → CardPieceOutcome bytes piece work cone b w d → (a ≡ b) × (v ≡ w) × (c ≡ d)
any_two_pieces_coincide p q = (p.answered ∙ sym q.answered, p.work_left ∙ sym q.work_left, p.cone_left ∙ sym q.cone_left)
