-- Each row of the table holds: antt computes it.
use mathlib.Core.Path.{refl}
use lib.Ieee.{of_bits, of_int, to_bits}
use Rattle.rules.specs.Parameters.{defaults}
use Rattle.rules.specs.Prepare.{norms}
use Rattle.rules.specs.WorkedByHand.{AllHold}
use Rattle.piece_rules.specs.Pieces.{later_refusal, first_piece, later_piece}
use Rattle.piece_rules.specs.InPieces.{gone_on_by}
use Rattle.piece_rules.specs.Worked.{table}

pub worked_in_pieces : AllHold table
unfolding of_bits of_int to_bits defaults norms first_piece later_refusal later_piece gone_on_by
worked_in_pieces = (refl, (refl, (refl, (refl, (refl, (refl, (refl, (refl, (refl, (refl, (refl, (refl, (refl, (refl, (refl, (refl, (refl, (refl, (refl, (refl, (refl, (refl, (refl, (refl, (refl, (refl, (refl, (refl, tt))))))))))))))))))))))))))))
