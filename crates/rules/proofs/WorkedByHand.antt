-- Every case of document 01 that is marked P holds of the rules: antt computes each row.
use mathlib.Core.Path.{refl}
use lib.Ieee.{of_bits, of_int, neg}
use Rattle.rules.specs.Helpers.{larger, smaller}
use Rattle.rules.specs.Root.{root}
use Rattle.rules.specs.Parameters.{defaults}
use Rattle.rules.specs.Blocks.{read_word}
use Rattle.rules.specs.Groups.{plain_words}
use Rattle.rules.specs.Editions.{halved}
use Rattle.rules.specs.Vectors.{norm_by, abssum}
use Rattle.rules.specs.Matrices.{opped_by, trans_opped_by, absadded_cols, absadded_rows}
use Rattle.rules.specs.Projections.{proj_soc}
use Rattle.rules.specs.Prepare.{fr_norm_by}
use Rattle.rules.specs.Refusals.{too_large, solved}
use Rattle.rules.specs.Progress.{is_due, log_row, log_step, logged_solved}
use Rattle.rules.specs.Demands.{due_up_to}
use Rattle.rules.specs.WorkedByHand.{AllHold, table}

pub worked_by_hand : AllHold table
unfolding of_bits of_int neg larger smaller root opped_by trans_opped_by absadded_cols absadded_rows proj_soc too_large solved defaults read_word plain_words norm_by abssum fr_norm_by halved is_due due_up_to log_row log_step logged_solved
worked_by_hand = (refl, (refl, (refl, (refl, (refl, (refl, (refl, (refl, (refl, (refl, (refl, (refl, (refl, (refl, (refl, (refl, (refl, (refl, (refl, (refl, (refl, (refl, (refl, (refl, (refl, (refl, (refl, (refl, (refl, (refl, (refl, (refl, (refl, (refl, (refl, (refl, (refl, (refl, (refl, (refl, (refl, (refl, (refl, (refl, (refl, (refl, (refl, (refl, (refl, (refl, (refl, (refl, (refl, (refl, (refl, (refl, (refl, (refl, (refl, (refl, (refl, (refl, (refl, (refl, (refl, (refl, (refl, (refl, (refl, (refl, (refl, (refl, (refl, (refl, (refl, (refl, (refl, (refl, (refl, (refl, (refl, tt)))))))))))))))))))))))))))))))))))))))))))))))))))))))))))))))))))))))))))))))))
