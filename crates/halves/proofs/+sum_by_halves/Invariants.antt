-- `halves::sum_by_halves` meets its contract. Its measure is the length of the range.
use lib.ListN.{length}
use Rattle.halves.proofs.+sum_by_halves.Given as goal

abbrev pub decreases-sum_by_halves : goal.decreases-sum_by_halves
decreases-sum_by_halves l = length l.terms.now
