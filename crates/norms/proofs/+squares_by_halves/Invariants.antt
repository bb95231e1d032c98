-- `norms::squares_by_halves` meets its contract. Its measure is the length of the range.
use lib.ListN.{length}
use Rattle.norms.proofs.+squares_by_halves.Given as goal

abbrev pub decreases-squares_by_halves : goal.decreases-squares_by_halves
decreases-squares_by_halves l = length l.x.now
