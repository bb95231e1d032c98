-- The line that is read began before the byte.
use Rattle.std.proofs.Common.{◌≤◌}
use Rattle.piece_card.proofs.state.after_mark.Given as goal

abbrev pub invariant-loop-i : goal.invariant-loop-i
invariant-loop-i l = l.start ≤ l.i
