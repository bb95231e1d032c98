-- `replay_pieces::cut_all` is safe and ends: the measure is the ways that are left.
use Rattle.std.proofs.Common.{◌≡◌, ◌-◌, ◌≤◌, length, rules}
use Rattle.replay_pieces.proofs.cut_all.Given as goal

abbrev pub invariant-loop-way : goal.invariant-loop-way
invariant-loop-way l =
    (l.way ≤ 65) × (length l.work ≡ length l.initial.work) × (length l.cone_work ≡ length l.initial.cone_work) × (length l.log ≡ length l.initial.log)

abbrev pub decreases-loop-way : goal.decreases-loop-way
decreases-loop-way l = 65 - l.way
