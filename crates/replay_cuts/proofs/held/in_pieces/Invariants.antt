-- `replay_cuts::held::in_pieces` is safe and ends.
use Rattle.std.proofs.Common.{◌≡◌, length}
use Rattle.replay_cuts.proofs.held.in_pieces.Given as goal

abbrev pub invariant-loop : goal.invariant-loop
invariant-loop l =
    (length l.work ≡ length l.initial.work) × (length l.cone_work ≡ length l.initial.cone_work) × (length l.log ≡ length l.initial.log)
