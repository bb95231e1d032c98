-- `replay_pieces::all_forms` is safe and ends: the measure is the forms that are left.
use Rattle.std.proofs.Common.{◌≡◌, ◌-◌, ◌≤◌, length, rules}
use Rattle.replay_pieces.proofs.all_forms.Given as goal

abbrev pub invariant-loop-form : goal.invariant-loop-form
invariant-loop-form l =
    (l.form ≤ l.form-end) × (length l.left ≡ length l.initial.left) × (length l.work ≡ length l.initial.work) × (length l.cone_work ≡ length l.initial.cone_work) × (length l.log ≡ length l.initial.log)
