-- What the record says counts only where the six tests turn nothing away.
use Prim.Native.Nat.{ℕ}
use mathlib.Core.Path.{◌≡◌, refl}
use mathlib.Core.Bool.{Bool}
use mathlib.Core.List.{List}
use Rattle.rules.specs.Refusals.{Refusal, Accepted, Refused}
use Rattle.rules.specs.declared.SolverParam.{SolverParam}
use Rattle.rules.specs.Problem.{as_read}
use Rattle.piece_rules.specs.declared.RunLengths.{RunLengths}
use Rattle.piece_rules.specs.declared.RunRecord.{RunRecord}
use Rattle.piece_rules.specs.Pieces.{Later, stale_run}
use Rattle.later_check.specs.Parts.{listed, after_tests, by_record}

-- what the record says counts only where the six tests turn nothing away
pub record_counts : (found : Refusal) {one other : Later} → (found ≡ Accepted → one ≡ other) → after_tests found one ≡ after_tests found other
record_counts (Refused e) same = refl
record_counts Accepted same = same refl

pub told_by_record : (r : RunRecord) (lengths : RunLengths) (words : List ℕ) (par : SolverParam) {read : SolverParam} {stale t : Bool}
    → read ≡ as_read par → stale ≡ stale_run r lengths (listed words read) → stale ≡ t
    → by_record t ≡ by_record (stale_run r lengths (listed words (as_read par)))
told_by_record r lengths words par e is t = rw (← e, ← is, t)
