-- Any two answers that a contract of this crate allows coincide.
use Prim.Native.Nat.{ℕ}
use mathlib.Core.Path.{◌≡◌}
use Rattle.rules.specs.Problem.{Problem}
use Rattle.rules.specs.Split.{SplitProblem}
use Rattle.rules.proofs.Outcome.{results_coincide}
use Rattle.piece_rules.specs.declared.RunRecord.{RunRecord}
use Rattle.piece_rules.specs.Pieces.{Later, later_refusal, later_split_refusal}

pub any_two_later_checks_coincide : (kept : RunRecord) (p : Problem) (work cone log : ℕ) (r r' : Later)
    → r ≡ later_refusal kept p work cone log → r' ≡ later_refusal kept p work cone log → r ≡ r'
any_two_later_checks_coincide kept p work cone log r r' e f = results_coincide e f

pub any_two_later_split_checks_coincide : (kept : RunRecord) (p : SplitProblem) (work cone log : ℕ) (r r' : Later)
    → r ≡ later_split_refusal kept p work cone log → r' ≡ later_split_refusal kept p work cone log → r ≡ r'
any_two_later_split_checks_coincide kept p work cone log r r' e f = results_coincide e f
