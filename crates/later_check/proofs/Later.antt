-- What the two entries answer: what the six tests say, and then the record.
use Prim.Native.Nat.{ℕ, ◌≤◌}
use native.Mathlib.Omega.{arith}
use mathlib.Core.Path.{◌≡◌, refl, sym, ◌∙◌}
use mathlib.Core.Bool.{Bool, true, false}
use mathlib.Core.List.{List, ◌∷◌}
use lib.ListN.{length, drop}
use Rattle.rules.specs.declared.Ending.{Ending}
use Rattle.rules.specs.declared.Ending.TheVariants.{BadParam, TooLarge}
use Rattle.rules.specs.Limits.{most_words}
use Rattle.rules.specs.Groups.{plain_words}
use Rattle.rules.specs.Problem.{Problem, as_read}
use Rattle.rules.specs.Refusals.{Refusal, Accepted, Refused, Fact, ◌when◌, first_of, as_refusal, bad_param, too_large, facts, refusal, read_problem}
use Rattle.rules.specs.Split.{SplitProblem, joined_problem, split_facts, split_refusal}
use Rattle.rules.proofs.Accepted.{sizes_fit}
use Rattle.piece_rules.specs.declared.RunLengths.{RunLengths}
use Rattle.piece_rules.specs.declared.RunRecord.{RunRecord}
use Rattle.piece_rules.specs.Pieces.{Later, lengths_of, stale_run, later_refusal, later_split_refusal}
use Rattle.piece_rules.proofs.Kept.{later_by, later_is, split_later_is}
use Rattle.later_check.specs.Parts.{listed, after_tests, by_record}

as_later : (found : Refusal) (stale : Bool) → after_tests found (by_record stale) ≡ later_by found stale
as_later (Refused e) stale = refl
as_later Accepted true = refl
as_later Accepted false = refl

-- of a problem as it is read a record is compared with list and parameters only
read_stale : (r : RunRecord) (lengths : RunLengths) (p : Problem) → stale_run r lengths (listed (plain_words p.words) (as_read p.par)) ≡ stale_run r lengths (read_problem p)
unfolding stale_run read_problem
read_stale r lengths p = refl

refused_not_accepted : {e : Ending} → Refused e ≡ Accepted → ⊥
refused_not_accepted is = zero≢one cc
  where
    zero≢one : ◌≡◌ {A = ℕ} 0 1 → ⊥
    zero≢one h = omega arith

-- where no test applies, the second does not
second_fails : (first second : Bool) (rows : List (Fact Ending)) → as_refusal (first_of ((BadParam when first) ∷ (TooLarge when second) ∷ rows)) ≡ Accepted → second ≡ false
unfolding first_of
second_fails true second rows e = absurd (refused_not_accepted e)
second_fails false true rows e = absurd (refused_not_accepted e)
second_fails false false rows e = refl

module _ (r : RunRecord) (p : Problem) (work cone log : ℕ) where
  pub few_words : {found : Refusal} → found ≡ refusal p work cone → found ≡ Accepted → length p.words ≤ most_words
  unfolding refusal
  few_words e is = (sizes_fit p (second_fails (bad_param p.par) (too_large p) (drop 2 (facts p work cone)) (sym e ∙ is))).words

  pub first_of_seven : {found : Refusal} {answer : Later} → found ≡ refusal p work cone
      → answer ≡ after_tests found (by_record (stale_run r (lengths_of p work cone log) (listed (plain_words p.words) (as_read p.par))))
      → answer ≡ later_refusal r p work cone log
  first_of_seven {found} {answer} e is =
      is ∙ rw (e, read_stale r (lengths_of p work cone log) p) (as_later (refusal p work cone) (stale_run r (lengths_of p work cone log) (read_problem p))) ∙ sym (later_is r p work cone log)

module _ (r : RunRecord) (p : SplitProblem) (work cone log : ℕ) where
  pub split_few_words : {found : Refusal} → found ≡ split_refusal p work cone → found ≡ Accepted → length p.words ≤ most_words
  unfolding split_refusal
  split_few_words e is = (sizes_fit (joined_problem p) (second_fails (bad_param p.par) (too_large (joined_problem p)) (drop 2 (split_facts p work cone)) (sym e ∙ is))).words

  pub split_first_of_seven : {found : Refusal} {answer : Later} → found ≡ split_refusal p work cone
      → answer ≡ after_tests found (by_record (stale_run r (lengths_of (joined_problem p) work cone log) (listed (plain_words p.words) (as_read p.par))))
      → answer ≡ later_split_refusal r p work cone log
  split_first_of_seven {found} {answer} e is =
      is ∙ rw (e, read_stale r (lengths_of (joined_problem p) work cone log) (joined_problem p)) (as_later (split_refusal p work cone) (stale_run r (lengths_of (joined_problem p) work cone log) (read_problem (joined_problem p)))) ∙ sym (split_later_is r p work cone log)
