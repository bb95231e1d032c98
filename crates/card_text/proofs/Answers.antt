-- The text of an answer: a refusal's, by its number, or that of a run's ending, by its name.
use Prim.Native.Nat.{ℕ}
use mathlib.Core.Path.{◌≡◌}
use mathlib.Core.List.{List}
use lib.Ieee.{Float}
use Rattle.rules.specs.declared.Ending.{Ending}
use Rattle.rules.specs.declared.Ending.TheVariants.{BadParam, TooLarge, InvalidOp, BadCone, NotFinite, WorkShortage, Converged, ExcessIter, ExcessIterUnscaled, Unbounded, Infeasible, ConeFailure}
use Rattle.std.specs.Prelude.{Some, None}
use Rattle.card_text.specs.Text.{refused, Numbered, Ended, AnswerText, Says}
use Rattle.card_text.specs.Growing.{name_of, refusal_of}

module _ (k q : ℕ) (x y : List Float) (before : List ℕ) (count : ℕ) (after : List ℕ) where
  pub refusal_text : (e : Ending) (number : ℕ) → refusal_of e ≡ Some number → Says (Numbered refused number) before count after → Says (AnswerText e k q x y) before count after
  refusal_text BadParam number e s = let is : number ≡ 1 = cc in rw is at s
  refusal_text TooLarge number e s = let is : number ≡ 2 = cc in rw is at s
  refusal_text InvalidOp number e s = let is : number ≡ 3 = cc in rw is at s
  refusal_text BadCone number e s = let is : number ≡ 4 = cc in rw is at s
  refusal_text NotFinite number e s = let is : number ≡ 5 = cc in rw is at s
  refusal_text WorkShortage number e s = let is : number ≡ 6 = cc in rw is at s
  refusal_text (Converged a b c) number e s = absurd (cc)
  refusal_text (ExcessIter a b c) number e s = absurd (cc)
  refusal_text (ExcessIterUnscaled a b) number e s = absurd (cc)
  refusal_text (Unbounded a) number e s = absurd (cc)
  refusal_text (Infeasible a) number e s = absurd (cc)
  refusal_text (ConeFailure b) number e s = absurd (cc)

  pub ending_text : (e : Ending) → refusal_of e ≡ None → Says (Ended (name_of e) k q x y) before count after → Says (AnswerText e k q x y) before count after
  ending_text BadParam h s = absurd (cc)
  ending_text TooLarge h s = absurd (cc)
  ending_text InvalidOp h s = absurd (cc)
  ending_text BadCone h s = absurd (cc)
  ending_text NotFinite h s = absurd (cc)
  ending_text WorkShortage h s = absurd (cc)
  ending_text (Converged a b c) h s = s
  ending_text (ExcessIter a b c) h s = s
  ending_text (ExcessIterUnscaled a b) h s = s
  ending_text (Unbounded a) h s = s
  ending_text (Infeasible a) h s = s
  ending_text (ConeFailure b) h s = s
