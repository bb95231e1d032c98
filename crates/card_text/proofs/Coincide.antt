-- Any two outcomes that are allowed for the text of a card coincide.
use Prim.Native.Nat.{ℕ, ◌≤◌, ◌<◌}
use native.Mathlib.Omega.{arith}
use mathlib.Core.Path.{◌≡◌, refl, sym, ap, ◌∙◌}
use mathlib.Core.Bool.{Bool, true, false}
use mathlib.Core.List.{List, ◌++◌}
use lib.Ieee.{Float}
use lib.Dec.{ltb}
use lib.ListN.{length, take, drop, replicate, take-append-drop}
use lib.Seq.{length-take-le}
use borrow.Author.Tests.{ltb-true, ltb-false}
use Rattle.io.specs.Digits.{last_digits, IsDigitCount}
use Rattle.rules.specs.declared.Ending.{Ending}
use Rattle.rules.specs.declared.Ending.TheVariants.{BadParam, TooLarge, InvalidOp, BadCone, NotFinite, WorkShortage, Converged, ExcessIter, ExcessIterUnscaled, Unbounded, Infeasible, ConeFailure}
use Rattle.rules.specs.Arithmetic.{+0}
use Rattle.rules.specs.Run.{solution_x, solution_y}
use Rattle.std.specs.Prelude.{Result, Ok, Err}
use Rattle.rules.specs.declared.Answer.{Answer}
use Rattle.card.specs.Card.{read_card, fault_number}
use Rattle.card.specs.declared.Fault.{Fault}
use Rattle.card_text.specs.Text.{newline, Decimal, Numbered, FirstLine, Ended, number_lines, AnswerText, ToldText, CardText, Says, text_room, TextOutcome}
use Rattle.card_answer.specs.Answer.{work_places, told_of, work_after}
use Rattle.card_problem.specs.declared.Told.{Told}
use Rattle.card_text.proofs.Texts.{below}

same_places : (n j k : ℕ) → IsDigitCount 10 1 n j → IsDigitCount 10 1 n k → j ≡ k
same_places n j k f g =
    omega (arith, below 10 1 k n j (omega arith) g.1 g.0 f.2, below 10 1 j n k (omega arith) f.1 f.0 g.2)

same_decimal : (n : ℕ) (s t : List ℕ) → Decimal n s → Decimal n t → s ≡ t
same_decimal n s t d e =
    d.spelled ∙ ap (λ (k : ℕ). last_digits 10 k n) (same_places n d.places e.places d.fewest e.fewest) ∙ sym e.spelled

pub same_numbered : (word : List ℕ) (n : ℕ) (s t : List ℕ) → Numbered word n s → Numbered word n t → s ≡ t
same_numbered word n s t d e =
    d.is ∙ ap (λ (l : List ℕ). word ++ l ++ newline) (same_decimal n d.number e.number d.is_number e.is_number) ∙ sym e.is

pub same_first : (name : List ℕ) (k q : ℕ) (s t : List ℕ) → FirstLine name k q s → FirstLine name k q t → s ≡ t
same_first name k q s t d e =
    d.is ∙ rw (same_decimal k d.steps e.steps d.is_steps e.is_steps, same_decimal q d.rotations e.rotations d.is_rotations e.is_rotations) (sym e.is)

same_ended : (name : List ℕ) (k q : ℕ) (x y : List Float) (s t : List ℕ) → Ended name k q x y s → Ended name k q x y t → s ≡ t
same_ended name k q x y s t d e =
    d.is ∙ ap (λ (l : List ℕ). l ++ number_lines x ++ number_lines y) (same_first name k q d.first e.first d.is_first e.is_first) ∙ sym e.is

same_answer : (a : Ending) (k q : ℕ) (x y : List Float) (s t : List ℕ) → AnswerText a k q x y s → AnswerText a k q x y t → s ≡ t
same_answer BadParam k q x y s t d e = same_numbered _ 1 s t d e
same_answer TooLarge k q x y s t d e = same_numbered _ 2 s t d e
same_answer InvalidOp k q x y s t d e = same_numbered _ 3 s t d e
same_answer BadCone k q x y s t d e = same_numbered _ 4 s t d e
same_answer NotFinite k q x y s t d e = same_numbered _ 5 s t d e
same_answer WorkShortage k q x y s t d e = same_numbered _ 6 s t d e
same_answer (Converged a b c) k q x y s t d e = same_ended _ k q x y s t d e
same_answer (ExcessIter a b c) k q x y s t d e = same_ended _ k q x y s t d e
same_answer (ExcessIterUnscaled a b) k q x y s t d e = same_ended _ k q x y s t d e
same_answer (Unbounded a) k q x y s t d e = same_ended _ k q x y s t d e
same_answer (Infeasible a) k q x y s t d e = same_ended _ k q x y s t d e
same_answer (ConeFailure b) k q x y s t d e = same_ended _ k q x y s t d e

pub same_told : (told : Result (Told Answer) Fault) (work : List Float) (s t : List ℕ) → ToldText told work s → ToldText told work t → s ≡ t
same_told (Err f) work s t d e = same_numbered _ (fault_number f) s t d e
same_told (Ok told) work s t d e =
    same_answer told.answer.ending told.answer.steps told.answer.rotations (solution_x told.cols.0 work) (solution_y told.rows.0 told.cols.0 work) s t d e

-- the text of a card, where the buffer holds any
same_text : (bytes before : List ℕ) (j k : ℕ) (after after' : List ℕ) → Says (CardText (read_card bytes)) before j after → Says (CardText (read_card bytes)) before k after'
    → take j after ≡ take k after'
same_text bytes before j k after after' d e =
    same_told (told_of (read_card bytes) (replicate work_places +0)) (work_after (read_card bytes) (replicate work_places +0)) (take j after) (take k after') d.said e.said

-- buffers whose fronts and rests are the same
same_buffer : (before : List ℕ) (j k : ℕ) (after after' : List ℕ) → j ≡ k → take j after ≡ take k after' → drop j after ≡ drop j before → drop k after' ≡ drop k before → after ≡ after'
same_buffer before j k after after' same fronts d e =
    sym (take-append-drop j after)
    ∙ rw (fronts, d, same, ← e) (take-append-drop k after')

pub any_two_texts_coincide : (bytes before : List ℕ) (j k : ℕ) (after after' : List ℕ) → TextOutcome bytes before j after → TextOutcome bytes before k after' → (j ≡ k) × (after ≡ after')
any_two_texts_coincide bytes before j k after after' d e = go (ltb (length before) text_room) refl
  where
    go : (short : Bool) → ltb (length before) text_room ≡ short → (j ≡ k) × (after ≡ after')
    go true s =
        let h : length before < text_room = ltb-true (length before) text_room s in
        ((d.too_short h).0 ∙ sym (e.too_short h).0, (d.too_short h).1 ∙ sym (e.too_short h).1)
    go false s =
        let h : text_room ≤ length before = ltb-false (length before) text_room s in
        let fronts : take j after ≡ take k after' = same_text bytes before j k after after' (d.written h) (e.written h) in
        let same : j ≡ k = sym (length-take-le j after d.inside) ∙ ap length fronts ∙ length-take-le k after' e.inside in
        (same, same_buffer before j k after after' same fronts (d.written h).kept (e.written h).kept)
