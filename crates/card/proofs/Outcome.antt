-- How the reader shows its outcome, and that it is one thing.
use Prim.Native.Nat.{ℕ, ◌+◌, ◌*◌, ◌≤◌}
use mathlib.Core.Path.{◌≡◌, sym, ◌∙◌}
use mathlib.Core.Bool.{true}
use mathlib.Core.List.{List, ◌++◌}
use lib.ListN.{length, take, drop}
use lib.Seq.{length-take-le}
use borrow.Author.Tests.{le-leb}
use Rattle.std.specs.Prelude.{Result, Ok}
use Rattle.rules.specs.Refusals.{is_packed}
use Rattle.card.specs.Card.{bits_of_bytes, number_count, read_card}
use Rattle.card.specs.Fields.{fields_at}
use Rattle.card.specs.Outcome.{holds_any, answer_of, ReadOutcome}
use Rattle.card.specs.declared.CardHead.{CardHead}
use Rattle.card.specs.declared.Fault.{Fault}
use Rattle.card.proofs.Found.{words_are, numbers_are}

module _ (bytes words numbers : List ℕ) (g : 63 ≤ length words) (h : 1091 ≤ length numbers) where
  enough : holds_any words numbers ≡ true
  enough = rw (le-leb 63 (length words) g, le-leb 1091 (length numbers) h)

  -- the lists that were filled are the fronts of the buffers
  pub read_done : (head : CardHead) (count : ℕ) (ws ns : List ℕ) → answer_of (read_card bytes) ≡ Ok head → count ≡ number_count (is_packed head.storage) head.cols.0 head.rows.0
      → head.words ≤ length words → count ≤ length numbers
      → ws ≡ fields_at (length (take head.words words)) 23 16 (bits_of_bytes bytes)
      → ns ≡ fields_at (length (take count numbers)) (23 + 16 * head.words + 20 + 7) 64 (bits_of_bytes bytes)
      → ReadOutcome bytes words numbers (Ok head) (ws ++ drop head.words words) (ns ++ drop count numbers)
  read_done head count ws ns e is some many w k =
      record {
        answered = rw enough (sym e);
        words_left = rw (enough, w, length-take-le head.words words some) (sym (words_are bytes head e words));
        numbers_left = rw (enough, k, length-take-le count numbers many, is) (sym (numbers_are bytes head e numbers));
      }

-- ---- any two outcomes that the contract allows coincide

pub any_two_readings_coincide : {bytes words numbers : List ℕ} {a b : Result CardHead Fault} {v w x y : List ℕ}
    → ReadOutcome bytes words numbers a v x → ReadOutcome bytes words numbers b w y → (a ≡ b) × (v ≡ w) × (x ≡ y)
any_two_readings_coincide p q = (p.answered ∙ sym q.answered, p.words_left ∙ sym q.words_left, p.numbers_left ∙ sym q.numbers_left)
