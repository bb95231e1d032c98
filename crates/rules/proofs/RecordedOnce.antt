-- A record that is as demanded is the only one.
use Prim.Native.Nat.{ℕ, zero, suc, ◌+◌, ◌-◌, ◌*◌, ◌<◌}
use native.Mathlib.Omega.{arith}
use mathlib.Core.Path.{◌≡◌, sym, ◌∙◌}
use mathlib.Core.List.{List, ◌++◌}
use lib.Ieee.{Float}
use lib.ListN.{drop, take-append-drop}
use Rattle.rules.specs.declared.Logged.{Logged}
use Rattle.rules.specs.Problem.{Problem}
use Rattle.rules.specs.Step.{part}
use Rattle.rules.specs.Demands.{RecordedByTheRules}
use Rattle.rules.proofs.Parts.{drop_rest}

-- the places from row w on: the row, and those after it
four_then_rest : (w : ℕ) (l : List Float) → drop (4 * w) l ≡ part (4 * w) 4 l ++ drop (4 * suc w) l
four_then_rest w l =
    let four : 4 * suc w - 4 * w ≡ 4 = omega arith in
    let rest = drop_rest (4 * w) (4 * suc w) l (omega arith) in
    sym (rw (← rest, four) (take-append-drop 4 (drop (4 * w) l)))

-- lists with the same rows and the same places after them
same_from : (w : ℕ) (l m : List Float) → ((j : ℕ) → j < w → part (4 * j) 4 l ≡ part (4 * j) 4 m) → drop (4 * w) l ≡ drop (4 * w) m → drop 0 l ≡ drop 0 m
same_from zero l m rows rest = rest
same_from (suc w) l m rows rest =
    same_from w l m (λ j h. rows j (omega arith)) (rw (four_then_rest w l, four_then_rest w m, rows w (omega arith), rest))

module _ {p : Problem} {log : List Float} {a b : Logged} {l m : List Float} (r : RecordedByTheRules p log a l) (t : RecordedByTheRules p log b m) (same : a.answer ≡ b.answer) where
  as_many : a.written ≡ b.written
  as_many = rw (r.as_many_as_fit, same, t.as_many_as_fit)

  as_many_dropped : a.dropped ≡ b.dropped
  as_many_dropped =
      let e : a.written + a.dropped ≡ b.written + b.dropped = rw (r.all_counted, same, t.all_counted) in
      omega (arith, e, as_many)

  -- the counts, and each place
  pub recorded_once : (a.written ≡ b.written) × (a.dropped ≡ b.dropped) × (l ≡ m)
  recorded_once =
      (as_many, as_many_dropped, same_from a.written l m (λ j h. r.rows j h ∙ sym (t.rows j (omega (arith, as_many)))) (r.others_kept ∙ rw as_many (sym t.others_kept)))
