-- A row of the progress record: room for it, and the places that it takes.
use Prim.Native.Nat.{ℕ, ◌+◌, ◌-◌, ◌*◌, ◌/◌, ◌≤◌, ◌<◌}
use native.Mathlib.Omega.{arith}
use mathlib.Core.Path.{◌≡◌, refl, sym, ◌∙◌}
use mathlib.Core.Bool.{Bool, true, false}
use mathlib.Core.List.{List, append_assoc}
use borrow.Author.Tests.{le-leb, lt-leb, eq-eqb}
use lib.Ieee.{Float}
use lib.ListN.{length, take, drop}
use Rattle.rules.specs.declared.Criteria.{Criteria}
use Rattle.rules.specs.declared.Criteria.TheVariants.{Conv, Inf}
use Rattle.rules.specs.Outcome.{Outcome}
use Rattle.rules.specs.Vectors.{same_length}
use Rattle.rules.specs.Progress.{row_of, row_fits, row_put}
use Rattle.rules.proofs.Outcome.{refused, done, ruled_if_fits}
use Rattle.rules.proofs.Parts.{put, drop_rest, part-places}

-- no room for one more, and room
pub no_room : (log row : List Float) (written : ℕ) → length log / 4 ≤ written → Outcome (row_fits written log) (row_put written row log) log false log
no_room log row written h = refused (lt-leb (4 * written + 4) (length log) (omega arith))

pub room : (log : List Float) (written : ℕ) → written < length log / 4 → 4 * written + 4 ≤ length log
room log written h = omega arith

four : (tau : Float) (found : Criteria) → length (row_of tau found) ≡ 4
four tau (Conv pri dual gap) = refl
four tau (Inf unbdd infeas) = refl

-- a part that came back as the row
put_is : (written : ℕ) (row log : List Float) → put (4 * written) (4 * written + 4) log row ≡ row_put written row log
unfolding row_put
put_is written row log =
    rw (drop_rest (4 * written) (4 * written + 4) log (omega arith)) (sym (append_assoc (take (4 * written) log) row (drop (4 * written + 4) log)))

pub row_put_lem : (log row ys : List Float) (written : ℕ) (tau : Float) (found : Criteria) {r : Bool} → written < length log / 4 → row ≡ row_of tau found
    → Outcome (same_length row (take (4 * written + 4 - 4 * written) (drop (4 * written) log))) row (take (4 * written + 4 - 4 * written) (drop (4 * written) log)) r ys
    → Outcome (row_fits written log) (row_put written (row_of tau found) log) log true (put (4 * written) (4 * written + 4) log ys)
row_put_lem log row ys written tau found h is o =
    let fits = room log written h in
    let lent = take (4 * written + 4 - 4 * written) (drop (4 * written) log) in
    let long : length row ≡ 4 = rw is (four tau found) in
    let same : same_length row lent ≡ true = eq-eqb (length row) (length lent) (long ∙ sym (part-places (4 * written) 4 log fits)) in
    done (le-leb (4 * written + 4) (length log) fits) (rw (ruled_if_fits o same, is) (put_is written (row_of tau found) log))
