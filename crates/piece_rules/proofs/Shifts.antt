-- What a run has behind it, its rotations and the rows of its record, only stands in front of what it comes to.
use Prim.Native.Nat.{ℕ, zero, suc, ◌+◌, ◌*◌, ◌≤◌, ◌<◌}
use native.Mathlib.Omega.{arith}
use mathlib.Core.Path.{◌≡◌, refl, ◌∙◌}
use mathlib.Core.Bool.{Bool, true, false, ◌&&◌}
use mathlib.Core.List.{List, ◌++◌, append_assoc}
use borrow.Author.Tests.{leb-true, leb-false, le-leb, lt-leb}
use lib.Ieee.{Float}
use lib.ListN.{length, take, drop, length-append, length-take, length-drop, take-append-drop}
use lib.Seq.{take-append-add, drop-append-add}
use Rattle.rules.specs.declared.Criteria.{Criteria}
use Rattle.rules.specs.declared.Criteria.TheVariants.{Conv, Inf}
use Rattle.rules.specs.declared.Norms.{Norms}
use Rattle.rules.specs.Product.{is_none}
use Rattle.rules.specs.Problem.{Problem, embed}
use Rattle.rules.specs.Step.{State}
use Rattle.rules.specs.Criteria.{tau_of}
use Rattle.rules.specs.Run.{Verdict, GoesOn, Ends, WholeStep, whole_step, verdict, state_from, Piece, going_on, piece_from}
use Rattle.rules.specs.Progress.{is_due, row_of, Log, untouched, row_fits, row_put, log_row, log_step, log_from}
use Rattle.rules.proofs.Parts.{put_length}
use Rattle.rules.proofs.Run.{piece_none, piece_more}
use Rattle.rules.proofs.Progress.{step_without_row, step_with_row, row_written, row_dropped, log_none, log_more}
use Rattle.rules.proofs.Recorded.{row_put_lem}

-- ---- rotations

-- the piece, with so many rotations more behind it
abbrev pub rotations_more : ℕ → Piece → Piece
rotations_more a c = record { said = c.said; steps = c.steps; rotations = a + c.rotations; state = c.state }

more_going_on : (a k q : ℕ) (s : State) (rest : Piece) (v : Verdict) → going_on v (rotations_more a rest) k (a + q) s ≡ rotations_more a (going_on v rest k q s)
more_going_on a k q s rest GoesOn = refl
more_going_on a k q s rest (Ends e) = refl

pub rotations_behind : (more : ℕ) (p : Problem) (ns : Norms) (k a q : ℕ) (s : State) → piece_from more p ns k (a + q) s ≡ rotations_more a (piece_from more p ns k q s)
rotations_behind zero p ns k a q s = rw (piece_none p ns k (a + q) s, piece_none p ns k q s)
rotations_behind (suc more) p ns k a q s =
    let t = whole_step p ns s in
    let sum : a + q + t.rotations ≡ a + (q + t.rotations) = omega arith in
    let rest = rotations_behind more p ns (k + 1) a (q + t.rotations) t.state in
    rw (piece_more p ns more k (a + q) s t refl, piece_more p ns more k q s t refl, sum, rest)
    (more_going_on a (k + 1) (q + t.rotations) t.state (piece_from more p ns (k + 1) (q + t.rotations) t.state) (verdict p.par (k + 1) t.failure t.criteria))

pub rotations_behind_0 : (more : ℕ) (p : Problem) (ns : Norms) (k a : ℕ) (s : State) → piece_from more p ns k a s ≡ rotations_more a (piece_from more p ns k 0 s)
rotations_behind_0 more p ns k a s =
    let none : a + 0 ≡ a = omega arith in
    rw none at (rotations_behind more p ns k a 0 s)

-- ---- the places of a record stay as many

pub row_long : (tau : Float) (criteria : Criteria) → length (row_of tau criteria) ≡ 4
row_long tau (Conv pri dual gap) = refl
row_long tau (Inf unbdd infeas) = refl

row_length : (row : List Float) (log : Log) → length row ≡ 4 → length (log_row row log).places ≡ length log.places
row_length row log four = go (row_fits log.written log.places) refl
  where
    go : (b : Bool) → row_fits log.written log.places ≡ b → length (log_row row log).places ≡ length log.places
    go true e =
        let w = log.written in
        rw (row_written row log e, row_put_lem w row log.places)
        (put_length (4 * w) (4 * w + 4) log.places row (omega arith) (leb-true _ _ e) (omega arith))
    go false e = rw (row_dropped row log e)

step-length : (p : Problem) (k : ℕ) (t : WholeStep) (log : Log) → length (log_step p k t log).places ≡ length log.places
step-length p k t log = go (is_due p.par.log_period k && is_none t.failure) refl
  where
    go : (b : Bool) → is_due p.par.log_period k && is_none t.failure ≡ b → length (log_step p k t log).places ≡ length log.places
    go true e =
        let tau = tau_of (embed p) t.state.x in
        rw (step_with_row p k t log e) (row_length (row_of tau t.criteria) log (row_long tau t.criteria))
    go false e = rw (step_without_row p k t log e)

pub log_length : (p : Problem) (ns : Norms) (k : ℕ) (s : State) (log : Log) (i : ℕ) → length (log_from p ns k s log i).places ≡ length log.places
log_length p ns k s log zero = rw (log_none p ns k s log)
log_length p ns k s log (suc i) =
    rw (log_more p ns k s log i)
    (step-length p (k + suc i) (whole_step p ns (state_from p ns s i)) (log_from p ns k s log i) ∙ log_length p ns k s log i)

-- ---- rows

-- the record, with these places in front of its own and so many rows more
abbrev pub rows_more : List Float → ℕ → ℕ → Log → Log
rows_more front w d log = record { places = front ++ log.places; written = w + log.written; dropped = d + log.dropped }

-- w rows stand in front, or fewer where no row fits behind them
record InFront (front : List Float) (w : ℕ) (log : Log) : Type 0 where
  at_most : length front ≤ 4 * w
  filled : 4 ≤ length log.places → length front ≡ 4 * w

module _ (front : List Float) (w d : ℕ) (row : List Float) (log : Log) (h : InFront front w log) where
  abbrev i : ℕ
  i = log.written

  abbrev own : List Float
  own = log.places

  behind_long : length (front ++ own) ≡ length front + length own
  behind_long = length-append front own

  put_behind : length front ≡ 4 * w → row_put (w + i) row (front ++ own) ≡ front ++ row_put i row own
  unfolding row_put
  put_behind is =
      let there : 4 * (w + i) ≡ length front + 4 * i = omega arith in
      let after : length front + 4 * i + 4 ≡ length front + (4 * i + 4) = omega arith in
      rw (there, after, take-append-add front own (4 * i), drop-append-add front own (4 * i + 4), append_assoc front (take (4 * i) own) row, append_assoc front (take (4 * i) own ++ row) (drop (4 * i + 4) own))

  row_behind : log_row row (rows_more front w d log) ≡ rows_more front w d (log_row row log)
  row_behind = go (row_fits i own) refl
    where
      go : (b : Bool) → row_fits i own ≡ b → log_row row (rows_more front w d log) ≡ rows_more front w d (log_row row log)
      go true e =
          let inside : 4 * i + 4 ≤ length own = leb-true _ _ e in
          let is : length front ≡ 4 * w = h.filled (omega arith) in
          let fits : row_fits (w + i) (front ++ own) ≡ true = le-leb (4 * (w + i) + 4) (length (front ++ own)) (omega (arith, behind_long)) in
          let sum : w + i + 1 ≡ w + (i + 1) = omega arith in
          rw (row_written row (rows_more front w d log) fits, row_written row log e, put_behind is, sum)
      go false e =
          let outside : length own < 4 * i + 4 = leb-false _ _ e in
          let fits : row_fits (w + i) (front ++ own) ≡ false = lt-leb (4 * (w + i) + 4) (length (front ++ own)) (omega (arith, behind_long, h.at_most)) in
          let sum : d + log.dropped + 1 ≡ d + (log.dropped + 1) = omega arith in
          rw (row_dropped row (rows_more front w d log) fits, row_dropped row log e, sum)

step_behind : (p : Problem) (k : ℕ) (t : WholeStep) (front : List Float) (w d : ℕ) (log : Log) → InFront front w log → log_step p k t (rows_more front w d log) ≡ rows_more front w d (log_step p k t log)
step_behind p k t front w d log h = go (is_due p.par.log_period k && is_none t.failure) refl
  where
    go : (b : Bool) → is_due p.par.log_period k && is_none t.failure ≡ b → log_step p k t (rows_more front w d log) ≡ rows_more front w d (log_step p k t log)
    go true e =
        rw (step_with_row p k t (rows_more front w d log) e, step_with_row p k t log e)
        (row_behind front w d (row_of (tau_of (embed p) t.state.x) t.criteria) log h)
    go false e = rw (step_without_row p k t (rows_more front w d log) e, step_without_row p k t log e)

module _ (p : Problem) (ns : Norms) (k : ℕ) (s : State) (front : List Float) (w d : ℕ) (log : Log) (h : InFront front w log) where
  still_in_front : (i : ℕ) → InFront front w (log_from p ns k s log i)
  still_in_front i = record { at_most = h.at_most; filled = λ l. h.filled (omega (arith, log_length p ns k s log i)) }

  logs_behind : (i : ℕ) → log_from p ns k s (rows_more front w d log) i ≡ rows_more front w d (log_from p ns k s log i)
  logs_behind zero = rw (log_none p ns k s (rows_more front w d log), log_none p ns k s log)
  logs_behind (suc i) =
      rw (log_more p ns k s (rows_more front w d log) i, log_more p ns k s log i, logs_behind i)
      (step_behind p (k + suc i) (whole_step p ns (state_from p ns s i)) front w d (log_from p ns k s log i) (still_in_front i))

pub rows_behind : (p : Problem) (ns : Norms) (k : ℕ) (s : State) (places : List Float) (w d i : ℕ) → log_from p ns k s (record { places = places; written = w; dropped = d }) i ≡ rows_more (take (4 * w) places) w d (log_from p ns k s (untouched (drop (4 * w) places)) i)
rows_behind p ns k s places w d i =
    let front = take (4 * w) places in
    let own = drop (4 * w) places in
    let in_front : InFront front w (untouched own) = record { at_most = omega (arith, length-take (4 * w) places); filled = λ l. omega (arith, length-take (4 * w) places, length-drop (4 * w) places) } in
    let none : w + 0 ≡ w = omega arith in
    let none' : d + 0 ≡ d = omega arith in
    rw (take-append-drop (4 * w) places, none, none') at (logs_behind p ns k s front w d (untouched own) in_front i)
