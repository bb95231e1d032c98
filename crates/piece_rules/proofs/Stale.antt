-- A record is stale exactly when one of the six facts holds.
use Prim.Native.Nat.{◌+◌, ◌≤◌, ◌<◌}
use native.Mathlib.Omega.{arith}
use mathlib.Core.Path.{◌≡◌, refl, sym, ◌∙◌, ap}
use mathlib.Core.Bool.{Bool, true, false, true≢false}
use borrow.Author.Tests.{ltb-true, ltb-false, leb-true, leb-false, eqb-true, eq-eqb, le-ltb, lt-leb, not-false}
use lib.Dec.{leb, ltb}
use Rattle.piece_rules.specs.declared.RunLengths.{RunLengths}
use Rattle.piece_rules.specs.declared.RunRecord.{RunRecord}
use Rattle.rules.specs.declared.SolverParam.{SolverParam}
use Rattle.rules.specs.Problem.{Problem, blocks, as_read}
use Rattle.rules.specs.Run.{allowance}
use Rattle.rules.proofs.Matrices.{both_true, neither}
use Rattle.piece_rules.specs.Pieces.{same_lengths, same_param, most_rotations, stale_run}
use Rattle.piece_rules.specs.Stale.{SameParameters, Stale, other_lengths, other_parameters, no_step_left, too_many_rotations, too_many_rows, has_ended, StaleExactly}

-- ---- lengths

module _ (one other : RunLengths) where
  lengths_same : same_lengths one other ≡ true → one ≡ other
  unfolding same_lengths
  lengths_same e =
      let f = both_true _ _ e in
      let g = both_true _ _ f.0 in
      let h = both_true _ _ g.0 in
      let j = both_true _ _ h.0 in
      let k = both_true _ _ j.0 in
      λ i.
      record {
        cols = eqb-true one.cols other.cols k.0 i;
        rows = eqb-true one.rows other.rows k.1 i;
        words = eqb-true one.words other.words j.1 i;
        work = eqb-true one.work other.work h.1 i;
        cone_work = eqb-true one.cone_work other.cone_work g.1 i;
        log = eqb-true one.log other.log f.1 i;
      }

pub same_as_itself : (l : RunLengths) → same_lengths l l ≡ true
unfolding same_lengths
same_as_itself l = rw (eq-eqb l.cols l.cols refl, eq-eqb l.rows l.rows refl, eq-eqb l.words l.words refl, eq-eqb l.work l.work refl, eq-eqb l.cone_work l.cone_work refl, eq-eqb l.log l.log refl)

-- ---- parameters

module _ (one other : SolverParam) where
  parameters_same : same_param one other ≡ true → SameParameters one other
  unfolding same_param
  parameters_same e =
      let f = both_true _ _ e in
      let g = both_true _ _ f.0 in
      let h = both_true _ _ g.0 in
      let j = both_true _ _ h.0 in
      let k = both_true _ _ j.0 in
      let l = both_true _ _ k.0 in
      record {
        steps = eqb-true _ _ l.0;
        acc = eqb-true _ _ l.1;
        inf = eqb-true _ _ k.1;
        zero = eqb-true _ _ j.1;
        sweeps = eqb-true _ _ h.1;
        period = eqb-true _ _ g.1;
        edition = eqb-true _ _ f.1;
      }

  same_parameters : SameParameters one other → same_param one other ≡ true
  unfolding same_param
  same_parameters s =
      rw (eq-eqb _ _ s.steps, eq-eqb _ _ s.acc, eq-eqb _ _ s.inf, eq-eqb _ _ s.zero, eq-eqb _ _ s.sweeps, eq-eqb _ _ s.period, eq-eqb _ _ s.edition)

pub read_as_itself : (par : SolverParam) → same_param par par ≡ true
read_as_itself par = same_parameters par par (record { steps = refl; acc = refl; inf = refl; zero = refl; sweeps = refl; period = refl; edition = refl })

-- ---- the record

-- what a record that is not stale says of a run
pub record UpToDate (r : RunRecord) (lengths : RunLengths) (p : Problem) : Type 0 where
  pub same_lengths_lem : same_lengths r.lengths lengths ≡ true
  pub same_param_lem : same_param (as_read r.par) p.par ≡ true
  pub below : r.steps < allowance p.par
  pub bounded : r.rotations ≤ most_rotations p.par (blocks p) r.steps
  pub few_rows : r.written + r.dropped ≤ r.steps
  pub goes_on : r.ended ≡ false

module _ (r : RunRecord) (lengths : RunLengths) (p : Problem) where
  pub up_to_date : stale_run r lengths p ≡ false → UpToDate r lengths p
  unfolding stale_run
  up_to_date e =
      let f = neither _ _ e in
      let g = neither _ _ f.0 in
      let h = neither _ _ g.0 in
      let j = neither _ _ h.0 in
      let k = neither _ _ j.0 in
      record {
        same_lengths_lem = not-false _ k.0;
        same_param_lem = not-false _ k.1;
        below = leb-false _ _ j.1;
        bounded = ltb-false _ _ h.1;
        few_rows = ltb-false _ _ g.1;
        goes_on = f.1;
      }

  pub not_stale : UpToDate r lengths p → stale_run r lengths p ≡ false
  unfolding stale_run
  not_stale u = rw (u.same_lengths_lem, u.same_param_lem, lt-leb _ _ u.below, le-ltb _ _ u.bounded, le-ltb _ _ u.few_rows, u.goes_on)

  -- one of the six, in their order
  first_reason : (lengths_are parameters_are met above rows ended : Bool) → same_lengths r.lengths lengths ≡ lengths_are → same_param (as_read r.par) p.par ≡ parameters_are → leb (allowance p.par) r.steps ≡ met → ltb (most_rotations p.par (blocks p) r.steps) r.rotations ≡ above → ltb r.steps (r.written + r.dropped) ≡ rows → r.ended ≡ ended → stale_run r lengths p ≡ true → Stale r lengths p
  first_reason false b c d x y e f g h i j s = other_lengths (λ same. absurd (true≢false (sym (same_as_itself lengths) ∙ ap (λ l. same_lengths l lengths) (sym same) ∙ e)))
  first_reason true false c d x y e f g h i j s = other_parameters (λ same. absurd (true≢false (sym (same_parameters (as_read r.par) p.par same) ∙ f)))
  first_reason true true true d x y e f g h i j s = no_step_left (leb-true _ _ g)
  first_reason true true false true x y e f g h i j s = too_many_rotations (ltb-true _ _ h)
  first_reason true true false false true y e f g h i j s = too_many_rows (ltb-true _ _ i)
  first_reason true true false false false true e f g h i j s = has_ended j
  first_reason true true false false false false e f g h i j s =
      absurd (true≢false (sym s ∙ not_stale (record { same_lengths_lem = e; same_param_lem = f; below = leb-false _ _ g; bounded = ltb-false _ _ h; few_rows = ltb-false _ _ i; goes_on = j })))

  stale_if : (b : Bool) → stale_run r lengths p ≡ b → Stale r lengths p → b ≡ true
  stale_if true e s = refl
  stale_if false e s = absurd (go s)
    where
      u : UpToDate r lengths p
      u = up_to_date e

      go : Stale r lengths p → ⊥
      go (other_lengths f) = f (lengths_same r.lengths lengths u.same_lengths_lem)
      go (other_parameters f) = f (parameters_same (as_read r.par) p.par u.same_param_lem)
      go (no_step_left h) = omega (arith, u.below)
      go (too_many_rotations h) = omega (arith, u.bounded)
      go (too_many_rows h) = omega (arith, u.few_rows)
      go (has_ended h) = true≢false (sym h ∙ u.goes_on)

  -- Refusal 7's fact holds exactly when one of the six does.
  pub stale_exactly : StaleExactly r lengths p
  stale_exactly =
      record {
        exactly = (
          first_reason (same_lengths r.lengths lengths) (same_param (as_read r.par) p.par) (leb (allowance p.par) r.steps) (ltb (most_rotations p.par (blocks p) r.steps) r.rotations) (ltb r.steps (r.written + r.dropped)) r.ended refl refl refl refl refl refl,
          stale_if (stale_run r lengths p) refl,
        );
      }
