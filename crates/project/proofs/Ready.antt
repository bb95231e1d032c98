-- What a step's projection asks by test it asks part by part, and the other way.
use Prim.Native.Nat.{ℕ, ◌≤◌}
use native.Mathlib.Omega.{arith}
use mathlib.Core.Path.{◌≡◌, refl}
use mathlib.Core.Bool.{Bool, true, false, not, ◌&&◌, ◌||◌, true≢false}
use mathlib.Core.List.{List}
use borrow.Author.Tests.{leb-true, eqb-true, le-leb, eq-eqb, not-true, not-false}
use lib.Dec.{leb, eqb}
use lib.Ieee.{Float}
use Rattle.std.specs.Prelude.{Option}
use lib.ListN.{length}
use Rattle.rules.specs.declared.Product.{Product}
use Rattle.rules.specs.declared.Shape.{Shape}
use Rattle.rules.specs.declared.SolverParam.{SolverParam}
use Rattle.rules.specs.Limits.{limit, most_places}
use Rattle.rules.specs.Blocks.{has_bad_word, blocks_of, total_places, is_bad_cone}
use Rattle.rules.specs.Projections.{sweeps_fit}
use Rattle.rules.specs.Product.{Passed, ProductOutcome, cone_work, blocks_within, sums_fit, lengths_fit}
use Rattle.rules.proofs.Matrices.{both_true}
use Rattle.shape.specs.Fitting.{LikeX}
use Rattle.shape.proofs.Fitting.{Within, x_fits}
use Rattle.project.specs.Project.{ConesReady, project_fits}
use Rattle.project.proofs.Cones.{blocks_within_lem}

pub cones_fit : {par : SolverParam} {m : ℕ} {words : List ℕ} {cone : ℕ} → ConesReady par m words cone → lengths_fit par words m cone ≡ true
unfolding is_bad_cone
cones_fit {par} {m} {words} {cone} r =
    rw (r.readable, eq-eqb (total_places (blocks_of words)) m r.places, blocks_within_lem (blocks_of words) (omega (arith, r.places, r.within)), le-leb (cone_work (blocks_of words)) cone r.enough, le-leb m most_places (omega (arith, r.within)))
    r.sweeps

neither : (a b : Bool) → a || b ≡ false → (a ≡ false) × (b ≡ false)
neither true b h = absurd (true≢false h)
neither false b h = (refl, h)

good_list : (words : List ℕ) (m : ℕ) → is_bad_cone words m ≡ false → (has_bad_word words ≡ false) × (total_places (blocks_of words) ≡ m)
unfolding is_bad_cone
good_list words m h =
    let f = neither (has_bad_word words) (not (eqb (total_places (blocks_of words)) m)) h in
    (f.0, eqb-true _ _ (not-false _ f.1))

pub cones_ready : (par : SolverParam) (m : ℕ) (words : List ℕ) (cone : ℕ) → m ≤ limit → lengths_fit par words m cone ≡ true → ConesReady par m words cone
cones_ready par m words cone within h =
    let p = both_true (sums_fit words m && leb (cone_work (blocks_of words)) cone && leb m most_places) (sweeps_fit par) h in
    let q = both_true (sums_fit words m && leb (cone_work (blocks_of words)) cone) (leb m most_places) p.0 in
    let r = both_true (sums_fit words m) (leb (cone_work (blocks_of words)) cone) q.0 in
    let t = both_true (not (is_bad_cone words m)) (blocks_within (blocks_of words)) r.0 in
    let g = good_list words m (not-true _ t.0) in
    record { within = within; readable = g.0; places = g.1; sweeps = p.1; enough = leb-true _ _ r.1 }

-- for a caller whose sizes fit
pub project_fits_lem : {par : SolverParam} {shape : Shape} {words : List ℕ} {x : List Float} (cone : List Float) → Within shape → LikeX shape x → ConesReady par shape.rows.0 words (length cone) → project_fits par shape words x cone ≡ true
project_fits_lem cone w like r = rw (x_fits w like) (cones_fit r)

pub projected_true : {fits : Bool} {ruled : Passed} {x cone : List Float} {answer : Option Product} {x' cone' : List Float} → ProductOutcome fits ruled x cone answer x' cone' → fits ≡ true → ProductOutcome true ruled x cone answer x' cone'
projected_true o e = record { answered = rw e at o.answered; cone_left = rw e at o.cone_left; work_left = rw e at o.work_left }
