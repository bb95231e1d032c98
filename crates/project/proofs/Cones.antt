-- Laws of a step's projection: the cone list fits both parts, the rotations of both fit 64 bits, and a failure of the first stops it.
use Prim.Native.Nat.{ℕ, ◌+◌, ◌-◌, ◌*◌, ◌≤◌}
use native.Mathlib.Omega.{arith}
use mathlib.Core.Path.{◌≡◌, refl, sym, ◌∙◌}
use mathlib.Core.Bool.{Bool, true, false}
use mathlib.Core.List.{List, [], ◌∷◌, ◌++◌, append_assoc}
use borrow.Author.Tests.{eq-eqb, le-leb}
use lib.Ieee.{Float}
use Rattle.std.specs.Prelude.{Option, Some, None}
use lib.ListN.{length, take, drop}
use Rattle.rules.specs.declared.Cone.{Cone}
use Rattle.rules.specs.declared.Product.{Product}
use Rattle.rules.specs.declared.Product.TheVariants.{Done, Failed}
use Rattle.rules.specs.declared.Shape.{Shape}
use Rattle.rules.specs.declared.SolverParam.{SolverParam}
use Rattle.rules.specs.Limits.{limit, most_sweeps, most_places}
use Rattle.rules.specs.Blocks.{places, blocks_of, is_bad_cone, total_places}
use Rattle.rules.specs.Projections.{proj_block, sweeps_fit}
use Rattle.rules.specs.Product.{Failure, none, block, Passed, proj_all, cone_work, blocks_within, product_fits, product_answer, ProductOutcome}
use Rattle.rules.specs.Step.{part, projected}
use Rattle.rules.proofs.ConeProduct.{block_rotations}
use Rattle.rules.proofs.Parts as parts
use Rattle.rules.proofs.Parts.{put, drop_rest, part_length, put_length}
use Rattle.shape.specs.Fitting.{LikeX}
use Rattle.project.specs.Project.{ConesReady, projected_in}

-- ---- what fits

pub blocks_within_lem : (bs : List Cone) → total_places bs ≤ limit → blocks_within bs ≡ true
unfolding total_places blocks_within
blocks_within_lem [] h = refl
blocks_within_lem (b ∷ bs) h = rw (le-leb (places b) limit (omega arith)) (blocks_within_lem bs (omega arith))

pub pass_fits : {par : SolverParam} {m : ℕ} {words : List ℕ} {k : ℕ} → ConesReady par m words k → (x work : List Float) → length x ≡ m → length work ≡ k → product_fits par words x work ≡ true
unfolding is_bad_cone
pass_fits {par} {m} {words} ready x work h l =
    rw (ready.readable, eq-eqb (total_places (blocks_of words)) (length x) (omega (arith, ready.places)), blocks_within_lem (blocks_of words) (omega (arith, ready.places, ready.within)), le-leb (cone_work (blocks_of words)) (length work) (omega (arith, ready.enough)), le-leb (length x) most_places (omega (arith, ready.within)))
    ready.sweeps

-- ---- how many rotations a pass takes

pub pass_rotations : (par : SolverParam) (dual : Bool) (bs : List Cone) (x work : List Float) → sweeps_fit par ≡ true → (proj_all par dual bs x work).rotations ≤ 64 * total_places bs
unfolding proj_all total_places
pass_rotations par dual [] x work s = omega arith
pass_rotations par dual (b ∷ bs) x work s =
    let p = proj_block par dual b (take (places b) x) work in
    go p.succeeded refl (block_rotations par dual b (take (places b) x) work s) (pass_rotations par dual bs (drop (places b) x) p.work s)
  where
    go : (t : Bool) → (proj_block par dual b (take (places b) x) work).succeeded ≡ t → (proj_block par dual b (take (places b) x) work).rotations ≤ 64 * places b → (proj_all par dual bs (drop (places b) x) (proj_block par dual b (take (places b) x) work).work).rotations ≤ 64 * total_places bs → (proj_all par dual (b ∷ bs) x work).rotations ≤ 64 * (places b + total_places bs)
    go true e h k = rw e (omega arith)
    go false e h k = rw e (omega arith)

-- ---- what an answer says

pub answer_done : (r : ℕ) (f : Failure) (q : ℕ) → Some (Done q) ≡ Some (product_answer r f) → (f ≡ none) × (r ≡ q)
answer_done r none q e = (refl, (cc))
answer_done r (block b) q e = let z : ◌≡◌ {A = ℕ} 0 1 = cc in absurd (omega arith)

pub answer_failed : (r : ℕ) (f : Failure) (b q : ℕ) → Some (Failed b q) ≡ Some (product_answer r f) → (f ≡ block b) × (r ≡ q)
answer_failed r none b q e = let z : ◌≡◌ {A = ℕ} 0 1 = cc in absurd (omega arith)
answer_failed r (block c) b q e = ((cc), (cc))

pub answer_some : (r : ℕ) (f : Failure) → None ≡ Some (product_answer r f) → ⊥
answer_some r f e = let z : ◌≡◌ {A = ℕ} 0 1 = cc in omega arith

-- ---- both parts

-- a part that came back, in the rule's words
put_rule : (a e : ℕ) (w ys : List Float) → a ≤ e → put a e w ys ≡ take a w ++ ys ++ drop e w
put_rule a e w ys h = rw (drop_rest a e w h) (sym (append_assoc (take a w) ys (drop e w)))

abbrev made : List Float → List Float → ℕ → Failure → Passed
made cone work rotations failure = record { cone = cone; work = work; rotations = rotations; failure = failure }

module _ (par : SolverParam) (shape : Shape) (words : List ℕ) (x cone : List Float) where
  abbrev first : Passed
  first = proj_all par true (blocks_of words) (part shape.cols.0 shape.rows.0 x) cone

  abbrev half : List Float
  half = take shape.cols.0 x ++ first.cone ++ drop (shape.cols.0 + shape.rows.0) x

  abbrev second : Passed
  second = proj_all par false (blocks_of words) (part (shape.cols.0 + shape.rows.0) shape.rows.0 half) first.work

  stopped : (b : ℕ) → first.failure ≡ block b → projected_in par shape words x cone ≡ made half first.work first.rotations (block b)
  unfolding projected
  stopped b e = rw e

  passed : first.failure ≡ none → projected_in par shape words x cone ≡ made (take (shape.cols.0 + shape.rows.0) half ++ second.cone ++ drop (shape.cols.0 + shape.rows.0 + shape.rows.0) half) second.work (first.rotations + second.rotations) second.failure
  unfolding projected
  passed e = rw e

-- after the first pass
module _ {par : SolverParam} {shape : Shape} {words : List ℕ} (x : List Float) {cone : List Float} {answer : Option Product} {ys work : List Float} (ready : ConesReady par shape.rows.0 words (length cone)) (like : LikeX shape x)
    (o : ProductOutcome (product_fits par words (take (shape.cols.0 + shape.rows.0 - shape.cols.0) (drop shape.cols.0 x)) cone) (proj_all par true (blocks_of words) (take (shape.cols.0 + shape.rows.0 - shape.cols.0) (drop shape.cols.0 x)) cone) (take (shape.cols.0 + shape.rows.0 - shape.cols.0) (drop shape.cols.0 x)) cone answer ys work) where
  first_outcome : ProductOutcome true (first par shape words x cone) (part shape.cols.0 shape.rows.0 x) cone answer ys work
  first_outcome =
      let fits : product_fits par words (part shape.cols.0 shape.rows.0 x) cone ≡ true = pass_fits ready (part shape.cols.0 shape.rows.0 x) cone (part_length shape.cols.0 shape.rows.0 x (omega (arith, like.is))) refl in
      rw fits at (rw (parts.places shape.cols.0 shape.rows.0) at o)

  pub first_some : answer ≡ None → ⊥
  first_some is = answer_some (first par shape words x cone).rotations (first par shape words x cone).failure (sym is ∙ first_outcome.answered)

  half_put : put shape.cols.0 (shape.cols.0 + shape.rows.0) x ys ≡ half par shape words x cone
  half_put = rw (put_rule shape.cols.0 (shape.cols.0 + shape.rows.0) x ys (omega arith), first_outcome.cone_left)

  pub first_failed : (b q : ℕ) → answer ≡ Some (Failed b q) → ProductOutcome true (projected_in par shape words x cone) x cone (Some (Failed b q)) (put shape.cols.0 (shape.cols.0 + shape.rows.0) x ys) work
  first_failed b q is =
      let s = answer_failed (first par shape words x cone).rotations (first par shape words x cone).failure b q (sym is ∙ first_outcome.answered) in
      rw (stopped par shape words x cone b s.0) (record { answered = rw s.1; cone_left = half_put; work_left = first_outcome.work_left })

  -- after the second
  module _ (q : ℕ) (is : answer ≡ Some (Done q)) (kept : length ys ≡ length (take (shape.cols.0 + shape.rows.0 - shape.cols.0) (drop shape.cols.0 x))) (kept_work : length work ≡ length cone) {answer' : Option Product} {zs work' : List Float}
      (o' : ProductOutcome (product_fits par words (take (shape.cols.0 + shape.rows.0 + shape.rows.0 - (shape.cols.0 + shape.rows.0)) (drop (shape.cols.0 + shape.rows.0) (put shape.cols.0 (shape.cols.0 + shape.rows.0) x ys))) work) (proj_all par false (blocks_of words) (take (shape.cols.0 + shape.rows.0 + shape.rows.0 - (shape.cols.0 + shape.rows.0)) (drop (shape.cols.0 + shape.rows.0) (put shape.cols.0 (shape.cols.0 + shape.rows.0) x ys))) work) (take (shape.cols.0 + shape.rows.0 + shape.rows.0 - (shape.cols.0 + shape.rows.0)) (drop (shape.cols.0 + shape.rows.0) (put shape.cols.0 (shape.cols.0 + shape.rows.0) x ys))) work answer' zs work') where
    said : ((first par shape words x cone).failure ≡ none) × ((first par shape words x cone).rotations ≡ q)
    said = answer_done (first par shape words x cone).rotations (first par shape words x cone).failure q (sym is ∙ first_outcome.answered)

    second_outcome : ProductOutcome true (second par shape words x cone) (part (shape.cols.0 + shape.rows.0) shape.rows.0 (half par shape words x cone)) (first par shape words x cone).work answer' zs work'
    second_outcome =
        let as_many : length ys ≡ shape.cols.0 + shape.rows.0 - shape.cols.0 = kept ∙ part_length shape.cols.0 (shape.cols.0 + shape.rows.0 - shape.cols.0) x (omega (arith, like.is)) in
        let whole : length (put shape.cols.0 (shape.cols.0 + shape.rows.0) x ys) ≡ length x = put_length shape.cols.0 (shape.cols.0 + shape.rows.0) x ys (omega arith) (omega (arith, like.is)) as_many in
        let fits : product_fits par words (part (shape.cols.0 + shape.rows.0) shape.rows.0 (put shape.cols.0 (shape.cols.0 + shape.rows.0) x ys)) work ≡ true = pass_fits ready (part (shape.cols.0 + shape.rows.0) shape.rows.0 (put shape.cols.0 (shape.cols.0 + shape.rows.0) x ys)) work (part_length (shape.cols.0 + shape.rows.0) shape.rows.0 (put shape.cols.0 (shape.cols.0 + shape.rows.0) x ys) (omega (arith, whole, like.is))) kept_work in
        rw (← half_put, ← first_outcome.work_left) (rw fits at (rw (parts.places (shape.cols.0 + shape.rows.0) shape.rows.0) at o'))

    fits_both : (r : ℕ) → (second par shape words x cone).rotations ≡ r → q + r ≤ 2 * (most_sweeps * limit)
    fits_both r is' =
        omega (arith, said.1, pass_rotations par true (blocks_of words) (part shape.cols.0 shape.rows.0 x) cone ready.sweeps, pass_rotations par false (blocks_of words) (part (shape.cols.0 + shape.rows.0) shape.rows.0 (half par shape words x cone)) (first par shape words x cone).work ready.sweeps, ready.places, ready.within)

    pub counts_done : (r : ℕ) → answer' ≡ Some (Done r) → q + r ≤ 2 * (most_sweeps * limit)
    counts_done r is' = fits_both r (answer_done (second par shape words x cone).rotations (second par shape words x cone).failure r (sym is' ∙ second_outcome.answered)).1

    pub counts_failed : (b r : ℕ) → answer' ≡ Some (Failed b r) → q + r ≤ 2 * (most_sweeps * limit)
    counts_failed b r is' = fits_both r (answer_failed (second par shape words x cone).rotations (second par shape words x cone).failure b r (sym is' ∙ second_outcome.answered)).1

    both_put : put (shape.cols.0 + shape.rows.0) (shape.cols.0 + shape.rows.0 + shape.rows.0) (put shape.cols.0 (shape.cols.0 + shape.rows.0) x ys) zs ≡ take (shape.cols.0 + shape.rows.0) (half par shape words x cone) ++ (second par shape words x cone).cone ++ drop (shape.cols.0 + shape.rows.0 + shape.rows.0) (half par shape words x cone)
    both_put = rw (put_rule (shape.cols.0 + shape.rows.0) (shape.cols.0 + shape.rows.0 + shape.rows.0) (put shape.cols.0 (shape.cols.0 + shape.rows.0) x ys) zs (omega arith), half_put, second_outcome.cone_left)

    both_outcome : (r : ℕ) (f : Failure) → (second par shape words x cone).failure ≡ f → (second par shape words x cone).rotations ≡ r → ProductOutcome true (projected_in par shape words x cone) x cone (Some (product_answer (q + r) f)) (put (shape.cols.0 + shape.rows.0) (shape.cols.0 + shape.rows.0 + shape.rows.0) (put shape.cols.0 (shape.cols.0 + shape.rows.0) x ys) zs) work'
    both_outcome r f e e' =
        rw (passed par shape words x cone said.0) (record { answered = rw (e, e', said.1); cone_left = both_put; work_left = second_outcome.work_left })

    pub second_done : (r : ℕ) → answer' ≡ Some (Done r) → ProductOutcome true (projected_in par shape words x cone) x cone (Some (Done (q + r))) (put (shape.cols.0 + shape.rows.0) (shape.cols.0 + shape.rows.0 + shape.rows.0) (put shape.cols.0 (shape.cols.0 + shape.rows.0) x ys) zs) work'
    second_done r is' = let s = answer_done (second par shape words x cone).rotations (second par shape words x cone).failure r (sym is' ∙ second_outcome.answered) in both_outcome r none s.0 s.1

    pub second_failed : (b r : ℕ) → answer' ≡ Some (Failed b r) → ProductOutcome true (projected_in par shape words x cone) x cone (Some (Failed b (q + r))) (put (shape.cols.0 + shape.rows.0) (shape.cols.0 + shape.rows.0 + shape.rows.0) (put shape.cols.0 (shape.cols.0 + shape.rows.0) x ys) zs) work'
    second_failed b r is' = let s = answer_failed (second par shape words x cone).rotations (second par shape words x cone).failure b r (sym is' ∙ second_outcome.answered) in both_outcome r (block b) s.0 s.1
