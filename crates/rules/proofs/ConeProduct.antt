-- Laws of the cone product: a walk along the words of a list, block by block.
use Prim.Native.Nat.{ℕ, zero, suc, ◌+◌, ◌-◌, ◌*◌, ◌≤◌, ◌<◌, max}
use native.Mathlib.Nat.{mul-le-mul, add_assoc, zero-add, add-zero}
use native.Mathlib.Numerals.{add-one}
use native.Mathlib.Omega.{arith}
use mathlib.Core.Path.{◌≡◌, refl, sym, ◌∙◌, ap}
use mathlib.Core.Bool.{Bool, true, false, cond, not, ◌&&◌, ◌||◌}
use Rattle.std.specs.Prelude.{Option, Some, None}
use mathlib.Core.List.{List, [], ◌∷◌, ◌++◌, append_assoc}
use borrow.Author.Tests.{leb-true, leb-false, not-true, eq-eqb, le-leb}
use lib.Dec.{leb, eqb}
use lib.Ieee.{Float}
use lib.ListN.{length, get_or, take, drop, take-append-drop, length-append, length-drop}
use lib.Seq.{take_at, drop_at, length-take-le}
use Rattle.rules.specs.declared.Cone.{Cone}
use Rattle.rules.specs.declared.Cone.TheVariants.{Zero, RPos, SOC, RotSOC, PSD}
use Rattle.rules.specs.declared.Projection.TheVariants.{Done, Failed}
use Rattle.rules.specs.declared.Projection.{Projection}
use Rattle.rules.specs.declared.Product.TheVariants.{Done as ProductDone, Failed as ProductFailed}
use Rattle.rules.specs.declared.SolverParam.{SolverParam}
use Rattle.rules.specs.Limits.{limit, most_sweeps, most_places}
use Rattle.rules.specs.Arithmetic.{at, each}
use Rattle.rules.specs.Helpers.{smaller}
use Rattle.rules.specs.Blocks.{Block, Bad, read_word, blocks_of, places, has_bad_word, total_places, is_bad_cone}
use Rattle.rules.specs.Projections.{Projected, proj_block, block_work, sweeps_fit, block_fits, answer_of, BlockOutcome}
use Rattle.rules.specs.Product.{Failure, none, block, one_later, Passed, proj_all, smallest_to, grouped, group_block, group_all, cone_work, blocks_within, sums_fit, list_fits, product_fits, ProductOutcome}
use Rattle.rules.specs.Demands.{pairs_twice}
use Rattle.rules.proofs.Blocks.{twice_triangle, blocks_block, blocks_end, bad_word, bad_long, bad_more}
use Rattle.rules.proofs.Rotations.{block_bounded}
use Rattle.rules.proofs.Outcome.{block_answered, block_ruled}

-- two tests that both hold
pub both : (s t : Bool) → (s && t) ≡ true → (s ≡ true) × (t ≡ true)
both s t e = (go s t e, go' s t e)
  where
    go : (s t : Bool) → (s && t) ≡ true → s ≡ true
    go true t e = refl
    go false t e = e

    go' : (s t : Bool) → (s && t) ≡ true → t ≡ true
    go' true t e = e
    go' false true e = refl
    go' false false e = e

true_not_false : {t : Bool} → t ≡ true → t ≡ false → ⊥
true_not_false e q = let z : ◌≡◌ {A = ℕ} 0 1 = ap (λ (s : Bool). cond s 0 1) (sym e ∙ q) in omega arith

-- ---- cone work

module _ (words : List ℕ) (i : ℕ) (h : i < length words) where
  pub work_block : (b : Cone) → read_word (get_or words i 0) ≡ Block b → cone_work (blocks_of (drop i words)) ≡ max (block_work b) (cone_work (blocks_of (drop (i + 1) words)))
  unfolding cone_work
  work_block b e = rw (blocks_block words i h b e)

pub work_end : (words : List ℕ) (i : ℕ) → length words ≤ i → cone_work (blocks_of (drop i words)) ≡ 0
unfolding cone_work
work_end words i h = rw (blocks_end words i h)

-- ---- the limit

module _ (words : List ℕ) (i : ℕ) (h : i < length words) where
  pub within_block : (b : Cone) → read_word (get_or words i 0) ≡ Block b → blocks_within (blocks_of (drop i words)) ≡ (leb (places b) limit && blocks_within (blocks_of (drop (i + 1) words)))
  unfolding blocks_within
  within_block b e = rw (blocks_block words i h b e)

pub within_end : (words : List ℕ) (i : ℕ) → length words ≤ i → blocks_within (blocks_of (drop i words)) ≡ true
unfolding blocks_within
within_end words i h = rw (blocks_end words i h)

-- blocks whose places sum to no more than the limit
blocks_within_lem : (bs : List Cone) → total_places bs ≤ limit → blocks_within bs ≡ true
unfolding blocks_within total_places
blocks_within_lem [] h = refl
blocks_within_lem (b ∷ bs) h = rw (le-leb (places b) limit (omega arith)) (blocks_within_lem bs (omega arith))

-- so a list without a bad word, whose blocks have all of so many places, fits
pub sums_fit_lem : (words : List ℕ) (len : ℕ) → has_bad_word words ≡ false → total_places (blocks_of words) ≡ len → len ≤ limit → sums_fit words len ≡ true
unfolding is_bad_cone
sums_fit_lem words len e f h =
    all_hold (has_bad_word words) (eqb (total_places (blocks_of words)) len) (blocks_within (blocks_of words)) e (eq-eqb (total_places (blocks_of words)) len f) (blocks_within_lem (blocks_of words) (omega arith))
  where
    all_hold : (s t u : Bool) → s ≡ false → t ≡ true → u ≡ true → (not (s || not t) && u) ≡ true
    all_hold s t u e f g = rw (e, f, g)

-- ---- a walk: before word i, a of len places lie behind

pub record Walk (words : List ℕ) (len i a : ℕ) : Type 0 where
  pub good : is_bad_cone (drop i words) (len - a) ≡ false
  pub within : blocks_within (blocks_of (drop i words)) ≡ true
  pub inside : a ≤ len

pub walk_start : (words : List ℕ) (x : List Float) → list_fits words x ≡ true → Walk words (length x) 0 0
walk_start words x e =
    let same : length x - 0 ≡ length x = omega arith in
    let fits = both (not (is_bad_cone words (length x))) (blocks_within (blocks_of words)) e in
    record { good = rw same (not-true (is_bad_cone words (length x)) fits.0); within = fits.1; inside = omega arith }

module _ {words : List ℕ} {len i a : ℕ} (walk : Walk words len i a) (h : i < length words) where
  pub walk_no_bad : read_word (get_or words i 0) ≡ Bad → ⊥
  walk_no_bad e = true_not_false (bad_word words i h (len - a) e) walk.good

  module _ (b : Cone) (e : read_word (get_or words i 0) ≡ Block b) where
    pub walk_limit : leb (places b) limit ≡ true
    walk_limit = (both (leb (places b) limit) (blocks_within (blocks_of (drop (i + 1) words))) (sym (within_block words i h b e) ∙ walk.within)).0

    pub walk_places : a + places b ≤ len
    walk_places = go (leb (places b) (len - a)) refl
      where
        go : (t : Bool) → leb (places b) (len - a) ≡ t → a + places b ≤ len
        go true q = omega (arith, leb-true (places b) (len - a) q, walk.inside)
        go false q = absurd (true_not_false (bad_long words i h (len - a) b e (leb-false (places b) (len - a) q)) walk.good)

    pub walk_more : Walk words len (i + 1) (a + places b)
    walk_more =
        let l = walk_places in
        let left : len - (a + places b) ≡ len - a - places b = omega arith in
        record {
          good = rw left (sym (bad_more words i h (len - a) b e (omega arith)) ∙ walk.good);
          within = (both (leb (places b) limit) (blocks_within (blocks_of (drop (i + 1) words))) (sym (within_block words i h b e) ∙ walk.within)).1;
          inside = l;
        }

-- ---- the smallest of a block

pub smallest_none : (m : Float) (xs : List Float) → m ≡ smallest_to 0 m xs
unfolding smallest_to
smallest_none m xs = refl

pub smallest_more : (n : ℕ) (m : Float) (xs : List Float) → smaller (smallest_to n m xs) (at xs n) ≡ smallest_to (n + 1) m xs
unfolding smallest_to
smallest_more n m xs = rw (add-one n)

pub grouped_none : (xs : List Float) → length xs ≤ 0 → xs ≡ grouped xs
unfolding grouped each
grouped_none [] h = refl
grouped_none (x ∷ xs) h = absurd (omega arith)

-- ---- a part that comes back: y stands where the n places from a on stood

abbrev pub rejoined : ℕ → ℕ → List Float → List Float → List Float
rejoined a n x y = take a x ++ (y ++ drop n (drop a x))

module _ (a n : ℕ) (x y : List Float) (h : a + n ≤ length x) (same : length y ≡ n) where
  behind : length (take a x ++ y) ≡ a + n
  behind =
      let l : length (take a x) ≡ a = length-take-le a x (omega arith) in
      omega (arith, length-append (take a x) y)

  rejoined_take : take (a + n) (rejoined a n x y) ≡ take a x ++ y
  rejoined_take = rw (← append_assoc (take a x) y (drop n (drop a x))) (take_at (take a x ++ y) (drop n (drop a x)) (a + n) behind)

  rejoined_drop : drop (a + n) (rejoined a n x y) ≡ drop n (drop a x)
  rejoined_drop = rw (← append_assoc (take a x) y (drop n (drop a x))) (drop_at (take a x ++ y) (drop n (drop a x)) (a + n) behind)

  pub rejoined_length : length (rejoined a n x y) ≡ length x
  rejoined_length =
      omega (arith, behind, length-append (take a x) (y ++ drop n (drop a x)), length-append y (drop n (drop a x)), length-append (take a x) y, length-drop n (drop a x), length-drop a x)

pub part_length : (a n : ℕ) (x : List Float) → a + n ≤ length x → length (take n (drop a x)) ≡ n
part_length a n x h = length-take-le n (drop a x) (omega (arith, length-drop a x))

-- ---- grouping

-- before word i, the a places behind are grouped
pub record Grouping (words : List ℕ) (xs₀ : List Float) (i a : ℕ) (xs : List Float) : Type 0 where
  pub walk : Walk words (length xs₀) i a
  pub same : length xs ≡ length xs₀
  pub whole : take a xs ++ group_all (blocks_of (drop i words)) (drop a xs) ≡ group_all (blocks_of words) xs₀

pub grouping_start : (words : List ℕ) (xs : List Float) → list_fits words xs ≡ true → Grouping words xs 0 0 xs
grouping_start words xs e = record { walk = walk_start words xs e; same = refl; whole = refl }

module _ {words : List ℕ} {xs₀ : List Float} {i a : ℕ} {xs : List Float} (g : Grouping words xs₀ i a xs) where
  module _ (h : i < length words) (b : Cone) (e : read_word (get_or words i 0) ≡ Block b) where
    -- block b, whose part was the k places up to end
    pub grouping_more : (k end : ℕ) → k ≡ places b → end ≡ a + places b → (y : List Float) → length y ≡ length (take k (drop a xs)) → y ≡ group_block b (take k (drop a xs))
        → Grouping words xs₀ (i + 1) end (rejoined a k xs y)
    unfolding group_all
    grouping_more k end ke ee y kept is =
        let p = places b in
        let l : a + p ≤ length xs = omega (arith, walk_places g.walk h b e, g.same) in
        let n : length y ≡ p = rw ke at kept ∙ part_length a p xs l in
        let is' : y ≡ group_block b (take p (drop a xs)) = rw ke at is in
        let all : take a xs ++ (group_block b (take p (drop a xs)) ++ group_all (blocks_of (drop (i + 1) words)) (drop p (drop a xs))) ≡ group_all (blocks_of words) xs₀
        = rw (blocks_block words i h b e) at g.whole in
        rw (ke, ee)
        (record {
          walk = walk_more g.walk h b e;
          same = rejoined_length a p xs y l n ∙ g.same;
          whole = rw (rejoined_take a p xs y l n, rejoined_drop a p xs y l n, append_assoc, is') all;
        })

  pub grouping_end : length words ≤ i → xs ≡ group_all (blocks_of words) xs₀
  unfolding group_all
  grouping_end h =
      let all : take a xs ++ drop a xs ≡ group_all (blocks_of words) xs₀ = rw (blocks_end words i h) at g.whole in
      sym (take-append-drop a xs) ∙ all

-- ---- how many rotations a block takes: at most one for each place and sweep

pairs_in_places : (b : Cone) → pairs_twice b ≤ 2 * places b
pairs_in_places (Zero size) = omega arith
pairs_in_places (RPos size) = omega arith
pairs_in_places (SOC size) = omega arith
pairs_in_places (RotSOC size) = omega arith
pairs_in_places (PSD zero) = omega arith
pairs_in_places (PSD (suc n)) =
    let same : suc n ≤ suc n = omega arith in
    let less : suc n - 1 ≤ suc n = omega arith in
    omega (arith, mul-le-mul same less, twice_triangle (suc n))

pub block_rotations : (par : SolverParam) (dual : Bool) (b : Cone) (x work : List Float) → sweeps_fit par ≡ true → (proj_block par dual b x work).rotations ≤ most_sweeps * places b
block_rotations par dual b x work e =
    omega (arith, block_bounded par dual b x work, mul-le-mul (leb-true par.sweep_limit most_sweeps (both (leb 1 par.sweep_limit) (leb par.sweep_limit most_sweeps) e).1) (pairs_in_places b))

-- ---- projecting

abbrev later : ℕ → Failure → Failure
later n none = none
later n (block b) = block (n + b)

-- what a pass over the last blocks comes to, after q rotations and n blocks that left `behind`
abbrev continued : List Float → ℕ → ℕ → Passed → Passed
continued behind q n p = record { cone = behind ++ p.cone; work = p.work; rotations = q + p.rotations; failure = later n p.failure }

abbrev made : List Float → List Float → ℕ → Failure → Passed
made cone work rotations failure = record { cone = cone; work = work; rotations = rotations; failure = failure }

continued_none : (p : Passed) → continued [] 0 0 p ≡ p
continued_none p = rw (zero-add p.rotations, later_none p.failure)
  where
    later_none : (f : Failure) → later 0 f ≡ f
    later_none none = refl
    later_none (block b) = rw (zero-add b)

continued_more : (behind y : List Float) (q r n : ℕ) (p : Passed)
    → continued (behind ++ y) (q + r) (n + 1) p ≡ continued behind q n (made (y ++ p.cone) p.work (r + p.rotations) (one_later p.failure))
continued_more behind y q r n p = rw (append_assoc, add_assoc, later_more p.failure)
  where
    later_more : (f : Failure) → later (n + 1) f ≡ later n (one_later f)
    later_more none = refl
    later_more (block b) = let e : n + 1 + b ≡ n + suc b = omega arith in rw e

-- what a block's answer says
answer_done : (p : Projected) (r : ℕ) → Some (Done r) ≡ Some (answer_of p) → (p.succeeded ≡ true) × (p.rotations ≡ r)
answer_done p r e = go p.succeeded refl e
  where
    go : (t : Bool) → p.succeeded ≡ t → Some (Done r) ≡ Some (cond t (Done p.rotations) (Failed p.rotations)) → (p.succeeded ≡ true) × (p.rotations ≡ r)
    go true s e = (s, (cc))
    go false s e = let z : ◌≡◌ {A = ℕ} 0 1 = cc in absurd (omega arith)

answer_failed : (p : Projected) (r : ℕ) → Some (Failed r) ≡ Some (answer_of p) → (p.succeeded ≡ false) × (p.rotations ≡ r)
answer_failed p r e = go p.succeeded refl e
  where
    go : (t : Bool) → p.succeeded ≡ t → Some (Failed r) ≡ Some (cond t (Done p.rotations) (Failed p.rotations)) → (p.succeeded ≡ false) × (p.rotations ≡ r)
    go false s e = (s, (cc))
    go true s e = let z : ◌≡◌ {A = ℕ} 0 1 = cc in absurd (omega arith)

answer_some : (p : Projected) → None ≡ Some (answer_of p) → ⊥
answer_some p e = let z : ◌≡◌ {A = ℕ} 0 1 = cc in omega arith

module _ (par : SolverParam) (dual : Bool) (b : Cone) (blocks : List Cone) (x work : List Float) (k : ℕ) (ke : k ≡ places b) where
  pass_more : (proj_block par dual b (take k x) work).succeeded ≡ true
      → (let p = proj_block par dual b (take k x) work in let rest = proj_all par dual blocks (drop k x) p.work in
      proj_all par dual (b ∷ blocks) x work ≡ made (p.block ++ rest.cone) rest.work (p.rotations + rest.rotations) (one_later rest.failure))
  unfolding proj_all
  pass_more s = rw (← ke, s)

  pass_failed : (proj_block par dual b (take k x) work).succeeded ≡ false
      → (let p = proj_block par dual b (take k x) work in proj_all par dual (b ∷ blocks) x work ≡ made (p.block ++ drop k x) p.work p.rotations (block 0))
  unfolding proj_all
  pass_failed s = rw (← ke, s)

-- before word i, the a places behind are projected, with q rotations for n blocks
pub record Projecting (par : SolverParam) (dual : Bool) (words : List ℕ) (x₀ work₀ : List Float) (i a q n : ℕ) (x work : List Float) : Type 0 where
  pub walk : Walk words (length x₀) i a
  pub swept : sweeps_fit par ≡ true
  pub countable : length x₀ ≤ most_places
  pub same : length x ≡ length x₀
  pub same_work : length work ≡ length work₀
  pub enough : cone_work (blocks_of (drop i words)) ≤ length work
  pub few : q ≤ most_sweeps * a
  pub counted : n ≤ i
  pub whole : continued (take a x) q n (proj_all par dual (blocks_of (drop i words)) (drop a x) work) ≡ proj_all par dual (blocks_of words) x₀ work₀

pub projecting_start : (par : SolverParam) (dual : Bool) (words : List ℕ) (x work : List Float) → product_fits par words x work ≡ true → Projecting par dual words x work 0 0 0 0 x work
projecting_start par dual words x work e =
    let fits = sums_fit words (length x) in
    let enough = leb (cone_work (blocks_of words)) (length work) in
    let countable = leb (length x) most_places in
    let e₃ = both (fits && enough && countable) (sweeps_fit par) e in
    let e₂ = both (fits && enough) countable e₃.0 in
    let e₁ = both fits enough e₂.0 in
    record {
      walk = walk_start words x e₁.0;
      swept = e₃.1;
      countable = leb-true (length x) most_places e₂.1;
      same = refl;
      same_work = refl;
      enough = leb-true (cone_work (blocks_of words)) (length work) e₁.1;
      few = omega arith;
      counted = omega arith;
      whole = continued_none (proj_all par dual (blocks_of words) x work);
    }

module _ {par : SolverParam} {dual : Bool} {words : List ℕ} {x₀ work₀ : List Float} {i a q n : ℕ} {x work : List Float} (g : Projecting par dual words x₀ work₀ i a q n x work) where
  pub projecting_end : length words ≤ i → ProductOutcome true (proj_all par dual (blocks_of words) x₀ work₀) x₀ work₀ (Some (ProductDone q)) x work
  unfolding proj_all
  projecting_end h =
      let all : made (take a x ++ drop a x) work (q + 0) none ≡ proj_all par dual (blocks_of words) x₀ work₀ = rw (blocks_end words i h) at g.whole in
      rw (← all) (record { answered = rw (add-zero q); cone_left = sym (take-append-drop a x); work_left = refl })

  module _ (h : i < length words) (b : Cone) (e : read_word (get_or words i 0) ≡ Block b) (k : ℕ) (ke : k ≡ places b) where
    inside : a + places b ≤ length x
    inside = omega (arith, walk_places g.walk h b e, g.same)

    -- block b's part fits
    pub projecting_fits : block_fits par b (take k (drop a x)) work ≡ true
    projecting_fits =
        rw (ke, part_length a (places b) x inside, walk_limit g.walk h b e, eq-eqb (places b) (places b) refl, le-leb (block_work b) (length work) (omega (arith, g.enough, work_block words i h b e)))
        g.swept

    module _ {answer : Option Projection} {y w : List Float} (o : BlockOutcome (block_fits par b (take k (drop a x)) work) (proj_block par dual b (take k (drop a x)) work) (take k (drop a x)) work answer y w) where
      answered : answer ≡ Some (answer_of (proj_block par dual b (take k (drop a x)) work))
      answered = block_answered o projecting_fits

      left : (y ≡ (proj_block par dual b (take k (drop a x)) work).block) × (w ≡ (proj_block par dual b (take k (drop a x)) work).work)
      left = block_ruled o projecting_fits

      pub projecting_some : answer ≡ None → ⊥
      projecting_some is = answer_some (proj_block par dual b (take k (drop a x)) work) (sym is ∙ answered)

      few_more : (r : ℕ) → (proj_block par dual b (take k (drop a x)) work).rotations ≡ r → q + r ≤ most_sweeps * (a + k)
      few_more r is = omega (arith, block_rotations par dual b (take k (drop a x)) work g.swept, g.few)

      -- the sum of rotations fits 64 bits
      fits_more : (r : ℕ) → (proj_block par dual b (take k (drop a x)) work).rotations ≡ r → q + r ≤ most_sweeps * most_places
      fits_more r is = omega (arith, few_more r is, inside, g.same, g.countable)

      pub projecting_counts : (r : ℕ) → answer ≡ Some (Done r) → q + r ≤ most_sweeps * most_places
      projecting_counts r is = fits_more r (answer_done (proj_block par dual b (take k (drop a x)) work) r (sym is ∙ answered)).1

      pub projecting_counts_failed : (r : ℕ) → answer ≡ Some (Failed r) → q + r ≤ most_sweeps * most_places
      projecting_counts_failed r is = fits_more r (answer_failed (proj_block par dual b (take k (drop a x)) work) r (sym is ∙ answered)).1

      pub projecting_more : (r : ℕ) → answer ≡ Some (Done r) → length y ≡ length (take k (drop a x)) → length w ≡ length work → (end : ℕ) → end ≡ a + k
          → Projecting par dual words x₀ work₀ (i + 1) end (q + r) (n + 1) (rejoined a k x y) w
      projecting_more r is kept kept' end ee =
          let s = answer_done (proj_block par dual b (take k (drop a x)) work) r (sym is ∙ answered) in
          let l : a + k ≤ length x = omega (arith, inside) in
          let m : length y ≡ k = kept ∙ part_length a k x l in
          let rest = proj_all par dual (blocks_of (drop (i + 1) words)) (drop k (drop a x)) w in
          let all : continued (take a x) q n (proj_all par dual (b ∷ blocks_of (drop (i + 1) words)) (drop a x) work) ≡ proj_all par dual (blocks_of words) x₀ work₀
          = rw (blocks_block words i h b e) at g.whole in
          let step : proj_all par dual (b ∷ blocks_of (drop (i + 1) words)) (drop a x) work ≡ made (y ++ rest.cone) rest.work (r + rest.rotations) (one_later rest.failure)
          = rw (left.0, left.1, ← s.1) (pass_more par dual b (blocks_of (drop (i + 1) words)) (drop a x) work k ke s.0) in
          rw ee
          (record {
            walk = rw ke (walk_more g.walk h b e);
            swept = g.swept;
            countable = g.countable;
            same = rejoined_length a k x y l m ∙ g.same;
            same_work = kept' ∙ g.same_work;
            enough = omega (arith, kept', g.enough, work_block words i h b e);
            few = few_more r s.1;
            counted = omega (arith, g.counted);
            whole = rw (rejoined_take a k x y l m, rejoined_drop a k x y l m) (continued_more (take a x) y q r n rest ∙ (rw step at all));
          })

      pub projecting_failed : (r : ℕ) → answer ≡ Some (Failed r) → ProductOutcome true (proj_all par dual (blocks_of words) x₀ work₀) x₀ work₀ (Some (ProductFailed n (q + r))) (rejoined a k x y) w
      projecting_failed r is =
          let s = answer_failed (proj_block par dual b (take k (drop a x)) work) r (sym is ∙ answered) in
          let all : continued (take a x) q n (proj_all par dual (b ∷ blocks_of (drop (i + 1) words)) (drop a x) work) ≡ proj_all par dual (blocks_of words) x₀ work₀
          = rw (blocks_block words i h b e) at g.whole in
          let step : proj_all par dual (b ∷ blocks_of (drop (i + 1) words)) (drop a x) work ≡ made (y ++ drop k (drop a x)) w r (block 0)
          = rw (left.0, left.1, ← s.1) (pass_failed par dual b (blocks_of (drop (i + 1) words)) (drop a x) work k ke s.0) in
          rw (← all, step) (record { answered = rw (add-zero n); cone_left = refl; work_left = refl })
