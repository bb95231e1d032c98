-- Document 01, "Port order", 6: the cone product: "blocks in list order; grouping gives each block of kinds 2, 3, 4 its smallest value."
use Rattle.std.specs.Prelude.{ℕ, zero, suc, ◌+◌, max, ◌≡◌, Bool, true, false, cond, not, ◌&&◌, leb, List, [], ◌∷◌, ◌++◌, Float, length, take, drop, Option, Some, None}
use Rattle.rules.specs.declared.Cone.{Cone}
use Rattle.rules.specs.declared.Cone.TheVariants.{Zero, RPos, SOC, RotSOC, PSD}
use Rattle.rules.specs.declared.Product.{Product}
use Rattle.rules.specs.declared.Product.TheVariants.{Done, Failed}
use Rattle.rules.specs.declared.SolverParam.{SolverParam}
use Rattle.rules.specs.Limits.{limit, most_places}
use Rattle.rules.specs.Helpers.{smaller}
use Rattle.rules.specs.Arithmetic.{at, each}
use Rattle.rules.specs.Blocks.{places, blocks_of, is_bad_cone}
use Rattle.rules.specs.Projections.{proj_block, block_work, sweeps_fit}

-- which block failed, counted from 0, if one did
pub data Failure : Type 0 where
  none : Failure
  block : ℕ → Failure

abbrev pub is_none : Failure → Bool
is_none none = true
is_none (block b) = false

abbrev pub one_later : Failure → Failure
one_later none = none
one_later (block b) = block (suc b)

-- What a pass over all blocks leaves: their places, cone work, the rotations made up to there, and the failure.
pub record Passed : Type 0 where
  pub cone : List Float
  pub work : List Float
  pub rotations : ℕ
  pub failure : Failure

-- A failure names its block and stops at once: the blocks after it are as they were.
unfoldable pub proj_all : SolverParam → Bool → List Cone → List Float → List Float → Passed
unfolding proj_block
proj_all par dual [] x work = record { cone = x; work = work; rotations = 0; failure = none }
proj_all par dual (b ∷ blocks) x work =
    let p = proj_block par dual b (take (places b) x) work in
    let after = drop (places b) x in
    let q = proj_all par dual blocks after p.work in
    cond p.succeeded
    (record { cone = p.block ++ q.cone; work = q.work; rotations = p.rotations + q.rotations; failure = one_later q.failure })
    (record { cone = p.block ++ after; work = p.work; rotations = p.rotations; failure = block 0 })

-- ---- grouping

-- the smaller of m and the first k numbers, one after another
unfoldable pub smallest_to : ℕ → Float → List Float → Float
unfolding smaller
smallest_to zero m xs = m
smallest_to (suc k) m xs = smaller (smallest_to k m xs) (at xs k)

unfoldable pub grouped : List Float → List Float
unfolding each smallest_to
grouped xs = each (λ k v. smallest_to (length xs) (at xs 0) xs) xs

-- "kinds 2, 3, 4"
abbrev pub is_grouped : Cone → Bool
is_grouped (Zero size) = false
is_grouped (RPos size) = false
is_grouped (SOC size) = true
is_grouped (RotSOC size) = true
is_grouped (PSD order) = true

abbrev pub group_block : Cone → List Float → List Float
group_block b xs = cond (is_grouped b) (grouped xs) xs

unfoldable pub group_all : List Cone → List Float → List Float
unfolding grouped
group_all [] xs = xs
group_all (b ∷ blocks) xs = group_block b (take (places b) xs) ++ group_all blocks (drop (places b) xs)

-- ---- what fits, and the complete outcome

-- "Cone work: at least d + d·d for the largest semidefinite order d, 0 if there is none."
unfoldable pub cone_work : List Cone → ℕ
cone_work [] = 0
cone_work (b ∷ blocks) = max (block_work b) (cone_work blocks)

unfoldable pub blocks_within : List Cone → Bool
blocks_within [] = true
blocks_within (b ∷ blocks) = leb (places b) limit && blocks_within blocks

-- a list that is no BadCone for that many places, with no block above the limit
abbrev pub sums_fit : List ℕ → ℕ → Bool
sums_fit words len = not (is_bad_cone words len) && blocks_within (blocks_of words)

abbrev pub list_fits : List ℕ → List Float → Bool
list_fits words x = sums_fit words (length x)

abbrev pub lengths_fit : SolverParam → List ℕ → ℕ → ℕ → Bool
lengths_fit par words len work = sums_fit words len && leb (cone_work (blocks_of words)) work && leb len most_places && sweeps_fit par

abbrev pub product_fits : SolverParam → List ℕ → List Float → List Float → Bool
product_fits par words x work = lengths_fit par words (length x) (length work)

abbrev pub product_answer : ℕ → Failure → Product
product_answer rotations none = Done rotations
product_answer rotations (block b) = Failed b rotations

pub record ProductOutcome (fits : Bool) (ruled : Passed) (cone work : List Float) (answer : Option Product) (cone' work' : List Float) : Type 0 where
  pub answered : answer ≡ cond fits (Some (product_answer ruled.rotations ruled.failure)) None
  pub cone_left : cone' ≡ cond fits ruled.cone cone
  pub work_left : work' ≡ cond fits ruled.work work
