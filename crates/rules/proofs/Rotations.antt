-- A run of k steps makes at most k × sweep limit × the sum of d(d−1) rotations.
use Prim.Native.Nat.{ℕ, zero, suc, ◌+◌, ◌-◌, ◌*◌, ◌/◌, ◌≤◌}
use native.Mathlib.Nat.{mul-add, suc-mul, mul-le-mul_left}
use native.Mathlib.Omega.{arith}
use mathlib.Core.Path.{◌≡◌, refl}
use mathlib.Core.Bool.{Bool, true, false}
use mathlib.Core.List.{List, [], ◌∷◌, ◌++◌}
use lib.Ieee.{Float}
use lib.ListN.{take, drop}
use Rattle.rules.specs.declared.Cone.{Cone}
use Rattle.rules.specs.declared.Cone.TheVariants.{Zero, RPos, SOC, RotSOC, PSD}
use Rattle.rules.specs.declared.SolverParam.{SolverParam}
use Rattle.rules.specs.Arithmetic.{◌*ᶠ◌}
use Rattle.rules.specs.Blocks.{places}
use Rattle.rules.specs.Projections.{√2, diagonal_times, unit, proj_psd, proj_block}
use Rattle.rules.specs.Product.{Passed, proj_all, is_none}
use Rattle.rules.specs.Problem.{Problem, embed, blocks}
use Rattle.rules.specs.Step.{State, moved_x, projected, updated, x_x, x_y, x_s}
use Rattle.rules.specs.declared.Norms.{Norms}
use Rattle.rules.specs.Prepare.{prepared, prepared_norms}
use Rattle.rules.specs.Run.{whole_step, state_from, run}
use Rattle.rules.specs.Demands.{step_from, rotations_from, pairs_twice, all_pairs_twice, RotationsBounded}
use Rattle.rules.proofs.Jacobi.{rotations_bounded}
use Rattle.rules.proofs.KernelLengths.{swept}
use Rattle.rules.proofs.Run.{ends_first}

-- ---- a block

half_pairs : (most pairs : ℕ) → 2 * (most * (pairs / 2)) ≤ most * pairs
half_pairs most pairs =
    let h : pairs / 2 + pairs / 2 ≤ pairs = omega arith in
    omega (arith, mul-le-mul_left most h, mul-add most (pairs / 2) (pairs / 2))

psd_rotations : (par : SolverParam) (d : ℕ) (x work : List Float) → (proj_psd par d x work).rotations ≡ (swept par d x).reached.rotations
unfolding proj_psd
psd_rotations par d x work = go (swept par d x).succeeded refl
  where
    go : (b : Bool) → (swept par d x).succeeded ≡ b → (proj_psd par d x work).rotations ≡ (swept par d x).reached.rotations
    go true e = rw e
    go false e = rw e

-- "at most sweeps × d(d−1)/2"
pub projection_bounded : (par : SolverParam) (d : ℕ) (x work : List Float) → (proj_psd par d x work).rotations ≤ par.sweep_limit * (d * (d - 1) / 2)
projection_bounded par d x work =
    omega (arith, psd_rotations par d x work, rotations_bounded d (par.eps_zero *ᶠ par.eps_zero) par.sweep_limit (record { matrix = diagonal_times √2 d x; vectors = unit d; rotations = 0 }))

pub block_bounded : (par : SolverParam) (dual : Bool) (b : Cone) (x work : List Float) → 2 * (proj_block par dual b x work).rotations ≤ par.sweep_limit * pairs_twice b
unfolding proj_block
block_bounded par dual (Zero size) x work = omega arith
block_bounded par dual (RPos size) x work = omega arith
block_bounded par dual (SOC size) x work = omega arith
block_bounded par dual (RotSOC size) x work = omega arith
block_bounded par dual (PSD d) x work =
    omega (arith, projection_bounded par d x work, half_pairs par.sweep_limit (d * (d - 1)))

-- ---- a pass over all blocks

pass_bounded : (par : SolverParam) (dual : Bool) (bs : List Cone) (x work : List Float) → 2 * (proj_all par dual bs x work).rotations ≤ par.sweep_limit * all_pairs_twice bs
unfolding proj_all all_pairs_twice
pass_bounded par dual [] x work = omega arith
pass_bounded par dual (b ∷ bs) x work =
    let p = proj_block par dual b (take (places b) x) work in
    go p.succeeded refl (block_bounded par dual b (take (places b) x) work) (pass_bounded par dual bs (drop (places b) x) p.work)
  where
    go : (t : Bool) → (proj_block par dual b (take (places b) x) work).succeeded ≡ t → 2 * (proj_block par dual b (take (places b) x) work).rotations ≤ par.sweep_limit * pairs_twice b → 2 * (proj_all par dual bs (drop (places b) x) (proj_block par dual b (take (places b) x) work).work).rotations ≤ par.sweep_limit * all_pairs_twice bs → 2 * (proj_all par dual (b ∷ bs) x work).rotations ≤ par.sweep_limit * (pairs_twice b + all_pairs_twice bs)
    go true e h k = rw e (omega (arith, mul-add par.sweep_limit (pairs_twice b) (all_pairs_twice bs)))
    go false e h k = rw e (omega (arith, mul-add par.sweep_limit (pairs_twice b) (all_pairs_twice bs)))

-- ---- a step

projected_bounded : (p : Problem) (x cone : List Float) → (projected p x cone).rotations ≤ p.par.sweep_limit * all_pairs_twice (blocks p)
unfolding projected
projected_bounded p x cone = go (is_none first.failure) refl
  where
    first : Passed
    first = proj_all p.par true (blocks p) (x_y (embed p) x) cone

    second : Passed
    second = proj_all p.par false (blocks p) (x_s (embed p) (x_x (embed p) x ++ first.cone ++ drop (p.n + p.m) x)) first.work

    one : 2 * first.rotations ≤ p.par.sweep_limit * all_pairs_twice (blocks p)
    one = pass_bounded p.par true (blocks p) (x_y (embed p) x) cone

    two : 2 * second.rotations ≤ p.par.sweep_limit * all_pairs_twice (blocks p)
    two = pass_bounded p.par false (blocks p) (x_s (embed p) (x_x (embed p) x ++ first.cone ++ drop (p.n + p.m) x)) first.work

    go : (t : Bool) → is_none first.failure ≡ t → (projected p x cone).rotations ≤ p.par.sweep_limit * all_pairs_twice (blocks p)
    go true e = rw e (omega (arith, one, two))
    go false e = rw e (omega (arith, one))

whole_step_bounded : (p : Problem) (ns : Norms) (s : State) → (whole_step p ns s).rotations ≤ p.par.sweep_limit * all_pairs_twice (blocks p)
unfolding whole_step updated
whole_step_bounded p ns s = projected_bounded p (moved_x p s).x (moved_x p s).cone

-- ---- steps from any state, and a run

pub steps_bounded : (p : Problem) (ns : Norms) (s : State) (k : ℕ) → rotations_from p ns s k ≤ k * (p.par.sweep_limit * all_pairs_twice (blocks p))
unfolding rotations_from step_from
steps_bounded p ns s zero = omega arith
steps_bounded p ns s (suc k) =
    let most = p.par.sweep_limit * all_pairs_twice (blocks p) in
    omega (arith, steps_bounded p ns s k, whole_step_bounded p ns (state_from p ns s (suc k - 1)), suc-mul k most)

pub run_bounded : (p : Problem) → RotationsBounded p (run p)
run_bounded p = omega (arith, (ends_first p).counts, steps_bounded p (prepared_norms p) (prepared p) (run p).steps)
