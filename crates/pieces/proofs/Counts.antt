-- The counts of a run in pieces fit 64 bits.
use Prim.Native.Nat.{ℕ, zero, suc, ◌+◌, ◌-◌, ◌*◌, ◌^◌, ◌≤◌, ◌<◌}
use native.Mathlib.Nat.{mul-add, mul-le-mul}
use native.Mathlib.Omega.{arith}
use mathlib.Core.Path.{◌≡◌}
use mathlib.Core.Bool.{true}
use mathlib.Core.List.{List, [], ◌∷◌}
use lib.Ieee.{Float}
use borrow.Author.Tests.{leb-true}
use lib.Dec.{leb}
use Rattle.rules.specs.declared.Cone.{Cone}
use Rattle.rules.specs.declared.Cone.TheVariants.{Zero, RPos, SOC, RotSOC, PSD}
use Rattle.rules.specs.declared.Norms.{Norms}
use Rattle.rules.specs.declared.SolverParam.{SolverParam}
use Rattle.rules.specs.Limits.{most_sweeps}
use Rattle.rules.specs.Blocks.{places, total_places, blocks_of}
use Rattle.rules.specs.Problem.{Problem}
use Rattle.rules.specs.Jacobi.{sweeps_fit}
use Rattle.rules.specs.Step.{State}
use Rattle.rules.specs.Run.{piece_from}
use Rattle.rules.specs.Progress.{untouched, log_from}
use Rattle.rules.specs.Demands.{pairs_twice, all_pairs_twice, rotations_from}
use Rattle.rules.proofs.Matrices.{both_true}
use Rattle.rules.proofs.Run.{goes_by_the_rules}
use Rattle.rules.proofs.Rotations.{steps_bounded}
use Rattle.rules.proofs.Progress.{few_rows}
use Rattle.iterate.specs.declared.Iterated.{Iterated}
use Rattle.iterate.specs.declared.RowCounts.{RowCounts}
use Rattle.iterate.specs.Iterate.{counts_of}
use Rattle.project.specs.Project.{ConesReady}
use Rattle.pieces.specs.Taking.{Behind, SomeSteps, Counted}

-- ---- pairs of a list of blocks: no more than two for a place

few_pairs : (b : Cone) → pairs_twice b ≤ 2 * places b
few_pairs (Zero size) = omega arith
few_pairs (RPos size) = omega arith
few_pairs (SOC size) = omega arith
few_pairs (RotSOC size) = omega arith
few_pairs (PSD zero) = omega arith
few_pairs (PSD (suc d)) =
    let less : suc d - 1 ≡ d = omega arith in
    let more : suc d + 1 ≡ d + 2 = omega arith in
    let sum : suc d * (d + 2) ≡ suc d * d + suc d * 2 = mul-add (suc d) d 2 in
    rw (less, more) (omega arith)

all_few_pairs : (bs : List Cone) → all_pairs_twice bs ≤ 2 * total_places bs
unfolding all_pairs_twice total_places
all_few_pairs [] = omega arith
all_few_pairs (b ∷ bs) = omega (arith, few_pairs b, all_few_pairs bs)

sweeps_within : (par : SolverParam) → sweeps_fit par ≡ true → par.sweep_limit ≤ most_sweeps
sweeps_within par h = leb-true _ _ (both_true (leb 1 par.sweep_limit) _ h).1

-- what a step may make, and so many steps
pub few_rotations : {par : SolverParam} {m cone : ℕ} (words : List ℕ) → ConesReady par m words cone → (k : ℕ) → k * (par.sweep_limit * all_pairs_twice (blocks_of words)) ≤ k * 131072
few_rotations {par} words ready k =
    let sweeps : par.sweep_limit ≤ most_sweeps = sweeps_within par ready.sweeps in
    let pairs : all_pairs_twice (blocks_of words) ≤ 2048 = omega (arith, all_few_pairs (blocks_of words), ready.places, ready.within) in
    mul-le-mul (omega arith) (omega (arith, mul-le-mul sweeps pairs))

-- ---- what is added to the counts behind

pub counted : {given : ℕ} {p : Problem} {ns : Norms} {k q : ℕ} {rows : RowCounts} {s : State} {log : List Float} {ran : Iterated} {s' : State} {log' : List Float} {cone : ℕ} → given < 2 ^ 32 → Behind k q rows → ConesReady p.par p.m p.words cone → SomeSteps given p ns k s log ran s' log' → Counted q rows ran.rotations ran.rows
counted {given} {p} {ns} {k} {q} {rows} {s} {log} {ran} few behind ready steps =
    let c = piece_from given p ns k 0 s in
    let r = goes_by_the_rules given p ns k 0 s in
    let made_is : ran.rotations ≡ c.rotations = rw steps.answered in
    let new_is : ran.rows ≡ counts_of (log_from p ns k s (untouched log) (c.steps - k)) = rw steps.answered in
    let bound : rotations_from p ns s r.made ≤ r.made * 131072 = omega (arith, steps_bounded p ns s r.made, few_rotations p.words ready r.made) in
    let rows_are = few_rows p ns k s (untouched log) (c.steps - k) in
    let few_steps : c.steps - k ≤ given = omega (arith, r.steps_are, r.at_most) in
    record {
      rotations = omega (arith, made_is, r.counts, bound, r.at_most, behind.few_rotations);
      written = rw new_is (omega (arith, rows_are, few_steps, behind.few_rows, behind.steps));
      dropped = rw new_is (omega (arith, rows_are, few_steps, behind.few_rows, behind.steps));
    }
