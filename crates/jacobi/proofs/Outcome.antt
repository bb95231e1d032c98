-- What the test of the sizes says, and how the outcome is shown.
use Prim.Native.Nat.{ℕ, ◌*◌, ◌≤◌}
use mathlib.Core.Path.{◌≡◌}
use mathlib.Core.Bool.{Bool, true, false, ◌&&◌}
use mathlib.Core.List.{List}
use Rattle.std.specs.Prelude.{Some, None}
use borrow.Author.Tests.{leb-true, eqb-true}
use lib.Dec.{leb, eqb}
use lib.Ieee.{Float}
use lib.ListN.{length}
use Rattle.rules.specs.Limits.{limit, most_sweeps}
use Rattle.rules.specs.Matrices.{triangle}
use Rattle.rules.specs.Jacobi.{Swept, sweeps_fit, jacobi_fits, JacobiOutcome}
use Rattle.rules.specs.declared.Projection.TheVariants.{Done, Failed}
use Rattle.rules.specs.declared.SolverParam.{SolverParam}
use Rattle.rules.proofs.Matrices.{both_true}
use Rattle.jacobi.specs.Sizes.{IsPacked, IsSquare}
use Rattle.jacobi.specs.Loops.{state, swept}

pub record Fitting (par : SolverParam) (n : ℕ) (x z : List Float) : Type 0 where
  pub packed : IsPacked n x
  pub square : IsSquare n z
  pub few : par.sweep_limit ≤ most_sweeps

pub fitting : {par : SolverParam} {n : ℕ} {x z : List Float} → jacobi_fits par n (length x) (length z) ≡ true → Fitting par n x z
fitting {par} {n} {x} {z} e =
    let p = both_true (leb n limit && eqb (length x) (triangle n) && eqb (length z) (n * n)) (sweeps_fit par) e in
    let q = both_true (leb n limit && eqb (length x) (triangle n)) (eqb (length z) (n * n)) p.0 in
    let r = both_true (leb n limit) (eqb (length x) (triangle n)) q.0 in
    let s = both_true (leb 1 par.sweep_limit) (leb par.sweep_limit most_sweeps) p.1 in
    let order = leb-true n limit r.0 in
    record {
      packed = record { order = order; stored = eqb-true (length x) (triangle n) r.1 };
      square = record { order = order; stored = eqb-true (length z) (n * n) q.1 };
      few = leb-true par.sweep_limit most_sweeps s.1;
    }

module _ {fits : Bool} {ruled : Swept} {x z : List Float} where
  pub refused : fits ≡ false → JacobiOutcome fits ruled x z None x z
  refused e = record { answered = rw e; matrix_left = rw e; vectors_left = rw e }

  module _ {x' z' : List Float} {made : ℕ} (e : fits ≡ true) where
    pub stopped : swept (state x' z' made) true ≡ ruled → JacobiOutcome fits ruled x z (Some (Done made)) x' z'
    stopped is = record { answered = rw (e, ← is); matrix_left = rw (e, ← is); vectors_left = rw (e, ← is) }

    pub ran_out : swept (state x' z' made) false ≡ ruled → JacobiOutcome fits ruled x z (Some (Failed made)) x' z'
    ran_out is = record { answered = rw (e, ← is); matrix_left = rw (e, ← is); vectors_left = rw (e, ← is) }
