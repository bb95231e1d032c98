-- A block that fits has at most as many places as a block may have.
use mathlib.Core.Path.{◌≡◌}
use mathlib.Core.Bool.{true, ◌&&◌}
use mathlib.Core.List.{List}
use borrow.Author.Tests.{eqb-true}
use lib.Dec.{leb, eqb}
use lib.Ieee.{Float}
use lib.ListN.{length}
use Rattle.rules.specs.Limits.{limit}
use Rattle.rules.specs.Blocks.{places}
use Rattle.rules.specs.Jacobi.{sweeps_fit}
use Rattle.rules.specs.Projections.{block_work, block_fits}
use Rattle.rules.specs.declared.Cone.{Cone}
use Rattle.rules.specs.declared.SolverParam.{SolverParam}
use Rattle.rules.proofs.Matrices.{both_true}

pub within : (par : SolverParam) (b : Cone) (x work : List Float) → block_fits par b x work ≡ true → leb (length x) limit ≡ true
within par b x work e =
    let sized = leb (places b) limit && eqb (length x) (places b) in
    let p = both_true (sized && leb (block_work b) (length work)) (sweeps_fit par) e in
    let q = both_true sized (leb (block_work b) (length work)) p.0 in
    let r = both_true (leb (places b) limit) (eqb (length x) (places b)) q.0 in
    rw (eqb-true (length x) (places b) r.1) r.0
