-- `eig::eigenvalues` meets its contract.
use borrow.Author.Rules.{rules}
use native.Mathlib.Omega.{arith}
use mathlib.Core.Path.{◌≡◌, sym}
use Rattle.rules.specs.Arithmetic.{at}
use Rattle.rules.specs.Jacobi.{in_packed}
use Rattle.rules.proofs.Columns.{in_packed-at}
use Rattle.rules.proofs.Arithmetic.{reached_none, reached_more}
use Rattle.eig.proofs.Rank1.{tabulate_reached}
use Rattle.eig.proofs.Diagonal.{diagonal_inside}
use Rattle.eig.proofs.eigenvalues.Goals as goal

pub loop-k-init : goal.loop-k-init
loop-k-init c = (reached_none _ _, search rules)

pub bounds-x-on_diagonal : goal.bounds-x-on_diagonal
bounds-x-on_diagonal c = omega (arith, c.on_diagonal.ensures, diagonal_inside c.requires.packed c.loop-k.k (omega arith))

pub loop-k-preserved : goal.loop-k-preserved
loop-k-preserved c =
    let read : at c.args.x.now c.on_diagonal.result ≡ in_packed c.args.n c.args.x.now c.loop-k.k c.loop-k.k = rw c.on_diagonal.ensures (sym (in_packed-at c.args.n c.args.x.now c.loop-k.k c.loop-k.k (omega arith))) in
    (rw read (reached_more c.loop-k.invariant.0 (search rules)), search rules)

pub returns : goal.returns
returns c = tabulate_reached c.loop-k.invariant.0 c.loop-k.invariant.1 (search rules)
