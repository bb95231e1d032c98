-- `solver::solving::run_in` meets its contract.
use native.Mathlib.Omega.{arith}
use borrow.Author.Rules.{rules}
use Rattle.solver.proofs.Whole.{run_prepares, run_iterates, run-whole}
use Rattle.solver.proofs.solving.run_in.Goals as goal

pub unwrap-norms-requires : goal.unwrap-norms-requires
unwrap-norms-requires c = run_prepares c.requires.lent c.requires.at_zero c.prepare.ensures

pub unwrap-ran-requires : goal.unwrap-ran-requires
unwrap-ran-requires c = run_iterates c.requires.lent c.requires.at_zero c.prepare.ensures c.unwrap-norms.ensures (search rules) c.iterate.ensures

pub returns : goal.returns
returns c = run-whole c.requires.lent c.requires.at_zero c.prepare.ensures c.unwrap-norms.ensures (search rules) c.iterate.ensures c.unwrap-ran.ensures c.unwrap_or-ending.ensures c.settle.ensures
    (omega (arith, c.iterate.auto))
    (omega (arith, c.iterate.auto))
    (omega (arith, c.iterate.auto))
    (omega (arith, c.iterate.auto))
    (omega (arith, c.iterate.auto))
