-- `absadd::absadd_cols` meets its contract.
use borrow.Author.Rules.{rules}
use Rattle.rules.specs.Matrices.{absadded_cols}
use Rattle.absadd.specs.Columns.{absadded}
use Rattle.absadd.proofs.absadd_cols.Goals as goal

pub returns-in-General : goal.returns-in-General
unfolding absadded_cols absadded
returns-in-General c = rw c.in-General.is c.absadd_dense.ensures

pub returns-in-SymPack : goal.returns-in-SymPack
returns-in-SymPack c = rw c.in-SymPack.is c.absadd_packed.ensures
