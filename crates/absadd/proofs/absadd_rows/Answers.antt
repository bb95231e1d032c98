-- `absadd::absadd_rows` meets its contract.
use borrow.Author.Rules.{rules}
use Rattle.rules.specs.Matrices.{absadded_cols, absadded_rows}
use Rattle.absadd.specs.Columns.{absadded}
use Rattle.absadd.proofs.absadd_rows.Goals as goal

pub returns-in-General : goal.returns-in-General
unfolding absadded_rows absadded
returns-in-General c = rw c.in-General.is c.absadd_dense.ensures

pub returns-in-SymPack : goal.returns-in-SymPack
unfolding absadded_cols absadded_rows
returns-in-SymPack c = rw c.in-SymPack.is c.absadd_packed.ensures
