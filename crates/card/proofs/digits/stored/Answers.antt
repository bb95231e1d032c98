-- `card::digits::stored` meets its contract.
use native.Mathlib.Omega.{arith}
use mathlib.Core.Path.{sym}
use Rattle.card.proofs.Counts.{stored_large_n, stored_large_m, stored_is}
use Rattle.card.proofs.digits.stored.Goals.{then-n-gt32-via-then-n-gt32, then-n-gt32-via-else-n-gt32+then-m-gt32}
use Rattle.card.proofs.digits.stored.Goals as goal

pub returns-then-n-gt32-clause-value : goal.returns-then-n-gt32-clause-value
returns-then-n-gt32-clause-value c =
    elim c.then-n-gt32.branch [
      | then-n-gt32-via-then-n-gt32 w ↦ sym (stored_large_n c.args.storage c.args.rows c.args.cols (omega arith))
      | then-n-gt32-via-else-n-gt32+then-m-gt32 w ↦ sym (stored_large_m c.args.storage c.args.rows c.args.cols (omega arith) (omega arith))
    ]

pub returns-in-Dense-clause-value : goal.returns-in-Dense-clause-value
returns-in-Dense-clause-value c = rw (stored_is c.args.storage c.args.rows c.args.cols (omega arith) (omega arith), c.in-Dense.is)

pub returns-in-Packed-clause-value : goal.returns-in-Packed-clause-value
returns-in-Packed-clause-value c = rw (stored_is c.args.storage c.args.rows c.args.cols (omega arith) (omega arith), c.in-Packed.is)
