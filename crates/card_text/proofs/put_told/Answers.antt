-- `card_text::put_told` meets its contract.
use native.Mathlib.Omega.{arith}
use Rattle.card_text.proofs.Whole.{x_within, y_within}
use Rattle.card_text.proofs.put_told.Goals as goal

pub put_answer-requires : goal.put_answer-requires
put_answer-requires c =
    let n = rw c.in-Ok.is at c.requires.told_bound in
    let m = rw c.in-Ok.is at c.requires.told_bound_2 in
    record {
      in_bounds = omega (arith, c.requires.in_bounds);
      x_len_bound = rw c.solution_x-x.ensures (x_within c.in-Ok.told.cols.0 c.args.work.now n);
      y_len_bound = rw c.solution_y-y.ensures (y_within c.in-Ok.told.rows.0 c.in-Ok.told.cols.0 c.args.work.now m);
    }

pub returns-in-Err-clause-says : goal.returns-in-Err-clause-says
returns-in-Err-clause-says c = rw (c.in-Err.is, ← c.number.ensures) c.put_fault.ensures.says

pub returns-in-Ok-clause-says : goal.returns-in-Ok-clause-says
returns-in-Ok-clause-says c = rw c.in-Ok.is (rw (c.solution_x-x.ensures, c.solution_y-y.ensures) at c.put_answer.ensures.says)
