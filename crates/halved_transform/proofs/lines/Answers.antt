-- `halved_transform::lines` meets its contract.
use borrow.Author.Rules.{rules}
use Rattle.rules.specs.Matrices.{transformed_by}
use Rattle.rules.proofs.Arithmetic.{reached_none, reached_more, reached_all}
use Rattle.halved_transform.proofs.lines.Goals as goal

pub loop-r-init : goal.loop-r-init
loop-r-init c = (reached_none _ _, c.requires.stored, c.requires.x_len, c.requires.y_len, c.requires.terms_len)

pub line-requires : goal.line-requires
line-requires c = record { stored = c.loop-r.invariant.1; x_len = c.loop-r.invariant.2; r_bound = rw (← c.loop-r.invariant.3) (search rules); terms_len = c.loop-r.invariant.4 }

pub loop-r-preserved : goal.loop-r-preserved
loop-r-preserved c = (rw c.line.ensures (reached_more c.loop-r.invariant.0 (search rules)), c.loop-r.invariant.1, c.loop-r.invariant.2, c.loop-r.invariant.3, search rules)

pub returns : goal.returns
unfolding transformed_by
returns c = reached_all c.loop-r.invariant.0 (search rules)
