-- `halved_transform::line` meets its contract.
use mathlib.Core.List.{◌++◌}
use borrow.Author.Rules.{rules}
use Rattle.rules.specs.Arithmetic.{◌*ᶠ◌, at}
use Rattle.rules.specs.Matrices.{entries}
use Rattle.rules.proofs.Arithmetic.{reached_none, reached_more, reached_all}
use Rattle.halves.proofs.Ranges.{sum_of_terms}
use Rattle.halved_transform.proofs.line.Goals as goal

pub loop-c-init : goal.loop-c-init
loop-c-init c = (reached_none _ _, c.requires.stored, c.requires.x_len, c.requires.r_bound, c.requires.terms_len)

pub entry_at-requires : goal.entry_at-requires
entry_at-requires c = record { stored = c.loop-c.invariant.1; r_bound = c.loop-c.invariant.3; c_bound = rw (← c.loop-c.invariant.2, ← c.loop-c.invariant.4) (search rules) }

pub loop-c-preserved : goal.loop-c-preserved
loop-c-preserved c = (rw c.entry_at.ensures (reached_more c.loop-c.invariant.0 (search rules)), c.loop-c.invariant.1, c.loop-c.invariant.2, c.loop-c.invariant.3, c.loop-c.invariant.4)

pub returns : goal.returns
returns c = sum_of_terms (λ j. entries c.args.transpose c.args.t (c.args.a1.now ++ c.args.a2.now) c.args.r j *ᶠ at c.args.x.now j) c.args.terms.now _ c.sum_by_halves.ensures (reached_all c.loop-c.invariant.0 (search rules)) c.loop-c.invariant.4
