-- `halved_transform::op_by_halves` meets its contract.
use native.Mathlib.Omega.{arith}
use mathlib.Core.Path.{sym, ◌∙◌}
use mathlib.Core.List.{◌++◌}
use borrow.Author.Rules.{rules}
use borrow.Author.Tests.{not-true, not-false}
use Rattle.rules.proofs.Outcome.{refused, done}
use Rattle.rules.proofs.Matrices.{Fitting, fitting}
use Rattle.halved_transform.proofs.Halved.{scales_if_empty, transforms_else, line_within}
use Rattle.halved_transform.proofs.op_by_halves.Goals as goal

pub returns-then-not-joined_fits : goal.returns-then-not-joined_fits
returns-then-not-joined_fits c = refused (sym c.joined_fits.ensures ∙ not-true _ c.if-not-joined_fits.true-raw)

pub returns-then-is_empty : goal.returns-then-is_empty
returns-then-is_empty c = done (sym c.joined_fits.ensures ∙ not-false _ c.if-not-joined_fits.false-raw) (c.scale.ensures ∙ scales_if_empty c.args.transpose c.args.t c.args.alpha (c.args.a1.now ++ c.args.a2.now) c.args.x.now c.args.beta c.args.y.now (sym c.is_empty.ensures ∙ c.if-is_empty.true))

pub lines-requires : goal.lines-requires
lines-requires c = let f : Fitting c.args.transpose c.args.t (c.args.a1.now ++ c.args.a2.now) c.args.x.now c.args.y.now = fitting (sym c.joined_fits.ensures ∙ not-false _ c.if-not-joined_fits.false-raw) in record { stored = f.stored; x_len = f.wide; y_len = f.high; terms_len = search rules }

pub returns-then-n-le64 : goal.returns-then-n-le64
returns-then-n-le64 c = done (sym c.joined_fits.ensures ∙ not-false _ c.if-not-joined_fits.false-raw) (c.lines.ensures ∙ transforms_else c.args.transpose c.args.t c.args.alpha (c.args.a1.now ++ c.args.a2.now) c.args.x.now c.args.beta c.args.y.now (sym c.is_empty.ensures ∙ c.if-is_empty.false))

pub slice_bounds-terms-end : goal.slice_bounds-terms-end
slice_bounds-terms-end c = let f : Fitting c.args.transpose c.args.t (c.args.a1.now ++ c.args.a2.now) c.args.x.now c.args.y.now = fitting (sym c.joined_fits.ensures ∙ not-false _ c.if-not-joined_fits.false-raw) in
    omega (arith, line_within c.args.transpose f)

pub lines-requires-2 : goal.lines-requires-2
lines-requires-2 c = let f : Fitting c.args.transpose c.args.t (c.args.a1.now ++ c.args.a2.now) c.args.x.now c.args.y.now = fitting (sym c.joined_fits.ensures ∙ not-false _ c.if-not-joined_fits.false-raw) in record { stored = f.stored; x_len = f.wide; y_len = f.high; terms_len = search rules }

pub returns : goal.returns
returns c = done (sym c.joined_fits.ensures ∙ not-false _ c.if-not-joined_fits.false-raw) (c.lines-2.ensures ∙ transforms_else c.args.transpose c.args.t c.args.alpha (c.args.a1.now ++ c.args.a2.now) c.args.x.now c.args.beta c.args.y.now (sym c.is_empty.ensures ∙ c.if-is_empty.false))
