-- `jacobi::jacobi_eig` meets its contract.
use mathlib.Core.Path.{sym, ◌∙◌}
use Rattle.jacobi.proofs.Sweeps.{sweeps_first, sweeps_room, sweeps_stop, sweeps_next, sweeps_out}
use Rattle.jacobi.proofs.Outcome.{Fitting, fitting, refused, stopped, ran_out}
use borrow.Author.Rules.{rules}
use Rattle.jacobi.proofs.jacobi_eig.Goals as goal

pub returns-then-not-sizes_fit : goal.returns-then-not-sizes_fit
returns-then-not-sizes_fit c = refused (sym c.sizes_fit.ensures ∙ c.if-not-sizes_fit.true)

pub loop-init : goal.loop-init
loop-init c =
    let known : Fitting c.args.par c.args.order c.args.x.now c.args.z.now = fitting (sym c.sizes_fit.ensures ∙ c.if-not-sizes_fit.false) in
    (sweeps_first _ _ _ _ _ known.packed known.square, known.few)

pub sweep-made-requires : goal.sweep-made-requires
sweep-made-requires c = record { packed = c.loop.invariant.0.packed; square = c.loop.invariant.0.square; n_bound = sweeps_room c.loop.invariant.0 c.loop-test.true c.loop.invariant.1 }

pub returns-then-made-before : goal.returns-then-made-before
returns-then-made-before c = stopped (sym c.sizes_fit.ensures ∙ c.if-not-sizes_fit.false) (sweeps_stop c.loop.invariant.0 c.loop-test.true _ _ _ c.sweep-made.ensures c.if-made-before.true)

pub loop-preserved : goal.loop-preserved
loop-preserved c = (sweeps_next c.loop.invariant.0 c.loop-test.true _ _ _ c.sweep-made.ensures c.if-made-before.false (search rules) (search rules), search rules)

pub returns : goal.returns
returns c = ran_out (sym c.sizes_fit.ensures ∙ c.if-not-sizes_fit.false) (sweeps_out c.loop.invariant.0 (search rules))
