-- `pieces::stepping::some_steps` meets its contract.
use native.Mathlib.Omega.{arith}
use mathlib.Core.Path.{◌≡◌}
use Rattle.pieces.proofs.Came.{none_taken, some_steps, some_taken}
use Rattle.pieces.proofs.stepping.some_steps.Goals as goal

pub returns-then-given-eq0 : goal.returns-then-given-eq0
returns-then-given-eq0 c = let none : c.args.given ≡ 0 = omega (arith, c.if-given-eq0.true) in
    rw (none, c.from.ensures) (none_taken _ _ _ _ _)

pub unwrap-requires : goal.unwrap-requires
unwrap-requires c = some_steps c.iterate.ensures c.requires

pub returns : goal.returns
returns c = some_taken c.iterate.ensures c.requires (omega arith) c.unwrap.ensures
