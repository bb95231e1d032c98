-- `root::roots::root_by_halving` meets its contract: the digits found are the nearest, and their pattern is the root's. Assumes nothing.
use native.Mathlib.Omega.{arith}
use Prim.Native.Nat.{◌+◌, ◌*◌, ◌^◌}
use mathlib.Core.Path.{sym}
use Rattle.rules.proofs.RootPatterns.{no_nan_pattern, root-pattern}
use Rattle.root.proofs.roots.root_by_halving.Goals as goal

pub float_from_bits-result : goal.float_from_bits-result
float_from_bits-result c = no_nan_pattern (c.args.k * 2 ^ 52 + c.halved.result) (omega (arith, c.halved.ensures.most))

pub returns : goal.returns
returns c = sym (root-pattern c.halved.result c.args.m c.args.k c.halved.ensures.least c.halved.ensures.most c.requires.place c.requires.least (omega (arith, c.requires.most)) (c.halved.ensures.not_less, c.halved.ensures.not_more))
