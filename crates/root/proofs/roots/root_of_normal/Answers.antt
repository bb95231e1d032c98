-- `root::roots::root_of_normal` meets its contract: by the digits of the pattern, moved up by one place where that leaves an even number of places. Assumes nothing.
use native.Mathlib.Omega.{arith}
use Prim.Native.Nat.{◌+◌, ◌-◌, ◌*◌, ◌/◌, ◌%◌, ◌^◌}
use mathlib.Core.Path.{◌≡◌, sym, ap, ◌∙◌}
use lib.Ieee.{binary64, of_bits}
use Rattle.rules.specs.Root.{root_of_units, root}
use Rattle.rules.proofs.RootPatterns.{root_of_normal, even_places, moved}
use Rattle.root.specs.Root.{Digits}
use Rattle.root.proofs.roots.root_of_normal.Goals as goal

pub is_root-requires : goal.is_root-requires
is_root-requires c = (let moved_up : Digits ((2 ^ 52 + c.args.b % 2 ^ 52) * (1 + (c.args.b / 2 ^ 52 + 1073) % 2)) ((c.args.b / 2 ^ 52 + 1073) / 2 - 26) = let m = moved ((2 ^ 52 + c.args.b % 2 ^ 52)) ((c.args.b / 2 ^ 52 + 1073)) (omega arith) (omega arith) in record { least = m.0; most = m.1; place = omega arith } in moved_up)

pub root_by_halving-requires : goal.root_by_halving-requires
root_by_halving-requires c = (let moved_up : Digits ((2 ^ 52 + c.args.b % 2 ^ 52) * (1 + (c.args.b / 2 ^ 52 + 1073) % 2)) ((c.args.b / 2 ^ 52 + 1073) / 2 - 26) = let m = moved ((2 ^ 52 + c.args.b % 2 ^ 52)) ((c.args.b / 2 ^ 52 + 1073)) (omega arith) (omega arith) in record { least = m.0; most = m.1; place = omega arith } in moved_up)

pub returns-then-is_root : goal.returns-then-is_root
returns-then-is_root c = c.is_root.ensures c.if-is_root.true ∙ (let by_digits : root_of_units binary64 ((2 ^ 52 + c.args.b % 2 ^ 52) * (1 + (c.args.b / 2 ^ 52 + 1073) % 2) * 2 ^ 52 * (2 ^ ((c.args.b / 2 ^ 52 + 1073) / 2 - 26) * 2 ^ ((c.args.b / 2 ^ 52 + 1073) / 2 - 26))) ≡ root binary64 (of_bits binary64 c.args.b) = ap (root_of_units binary64) (sym (even_places ((2 ^ 52 + c.args.b % 2 ^ 52)) ((c.args.b / 2 ^ 52 + 1073)) (omega arith))) ∙ sym (root_of_normal c.args.b c.requires.0 c.requires.1) in by_digits)

pub returns-else-is_root : goal.returns-else-is_root
returns-else-is_root c = c.root_by_halving.ensures ∙ (let by_digits : root_of_units binary64 ((2 ^ 52 + c.args.b % 2 ^ 52) * (1 + (c.args.b / 2 ^ 52 + 1073) % 2) * 2 ^ 52 * (2 ^ ((c.args.b / 2 ^ 52 + 1073) / 2 - 26) * 2 ^ ((c.args.b / 2 ^ 52 + 1073) / 2 - 26))) ≡ root binary64 (of_bits binary64 c.args.b) = ap (root_of_units binary64) (sym (even_places ((2 ^ 52 + c.args.b % 2 ^ 52)) ((c.args.b / 2 ^ 52 + 1073)) (omega arith))) ∙ sym (root_of_normal c.args.b c.requires.0 c.requires.1) in by_digits)
