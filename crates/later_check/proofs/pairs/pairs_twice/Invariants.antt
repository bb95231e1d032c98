-- `later_check::pairs::pairs_twice` meets its contract.
use Prim.Native.Nat.{◌+◌, ◌*◌, ◌≤◌}
use mathlib.Core.Path.{◌≡◌}
use lib.ListN.{drop}
use Rattle.rules.specs.Blocks.{blocks_of}
use Rattle.rules.specs.Demands.{all_pairs_twice}
use Rattle.later_check.proofs.pairs.pairs_twice.Given as goal

abbrev pub invariant-loop-word : goal.invariant-loop-word
invariant-loop-word l = record {
  left : l.sum + all_pairs_twice (blocks_of (drop l.word-index l.words)) ≡ all_pairs_twice (blocks_of l.words);
  few : l.sum ≤ 16383 * l.word-index;
}
