-- `replay::record::fill` meets its contract.
use Prim.Native.Nat.{◌+◌}
use Rattle.replay.specs.Records.{number_of}
use Rattle.rules.proofs.Arithmetic.{Reached}
use Rattle.replay.proofs.record.fill.Given as goal

abbrev pub invariant-loop-i : goal.invariant-loop-i
invariant-loop-i l = Reached (λ k v. number_of l.record (l.at + k)) l.i l.initial.numbers l.numbers
