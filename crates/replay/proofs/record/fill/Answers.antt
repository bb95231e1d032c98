-- `replay::record::fill` meets its contract.
use borrow.Author.Rules.{rules}
use Prim.Native.Nat.{ℕ, ◌+◌}
use mathlib.Core.Path.{◌≡◌, ap, ◌∙◌}
use lib.Ieee.{Float, binary64, of_bits}
use mathlib.Core.List.{List}
use Rattle.replay.specs.Records.{word_of, number_of}
use Rattle.rules.proofs.Arithmetic.{reached_none, reached_more, reached_all}
use Rattle.replay.proofs.record.fill.Goals as goal

number_is : {x : Float} (bytes : List ℕ) (i : ℕ) → x ≡ of_bits binary64 (word_of bytes i) → x ≡ number_of bytes i
unfolding number_of
number_is bytes i e = e

pub loop-i-init : goal.loop-i-init
loop-i-init c = reached_none _ _

pub loop-i-preserved : goal.loop-i-preserved
loop-i-preserved c = let e : c.number_of.result ≡ number_of c.args.«record».now (c.args.at + c.loop-i.i) = number_is _ _ (c.number_of.ensures ∙ ap (of_bits binary64) c.word_after.ensures) in
    rw e (reached_more c.loop-i.invariant (search rules))

pub returns : goal.returns
returns c = reached_all c.loop-i.invariant (search rules)
