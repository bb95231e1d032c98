-- `halves::sum_by_halves` meets its contract: each short sum is written out as it is halved.
use native.Mathlib.Omega.{arith}
use mathlib.Core.Path.{◌≡◌, refl}
use lib.ListN.{length}
use Rattle.rules.specs.Editions.{halved}
use Rattle.halves.proofs.Ranges.{two_halves}
use Rattle.halves.proofs.+sum_by_halves.Goals as goal

pub returns-in-empty : goal.returns-in-empty
unfolding halved
returns-in-empty t c = let none : length c.args.terms.now ≡ 0 = omega arith in rw none

pub returns-in-len1 : goal.returns-in-len1
unfolding halved
returns-in-len1 t c = let as_many : length c.args.terms.now ≡ 1 = omega arith in rw as_many

pub returns-in-len2 : goal.returns-in-len2
unfolding halved
returns-in-len2 t c = let as_many : length c.args.terms.now ≡ 2 = omega arith in rw as_many

pub returns-in-len3 : goal.returns-in-len3
unfolding halved
returns-in-len3 t c = let as_many : length c.args.terms.now ≡ 3 = omega arith in rw as_many

pub returns-in-len4 : goal.returns-in-len4
unfolding halved
returns-in-len4 t c = let as_many : length c.args.terms.now ≡ 4 = omega arith in rw as_many

pub returns-in-len5 : goal.returns-in-len5
unfolding halved
returns-in-len5 t c = let as_many : length c.args.terms.now ≡ 5 = omega arith in rw as_many

pub returns-in-len6 : goal.returns-in-len6
unfolding halved
returns-in-len6 t c = let as_many : length c.args.terms.now ≡ 6 = omega arith in rw as_many

pub returns-in-len7 : goal.returns-in-len7
unfolding halved
returns-in-len7 t c = let as_many : length c.args.terms.now ≡ 7 = omega arith in rw as_many

pub returns-in-len8 : goal.returns-in-len8
unfolding halved
returns-in-len8 t c = let as_many : length c.args.terms.now ≡ 8 = omega arith in rw as_many

pub returns-in_default : goal.returns-in_default
returns-in_default t c = two_halves (λ v. v) c.args.terms.now refl (omega arith) c.split_at.ensures.front c.split_at.ensures.back c.sum_by_halves.ensures c.sum_by_halves-in_default.ensures
