-- What stands before the first step, written out.
use Prim.Native.Nat.{◌+◌}
use mathlib.Core.Path.{◌≡◌, refl}
use mathlib.Core.List.{List, ◌++◌}
use lib.Ieee.{Float}
use lib.ListN.{take, drop, set}
use Rattle.rules.specs.Helpers.{one}
use Rattle.rules.specs.Arithmetic.{+0}
use Rattle.rules.specs.Vectors.{scaled}
use Rattle.rules.specs.Problem.{Embed}
use Rattle.rules.specs.Prepare.{column_in, with_b, with_c, fr_norm_by, norms, start_x}

module _ (k : Embed) (x : List Float) where
  pub with_b_is : with_b k x ≡ column_in k.edition k.m k.b (take k.m x) ++ drop k.m x
  unfolding with_b
  with_b_is = refl

  pub with_c_is : with_c k x ≡ column_in k.edition k.n k.c (take k.n x) ++ drop k.n x
  unfolding with_c
  with_c_is = refl

  pub norms_of : {b c : Float} → b ≡ fr_norm_by k.edition (take k.m (with_b k x)) → c ≡ fr_norm_by k.edition (take k.n (with_c k (with_b k x))) → record { b = b; c = c } ≡ norms k x
  unfolding norms
  norms_of of_b of_c = λ i. record { b = of_b i; c = of_c i }

  pub start_x_is : start_x k x ≡ set (scaled +0 (with_c k (with_b k x))) (k.n + k.m + k.m) one
  unfolding start_x
  start_x_is = refl
