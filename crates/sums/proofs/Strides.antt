-- How many terms every step-th number has, as the code counts them.
use Prim.Native.Nat.{ℕ, ◌+◌, ◌-◌, ◌*◌, ◌<◌, ◌≤◌}
use native.Mathlib.Omega.{arith}
use mathlib.Core.Path.{◌≡◌, sym}
use Rattle.std.specs.Int.{div_ceil}
use Rattle.std.proofs.Math.Nat.{div-eq_of_lt-le}
use Rattle.std.proofs.lemmas.Grind.{div_ceil_times}
use Rattle.rules.specs.Vectors.{strides}

pub strides_counted : (len step : ℕ) → 0 < step → div_ceil len step ≡ strides len step
strides_counted len step h =
    let q = div_ceil len step in
    let bounds = div_ceil_times len step h in
    let low : q * step ≤ len + (step - 1) = omega (arith, bounds.1) in
    let high : len + (step - 1) < (q + 1) * step = omega (arith, bounds.0) in
    sym (div-eq_of_lt-le step low high)
