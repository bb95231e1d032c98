-- Laws of the vector routines' rules: how many places a step reaches, and what the absolute sum is then.
use Prim.Native.Nat.{ℕ, suc, ◌+◌, ◌-◌, ◌*◌, ◌/◌, ◌<◌, ◌≤◌}
use native.Mathlib.Nat.{add_comm, add-mul, mul-one, mul_comm, mul-le-mul_left, add-div_right, div-eq_of_lt, div-eq_of_lt-le, le-div_iff_mul-le}
use native.Mathlib.Omega.{arith}
use mathlib.Core.Path.{◌≡◌, sym, ap, ◌∙◌}
use mathlib.Core.List.{List}
use borrow.Author.Tests.{eq-eqb, ne_eqb}
use lib.Ieee.{Float}
use lib.ListN.{length, take, drop, length-take, length-drop}
use lib.Seq.{take-length, get_or-take, get_or-drop}
use Rattle.rules.specs.Helpers.{magnitude}
use Rattle.rules.specs.Arithmetic.{+0, at, sum_to}
use Rattle.rules.specs.Vectors.{strides, abssum}
use Rattle.rules.proofs.Arithmetic.{sum_none, sum_same, Summed}

pub strides_some : (len step : ℕ) → 0 < step → 0 < len → strides len step ≡ (len - 1) / step + 1
strides_some len step s l =
    let e : len + (step - 1) ≡ (len - 1) + step = omega arith in
    ap (λ (n : ℕ). n / step) e ∙ add-div_right (len - 1) s

pub strides_none : (step : ℕ) → 0 < step → strides 0 step ≡ 0
strides_none step s = div-eq_of_lt (omega arith)

pub stride_inside : (len step k : ℕ) → 0 < step → k < strides len step → k * step < len
stride_inside len step k s h =
    let l : suc k * step ≤ len + (step - 1) = (le-div_iff_mul-le s).0 h in
    omega arith

pub abssum_of_no_step : (x : List Float) (step : ℕ) → step ≡ 0 → abssum x step ≡ +0
unfolding abssum
abssum_of_no_step x step e = rw (eq-eqb step 0 e)

pub abssum_by_step : (x : List Float) (step : ℕ) → 0 < step → abssum x step ≡ sum_to (strides (length x) step) (λ k. magnitude (at x (k * step)))
unfolding abssum
abssum_by_step x step s = rw (ne_eqb step 0 (λ e. omega arith))

pub abssum_of_nothing : (x : List Float) (step : ℕ) → 0 < step → length x ≡ 0 → abssum x step ≡ +0
abssum_of_nothing x step s e = rw (abssum_by_step x step s, e, strides_none step s) (sum_none +0 _)

-- what a loop over all the terms has summed
pub abssum-summed : (x : List Float) (step : ℕ) {n : ℕ} {s : Float} → Summed +0 (λ k. magnitude (at x (k * step))) n s → 0 < step → n ≡ strides (length x) step → s ≡ abssum x step
abssum-summed x step r h e = rw (abssum_by_step x step h, ← e) r.is

-- a part of a slice, number by number
pub abssum_of_part : (xs : List Float) (start end n : ℕ) → end ≡ start + n → end ≤ length xs → abssum (take (end - start) (drop start xs)) 1 ≡ sum_to n (λ k. magnitude (at xs (start + k)))
abssum_of_part xs start end n e h =
    let m : end - start ≡ n = omega arith in
    rw m go
  where
    part : List Float
    part = take n (drop start xs)

    at_part : (k : ℕ) → k < n → at part (k * 1) ≡ at xs (start + k)
    at_part k b = rw (mul-one k, get_or-take, get_or-drop)

    go : abssum part 1 ≡ sum_to n (λ k. magnitude (at xs (start + k)))
    go =
        let l : length part ≡ n = simp (length-take, length-drop) (omega arith) in
        let c : strides (length part) 1 ≡ n = omega arith in
        rw (abssum_by_step part 1 (omega arith), c) (sum_same +0 (λ k. magnitude (at part (k * 1))) (λ k. magnitude (at xs (start + k))) n (λ k b. ap magnitude (at_part k b)))

-- every step-th number from the one at start, in a slice of count times step numbers
pub abssum_of_rest : (xs : List Float) (start step count : ℕ) → start < step → 0 < count → length xs ≡ step * count → abssum (take (length xs - start) (drop start xs)) step ≡ sum_to count (λ k. magnitude (at xs (k * step + start)))
abssum_of_rest xs start step count h some e =
    rw (sym (length-drop start xs), take-length (drop start xs), abssum_by_step (drop start xs) step (omega arith), c) (sum_same +0 (λ k. magnitude (at (drop start xs) (k * step))) (λ k. magnitude (at xs (k * step + start))) count (λ k b. ap magnitude (go k)))
  where
    go : (k : ℕ) → at (drop start xs) (k * step) ≡ at xs (k * step + start)
    go k = rw (get_or-drop, add_comm start (k * step))

    c : strides (length (drop start xs)) step ≡ count
    c =
        let l : length (drop start xs) ≡ step * count - start = simp length-drop (omega arith) in
        let p : step * 1 ≤ step * count = mul-le-mul_left step some in
        let d : length (drop start xs) + (step - 1) ≡ count * step + (step - 1 - start) = omega (arith, mul_comm step count) in
        div-eq_of_lt-le step (omega arith) (omega (arith, add-mul count 1 step))
