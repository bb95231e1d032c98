-- Cone work of an accepted run, of which the required part is lent.
use Prim.Native.Nat.{ℕ, ◌+◌, ◌-◌, ◌*◌, ◌≤◌}
use native.Mathlib.Omega.{arith}
use mathlib.Core.Path.{◌≡◌, ◌∙◌}
use mathlib.Core.List.{List}
use lib.Ieee.{Float}
use lib.ListN.{length, take, drop, replicate}
use lib.Seq.{length-take-le}
use Rattle.rules.specs.declared.Logged.{Logged}
use Rattle.rules.specs.declared.Shape.{Shape}
use Rattle.rules.specs.declared.SolverParam.{SolverParam}
use Rattle.rules.specs.Arithmetic.{+0}
use Rattle.rules.specs.Limits.{limit}
use Rattle.rules.specs.Blocks.{blocks_of}
use Rattle.rules.specs.Product.{cone_work}
use Rattle.rules.specs.Problem.{Problem, Slices, blocks, length_x, length_y}
use Rattle.rules.specs.Run.{left_by}
use Rattle.rules.specs.Progress.{LoggedAs}
use Rattle.rules.proofs.Parts.{put, from_start, zeros-part}
use Rattle.solver.specs.Solve.{Taken, left_logged, Lent, AtZero, RanIn}

part_is : (needed : ℕ) (cone : List Float) → needed ≤ length cone → length (take (needed - 0) (drop 0 cone)) ≡ needed
part_is needed cone h = rw (from_start needed) (length-take-le needed cone h)

pub needed_fits : (shape : Shape) (c : List Float) (a : Slices) (b : List Float) (words : List ℕ) (par : SolverParam) (work cone : List Float) → Taken shape c a b words par work cone → (needed : ℕ) → needed ≡ cone_work (blocks_of words) → needed ≤ length cone
needed_fits shape c a b words par work cone t needed e = rw e t.cone_long

pub lent : (shape : Shape) (c : List Float) (a : Slices) (b : List Float) (words : List ℕ) (par : SolverParam) (work cone : List Float) → Taken shape c a b words par work cone → (needed : ℕ) → needed ≡ cone_work (blocks_of words) → Lent shape c a b words par work (take (needed - 0) (drop 0 cone))
lent shape c a b words par work cone t needed e =
    let h = needed_fits shape c a b words par work cone t needed e in
    record { ready = t.ready; steps = t.steps; work_long = t.work_long; cone_long = part_is needed cone h ∙ e }

pub left_as : (p : Problem) (work cone log : List Float) (needed : ℕ) → needed ≡ cone_work (blocks p) → (answer : Logged) (work' cone' log' : List Float) → RanIn p work log answer work' cone' log' → LoggedAs (left_logged p work cone log) answer work' (put 0 needed cone cone') log'
unfolding left_by
left_as p work cone log needed e answer work' cone' log' r =
    record { answered = r.answered; work_left = r.work_is; cone_left = rw (from_start needed, e, r.cone_is); log_left = r.log_is }

pub at_zero : (shape : Shape) → shape.rows.0 ≤ limit → shape.cols.0 ≤ limit → (long_x long_y : ℕ) → long_x ≡ 3 * limit + 1 → long_y ≡ 2 * limit + 1
    → (let x = take (length_x shape.rows.0 shape.cols.0 - 0) (drop 0 (replicate long_x +0)) in let y = take (length_y shape.rows.0 shape.cols.0 - 0) (drop 0 (replicate long_y +0)) in AtZero shape x y x y x x)
at_zero shape hm hn long_x long_y x y =
    let fx = zeros-part (length_x shape.rows.0 shape.cols.0) long_x (omega arith) in
    let fy = zeros-part (length_y shape.rows.0 shape.cols.0) long_y (omega arith) in
    record { x_zero = fx; y_zero = fy; tau_zero = fx; sigma_zero = fy; rx_zero = fx; tx_zero = fx }
