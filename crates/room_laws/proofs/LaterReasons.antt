-- What a later piece of a run is held to: each answer is what the facts up to it come to.
use Prim.Native.Nat.{ℕ, ◌+◌, ◌*◌, ◌-◌, ◌≤◌, ◌<◌, max}
use mathlib.Core.Path.{◌≡◌, refl, sym, ◌∙◌}
use mathlib.Core.Bool.{Bool, not, ◌&&◌, ◌||◌, true, false}
use mathlib.Core.List.{List}
use lib.Dec.{leb, ltb, eqb}
use Rattle.rules.specs.declared.SolverParam.{SolverParam}
use Rattle.rules.specs.Blocks.{blocks_of}
use Rattle.rules.specs.Matrices.{triangle}
use Rattle.rules.specs.Demands.{all_pairs_twice}
use Rattle.rules.specs.Problem.{as_read}
use Rattle.rules.specs.Run.{allowance}
use Rattle.piece_rules.specs.declared.RunLengths.{RunLengths}
use Rattle.piece_rules.specs.declared.RunRecord.{RunRecord}
use Rattle.piece_rules.specs.Pieces.{same_bits, same_lengths, same_param, stale_run}
use Rattle.later_check.specs.Parts.{listed}
use native.Mathlib.Nat.{mul-le-mul_left, mul-zero, zero-mul, le-max_left, le-max_right, max-le}
use native.Mathlib.Omega.{arith}
use borrow.Author.Tests.{ltb-true, ltb-false, leb-true, leb-false, le-leb, lt-leb, lt-ltb, le-ltb}

pub same_lengths_is : (one other : RunLengths)
    → same_lengths one other
    ≡ (eqb one.cols other.cols && eqb one.rows other.rows && eqb one.words other.words && eqb one.work other.work
    && eqb one.cone_work other.cone_work && eqb one.log other.log)
unfolding same_lengths
same_lengths_is one other = refl

pub same_param_is : (one other : SolverParam)
    → same_param one other
    ≡ (eqb one.max_iter other.max_iter && same_bits one.eps_acc other.eps_acc && same_bits one.eps_inf other.eps_inf
    && same_bits one.eps_zero other.eps_zero && eqb one.sweep_limit other.sweep_limit
    && eqb one.log_period other.log_period && eqb one.«edition» other.«edition»)
unfolding same_param
same_param_is one other = refl

pub stale_is : (r : RunRecord) (lengths : RunLengths) (words : List ℕ) (par : SolverParam)
    → stale_run r lengths (listed words par)
    ≡ (not (same_lengths r.lengths lengths) || not (same_param (as_read r.par) par) || leb (allowance par) r.steps
    || ltb (r.steps * (par.sweep_limit * all_pairs_twice (blocks_of words))) r.rotations || ltb r.steps (r.written + r.dropped) || r.ended)
unfolding stale_run
stale_is r lengths words par = refl

-- what the calls within a test say of it
pub param : (par other : SolverParam) {read : SolverParam} {same t : Bool} → read ≡ as_read par → same ≡ same_param read other → not same ≡ t → not (same_param (as_read par) other) ≡ t
param par other e is t = rw (← e, ← is) t

pub rotations : (q k sweeps : ℕ) {pairs all : ℕ} {above t : Bool} → pairs ≡ all → above ≡ ltb (k * (sweeps * pairs)) q → above ≡ t → ltb (k * (sweeps * all)) q ≡ t
rotations q k sweeps e is t = rw (← e, ← is) t

pub spent : (a k : ℕ) → a ≤ k → leb 1 k ≡ leb (max a 1) k
spent a k h = go (leb 1 k) refl
  where
    go : (t : Bool) → leb 1 k ≡ t → leb 1 k ≡ leb (max a 1) k
    go true e = e ∙ sym (le-leb (max a 1) k (max-le h (leb-true 1 k e)))
    go false e =
        let one_within : 1 ≤ max a 1 = le-max_right a 1 in
        let before_it : k < 1 = leb-false 1 k e in
        e ∙ sym (lt-leb (max a 1) k (omega arith))

pub unspent : (a k : ℕ) → k < a → false ≡ leb (max a 1) k
unspent a k h =
    let within : a ≤ max a 1 = le-max_left a 1 in
    sym (lt-leb (max a 1) k (omega arith))

module _ (q k sweeps pairs : ℕ) where
  pub none_above : q ≡ 0 → false ≡ ltb (k * (sweeps * pairs)) q
  none_above e = sym (le-ltb (k * (sweeps * pairs)) q (omega arith))

  above_zero : k * (sweeps * pairs) ≡ 0 → (q ≡ 0 → ⊥) → true ≡ ltb (k * (sweeps * pairs)) q
  above_zero e some = sym (lt-ltb (k * (sweeps * pairs)) q (omega (arith, some)))

  pub above_no_pair : pairs ≡ 0 → (q ≡ 0 → ⊥) → true ≡ ltb (k * (sweeps * pairs)) q
  above_no_pair e some = above_zero (rw (e, mul-zero sweeps, mul-zero k)) some

  pub above_no_sweep : sweeps ≡ 0 → (q ≡ 0 → ⊥) → true ≡ ltb (k * (sweeps * pairs)) q
  above_no_sweep e some = above_zero (rw (e, zero-mul pairs, mul-zero k)) some

pub rows_left : (k written dropped : ℕ) → written ≤ k → ltb (k - written) dropped ≡ ltb k (written + dropped)
rows_left k written dropped h = go (ltb (k - written) dropped) refl
  where
    go : (t : Bool) → ltb (k - written) dropped ≡ t → t ≡ ltb k (written + dropped)
    go true e =
        let over : k - written < dropped = ltb-true (k - written) dropped e in
        sym (lt-ltb k (written + dropped) (omega arith))
    go false e =
        let under : dropped ≤ k - written = ltb-false (k - written) dropped e in
        sym (le-ltb k (written + dropped) (omega arith))

pub pairs_few : (d : ℕ) → triangle d ≤ 8191 → d * (d - 1) ≤ 16383
pairs_few d h =
    let fewer : d - 1 ≤ d + 1 = omega arith in
    omega (arith, mul-le-mul_left d fewer)

pub rows_more : (k written dropped : ℕ) → k < written → true ≡ ltb k (written + dropped)
rows_more k written dropped h = sym (lt-ltb k (written + dropped) (omega arith))
