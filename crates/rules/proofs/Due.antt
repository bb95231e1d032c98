-- Which steps are due, and how many of them: steps 1, 1 + period, 1 + 2·period and so on.
use Prim.Native.Nat.{ℕ, zero, suc, ◌+◌, ◌-◌, ◌*◌, ◌/◌, ◌%◌, ◌≤◌, ◌<◌}
use native.Mathlib.Nat.{div-add-mod', mul-mod_left, mul-le-mul_right, suc-mul, div-eq_of_lt-le}
use native.Mathlib.Omega.{arith}
use mathlib.Core.Path.{◌≡◌, refl, sym, ◌∙◌}
use mathlib.Core.Logic.{◌↔◌}
use mathlib.Core.Bool.{Bool, true, false, ◌&&◌, true≢false}
use borrow.Author.Tests.{ltb-true, eqb-true, lt-ltb}
use lib.Dec.{ltb, eqb}
use Rattle.rules.specs.Progress.{is_due}
use Rattle.rules.specs.Demands.{DueStep, due_up_to}
use Rattle.rules.proofs.Columns.{by_less}
use Rattle.rules.proofs.Matrices.{both_true}

-- ---- one step

-- whole periods, with nothing left over
whole : (period k : ℕ) → k % period ≡ 0 → k ≡ k / period * period
whole period k e = omega (arith, div-add-mod' k period)

due_at_row : (period k : ℕ) → is_due period k ≡ true → DueStep period k
unfolding is_due
due_at_row period k due =
    let t = both_true (ltb 0 period && ltb 0 k) (eqb ((k - 1) % period) 0) due in
    let u = both_true (ltb 0 period) (ltb 0 k) t.0 in
    let some = ltb-true 0 period u.0 in
    let first = ltb-true 0 k u.1 in
    let periods = whole period (k - 1) (eqb-true _ _ t.1) in
    record { some = omega arith; before = (k - 1) / period; is = omega arith }

row_is_due : (period k : ℕ) → DueStep period k → is_due period k ≡ true
unfolding is_due
row_is_due period k r =
    let earlier : k - 1 ≡ r.before * period = omega (arith, r.is) in
    let some : 0 < period = omega (arith, r.some) in
    let first : 0 < k = omega (arith, r.is) in
    rw (lt-ltb 0 period some, lt-ltb 0 k first, earlier, mul-mod_left r.before period)

-- A row is due at steps 1, 1 + period, 1 + 2·period and so on, and at no other.
pub due_exactly : (period k : ℕ) → (is_due period k ≡ true) ↔ DueStep period k
due_exactly period k = (due_at_row period k, row_is_due period k)

-- ---- how many

module _ (period : ℕ) where
  pub none_due : due_up_to period 0 ≡ 0
  unfolding due_up_to
  none_due = refl

  pub due_more : (k : ℕ) → is_due period (suc k) ≡ true → due_up_to period (suc k) ≡ due_up_to period k + 1
  unfolding due_up_to
  due_more k due = rw due

  pub due_as_before : (k : ℕ) → is_due period (suc k) ≡ false → due_up_to period (suc k) ≡ due_up_to period k
  unfolding due_up_to
  due_as_before k not_due = rw not_due (omega arith)

-- count is k over period, rounded up
record RoundedUp (period k count : ℕ) : Type 0 where
  enough : k ≤ count * period
  not_more : count * period < k + period

-- one more is a period more
period_more : (period a b : ℕ) → a < b → a * period + period ≤ b * period
period_more period a b l = omega (arith, mul-le-mul_right period (next l), suc-mul a period)
  where
    next : a < b → suc a ≤ b
    next h = omega arith

-- whole periods are as many as the count
count_there : {period k count : ℕ} → RoundedUp period k count → (before : ℕ) → k ≡ before * period → before ≡ count
count_there {period} {k} {count} r before is =
    by_less before count (λ l. absurd (omega (arith, period_more period before count l, r.not_more)))
    (λ l. by_less count before (λ h. absurd (omega (arith, period_more period count before h, r.enough, r.not_more))) (λ h. omega arith))

-- where step suc k is due, whole periods are behind
due_count : {period k count : ℕ} → RoundedUp period k count → is_due period (suc k) ≡ true → k ≡ count * period
due_count {period} {k} {count} r due =
    let row = due_at_row period (suc k) due in
    let periods : k ≡ row.before * period = omega (arith, row.is) in
    let same = count_there r row.before periods in
    rw same at periods

rounded_more : {period k count : ℕ} → RoundedUp period k count → is_due period (suc k) ≡ true → RoundedUp period (suc k) (count + 1)
rounded_more {period} {k} {count} r due =
    let some = (due_at_row period (suc k) due).some in
    let there = due_count r due in
    record { enough = omega arith; not_more = omega arith }

rounded_as_before : {period k count : ℕ} → 1 ≤ period → RoundedUp period k count → is_due period (suc k) ≡ false → RoundedUp period (suc k) count
rounded_as_before {period} {k} {count} some r not_due =
    record {
      enough = by_less k (count * period) (λ l. omega arith)
          (λ l.
          let row : DueStep period (suc k) = record { some = some; before = count; is = omega (arith, r.enough) } in
          absurd (true≢false (sym (row_is_due period (suc k) row) ∙ not_due)));
      not_more = omega (arith, r.not_more);
    }

rounded_up : (period k : ℕ) → 1 ≤ period → RoundedUp period k (due_up_to period k)
rounded_up period zero some = rw (none_due period) (record { enough = omega arith; not_more = omega arith })
rounded_up period (suc k) some = go (rounded_up period k some) (is_due period (suc k)) refl
  where
    go : RoundedUp period k (due_up_to period k) → (t : Bool) → is_due period (suc k) ≡ t → RoundedUp period (suc k) (due_up_to period (suc k))
    go r true e = rw (due_more period k e) (rounded_more r e)
    go r false e = rw (due_as_before period k e) (rounded_as_before some r e)

-- Of the first k steps k over period are due, rounded up; none with a period of 0.
pub due_steps : (period k : ℕ) → 1 ≤ period → due_up_to period k ≡ (k + period - 1) / period
due_steps period k some =
    let r = rounded_up period k some in
    sym (div-eq_of_lt-le period (omega (arith, r.not_more)) (omega (arith, r.enough)))

never_due : (k : ℕ) → is_due 0 k ≡ false
unfolding is_due
never_due k = refl

pub no_period_no_steps : (k : ℕ) → due_up_to 0 k ≡ 0
no_period_no_steps zero = none_due 0
no_period_no_steps (suc k) = due_as_before 0 k (never_due (suc k)) ∙ no_period_no_steps k

-- where step suc k is due, as many periods are behind as rows
pub due_place : (period k : ℕ) → is_due period (suc k) ≡ true → k ≡ due_up_to period k * period
due_place period k due = due_count (rounded_up period k (due_at_row period (suc k) due).some) due

-- the rows of the first k steps are those of steps up to k
pub row_up_to : (period k j : ℕ) → j < due_up_to period k → 1 + j * period ≤ k
row_up_to zero k j l = absurd (omega (arith, no_period_no_steps k))
row_up_to (suc less) k j l =
    omega (arith, (rounded_up (suc less) k (omega arith)).not_more, period_more (suc less) j (due_up_to (suc less) k) l)
